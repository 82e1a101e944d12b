-- `mul_add` meets its contract. Assumes nothing.
use mathlib.Core.Path.{◌≡◌, refl, sym, ◌∙◌, subst}
use mathlib.Core.Bool.{Bool, true, false, not}
use lib.Dec.{T}
use lib.Ieee.{binary64}
use lib.Ieee.Fits.{and_l, and_r}
use lib.Ieee.Scale.{finite}
use Rattle.mul_add.proofs.FmaLaws.{fma-wild, fma-addend}
use Rattle.mul_add.proofs.mul_add.Goals as goal
use Rattle.mul_add.proofs.mul_add.Goals.{then-not-is_finite, else-not-is_finite}

-- what `is_finite` says, with its test
no : {r b : Bool} → r ≡ b → r ≡ false → T b → ⊥
no e t h = subst T (sym e ∙ t) h

yes : {r b : Bool} → r ≡ b → r ≡ true → T b
yes e t = subst T (sym (sym e ∙ t)) tt

-- what a negated test says of it
off : {v r : Bool} → v ≡ not r → v ≡ true → r ≡ false
off {r = true} e h = sym h ∙ e
off {r = false} e h = refl

on : {v r : Bool} → v ≡ not r → v ≡ false → r ≡ true
on {r = true} e h = refl
on {r = false} e h = sym h ∙ e

pub returns-then-not-is_finite-2 : goal.returns-then-not-is_finite-2
returns-then-not-is_finite-2 c =
    let a = c.args in
    sym (fma-wild binary64 a.a a.b a.c (elim c.if-not-is_finite.branch [
      | then-not-is_finite w ↦ λ t. no c.is_finite.ensures w.if-not-is_finite.true (and_l (finite a.a) (finite a.b) t)
      | else-not-is_finite w ↦ λ t. no w.is_finite-else-not-is_finite.ensures (off w.value-is c.if-not-is_finite-2.true) (and_r (finite a.a) (finite a.b) t)
    ]))

pub returns-then-not-is_finite-3 : goal.returns-then-not-is_finite-3
returns-then-not-is_finite-3 c =
    let a = c.args in
    elim c.if-not-is_finite.branch [
      | then-not-is_finite w ↦ (cc)
      | else-not-is_finite w ↦ sym (fma-addend binary64 a.a a.b a.c (yes c.is_finite.ensures w.if-not-is_finite.false) (yes w.is_finite-else-not-is_finite.ensures (on w.value-is c.if-not-is_finite-2.false)) (no c.is_finite-else-not-is_finite-2.ensures c.if-not-is_finite-3.true))
    ]
