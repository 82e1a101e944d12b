-- `pack` meets its contract: `pattern` says which pattern the rounded number has, with either sign. Assumes nothing.
use mathlib.Core.Path.{◌≡◌, sym, ap, ◌∙◌, subst}
use mathlib.Core.Bool.{Bool, true, false, not, cond}
use Prim.Native.Nat.{ℕ, ◌+◌, ◌*◌, ◌^◌}
use native.Mathlib.Nat.{add_comm, zero-add}
use lib.Dec.{T}
use lib.Ieee.{binary64, round, of_bits, nan_bits}
use Rattle.mul_add.specs.code.Places.{scale, sign_bit}
use Rattle.mul_add.specs.code.Pattern.{Pattern}
use Rattle.mul_add.proofs.PatternLaws.{pattern-no-nan}
use Rattle.mul_add.proofs.pack.pack.Goals as goal

-- the sign is a flag that was tested, and b the pattern with it
module _ (s : Bool) (m p r : ℕ) (v : Pattern m p r) (b : ℕ) (e : cond s sign_bit 0 + r ≡ b) where
  no_nan : T (not (nan_bits binary64 b))
  no_nan = subst (λ (z : ℕ). T (not (nan_bits binary64 z))) e (pattern-no-nan s r v.small)

  is-round : (t : Bool) → t ≡ s → of_bits binary64 b ≡ round binary64 t (m * 2 ^ p) (2 ^ scale)
  is-round t f = ap (of_bits binary64) (sym e) ∙ sym (v.value s) ∙ ap (λ (u : Bool). round binary64 u (m * 2 ^ p) (2 ^ scale)) (sym f)

pub float_from_bits-result : goal.float_from_bits-result
float_from_bits-result c =
    let a = c.args in
    let r = c.pattern-p.result in
    no_nan true a.m a.power r c.pattern-p.ensures (r + sign_bit) (add_comm sign_bit r)

pub float_from_bits-result-else-negative : goal.float_from_bits-result-else-negative
float_from_bits-result-else-negative c =
    let a = c.args in
    let r = c.pattern-p.result in
    no_nan false a.m a.power r c.pattern-p.ensures r (zero-add r)
