-- The database value of a scaled value, by its sign, digits and power. Assumes nothing.
use mathlib.Core.Path.{◌≡◌, refl, sym, ap, ◌∙◌}
use mathlib.Core.Bool.{Bool, true, false, not, cond}
use Prim.Native.Nat.{ℕ, zero, suc, ◌+◌, ◌-◌, ◌*◌, ◌/◌, ◌^◌, ◌≤◌, ◌<◌}
use native.Mathlib.Nat.{le_trans, le_of_eq, lt_of_lt_of_le, mul-one, mul-le-mul_left}
use native.Mathlib.Omega.{arith}
use lib.Dec.{T, lit<}
use lib.Pow.{pow_pos}
use lib.IntN.{ℤ, pos, negsuc}
use lib.Ieee.{Float, binary64, fits, round}
use lib.Ieee.Scale.{finite}
use borrow.Author.Tests.{ltb-true, lt-ltb, le-ltb}
use mir.Val.{SFits}
use mir.Syntax.{w32}
use Rattle.binary64.specs.Value.{unit, negative, signed, round_away, floor_of, ceil_of}
use Rattle.binary64.specs.code.Parts.{PartsOf}
use Rattle.binary64.specs.Step.{one_step}
use Rattle.binary64.proofs.WholeLaws.{nearest-up}
use Rattle.binary64.proofs.PartsLaws.{round-parts, floor-parts, ceil-parts}
use Rattle.binary64.proofs.NearestLaws.{nearest-parts, nearest-itself}
use Rattle.binary64.proofs.StepLaws.{step-self}
use Rattle.std.specs.Prelude.{Result, Ok, Err, OkIff, MatchResult, IsErrAnd}
use Rattle.refusal.specs.declared.Refusal.{Refusal}
use Rattle.refusal.specs.declared.Refusal.TheVariants as R
use Rattle.conversion.specs.declared.GdsRoundingPolicy.{GdsRoundingPolicy}
use Rattle.conversion.specs.declared.GdsRoundingPolicy.TheVariants.{Nearest, Floor, Ceil, ErrorIfOffGrid}
use Rattle.conversion.specs.Made.{Made, refused, pure, ◌>>=◌}
use Rattle.conversion.specs.Convert.{on_grid, rounded, in_range, ranged, grid_value}
use Rattle.conversion.specs.code.Answer.{made_of}
use Rattle.conversion.proofs.CodeLaws.{handed-on}
use Rattle.conversion.proofs.MadeLaws.{need-on, need-off, pure_then, refused-then}

-- ---- the range of 32 bits

range-fits : (z : ℤ) → in_range z ≡ true → SFits w32 z
range-fits (pos n) h = record { sfits = ltb-true n (2 ^ 31) h }
range-fits (negsuc n) h = record { sfits = ltb-true n (2 ^ 31) h }

fits-range : (z : ℤ) → SFits w32 z → in_range z ≡ true
fits-range (pos n) f = lt-ltb n (2 ^ 31) f.sfits
fits-range (negsuc n) f = lt-ltb n (2 ^ 31) f.sfits

unfit-range : (z : ℤ) → (SFits w32 z → ⊥) → in_range z ≡ false
unfit-range z h = go (in_range z) refl
  where
    go : (t : Bool) → in_range z ≡ t → in_range z ≡ false
    go true e = absurd (h (range-fits z e))
    go false e = e

-- what `i32::try_from` gives of z, read as y, with any error taken for out of range
pub ranged-of : {E : Type 0} (y z : ℤ) → y ≡ z → (r : Result ℤ E) → OkIff r (SFits w32 y) y → (w : Result ℤ Refusal)
    → MatchResult r (λ x. w ≡ Ok x) (λ e. IsErrAnd w (λ x. x ≡ R.OutOfRange)) → made_of w ≡ ranged z
unfolding ranged
ranged-of y z e (Ok x) h w m =
    ap made_of m ∙ ap (λ (i : ℤ). pure i) (h.1 ∙ e) ∙ sym (need-on (in_range z) R.OutOfRange (pure z) (ap in_range (sym e) ∙ fits-range y h.0))
ranged-of y z e (Err x) h w m = handed-on R.OutOfRange w m ∙ sym (need-off (in_range z) R.OutOfRange (pure z) (ap in_range (sym e) ∙ unfit-range y h))

far : (s : Bool) (n : ℕ) → 2 ^ 31 < n → in_range (signed s n) ≡ false
far false n h = le-ltb n (2 ^ 31) (omega arith)
far true zero h = absurd (omega arith)
far true (suc n) h = le-ltb n (2 ^ 31) (omega arith)

-- ---- each policy's value

module _ (policy : GdsRoundingPolicy) (x : Float) where
  value_of : (q : ℤ) → rounded policy x ≡ pure q → ranged q ≡ grid_value policy x
  unfolding grid_value
  value_of q e = sym (ap (λ (m : Made ℤ). m >>= ranged) e ∙ pure_then q ranged)

  grid-of : (p : GdsRoundingPolicy) → policy ≡ p → rounded policy x ≡ rounded p x
  grid-of p e = ap (λ (y : GdsRoundingPolicy). rounded y x) e

  pub grid-nearest : policy ≡ Nearest → ranged (round_away x) ≡ grid_value policy x
  unfolding rounded
  grid-nearest e = value_of (round_away x) (grid-of Nearest e)

  grid-floor : policy ≡ Floor → on_grid x ≡ false → ranged (floor_of x) ≡ grid_value policy x
  unfolding rounded
  grid-floor e h = value_of (floor_of x) (grid-of Floor e ∙ ap (λ (t : Bool). pure (cond t (round_away x) (floor_of x))) h)

  grid-ceil : policy ≡ Ceil → on_grid x ≡ false → ranged (ceil_of x) ≡ grid_value policy x
  unfolding rounded
  grid-ceil e h = value_of (ceil_of x) (grid-of Ceil e ∙ ap (λ (t : Bool). pure (cond t (round_away x) (ceil_of x))) h)

  pub grid-off : policy ≡ ErrorIfOffGrid → on_grid x ≡ false → refused R.OffGrid ≡ grid_value policy x
  unfolding grid_value rounded
  grid-off e h = sym (ap (λ (m : Made ℤ). m >>= ranged) (grid-of ErrorIfOffGrid e ∙ need-off (on_grid x) R.OffGrid (pure (round_away x)) h) ∙ refused-then R.OffGrid ranged)

-- what is on the grid is rounded to the nearest by every policy
pub on-rounded : (policy : GdsRoundingPolicy) (x : Float) → on_grid x ≡ true → rounded policy x ≡ pure (round_away x)
unfolding rounded
on-rounded Nearest x h = refl
on-rounded Floor x h = rw h
on-rounded Ceil x h = rw h
on-rounded ErrorIfOffGrid x h = need-on (on_grid x) R.OffGrid (pure (round_away x)) h

pub grid-on : (policy : GdsRoundingPolicy) (x : Float) → on_grid x ≡ true → ranged (round_away x) ≡ grid_value policy x
grid-on policy x h = value_of policy x (round_away x) (on-rounded policy x h)

-- ---- by parts

module _ (x : Float) (s : Bool) (m j : ℕ) (p : PartsOf x s m j) where
  -- the test of the code is the definition's
  pub grid-test : (n : ℕ) → n ≡ (2 * (m * 2 ^ j) + unit) / (2 * unit) → (t : Bool) → one_step x (round binary64 (negative x) n 1) ≡ t → on_grid x ≡ t
  unfolding on_grid
  grid-test n e t h = ap (one_step x) (sym (ap (λ (z : Bool). round binary64 z n 1) p.sign ∙ nearest-parts x s m j p n e)) ∙ h

  -- a whole number of size n: the nearest, the one below and the one above
  module _ (n : ℕ) where
    pub nearest-value : n ≡ (2 * (m * 2 ^ j) + unit) / (2 * unit) → ranged (signed s n) ≡ ranged (round_away x)
    nearest-value e = ap ranged (round-parts x s m j p n e)

    pub floor-value : n ≡ cond s ((m * 2 ^ j + unit - 1) / unit) (m * 2 ^ j / unit) → (policy : GdsRoundingPolicy) → policy ≡ Floor → on_grid x ≡ false → ranged (signed s n) ≡ grid_value policy x
    floor-value e policy k o = ap ranged (floor-parts x s m j p n e) ∙ grid-floor policy x k o

    pub ceil-value : n ≡ cond (not s) ((m * 2 ^ j + unit - 1) / unit) (m * 2 ^ j / unit) → (policy : GdsRoundingPolicy) → policy ≡ Ceil → on_grid x ≡ false → ranged (signed s n) ≡ grid_value policy x
    ceil-value e policy k o = ap ranged (ceil-parts x s m j p n e) ∙ grid-ceil policy x k o

  -- from 2 ^ 52 on a double is whole, and so on the grid; it is out of range
  pub grid-far : T (fits binary64 x) → T (finite x) → 1074 ≤ j → (policy : GdsRoundingPolicy) → refused R.OutOfRange ≡ grid_value policy x
  unfolding on_grid ranged
  grid-far F f h policy =
      let N = m * 2 ^ (j - 1074) in
      let l : 2 ^ 31 < N = lt_of_lt_of_le (lit< tt) (le_trans (p.lead (lt_of_lt_of_le (lit< tt) h)) (le_trans (le_of_eq (sym (mul-one m))) (mul-le-mul_left m (pow_pos (j - 1074))))) in
      let e : signed s N ≡ round_away x = round-parts x s m j p N (nearest-up m j 1074 h) in
      sym (need-off (in_range (round_away x)) R.OutOfRange (pure (round_away x)) (ap in_range (sym e) ∙ far s N l))
      ∙ grid-on policy x (ap (one_step x) (nearest-itself x s m j p F f h) ∙ step-self x)
