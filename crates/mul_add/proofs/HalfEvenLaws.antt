-- A word n divided by 2 ^ d to the nearest, a tie to the even one, by a whole word or more. Assumes nothing.
use mathlib.Core.Path.{◌≡◌, sym, ap, ◌∙◌, subst}
use mathlib.Core.Logic.{inl, inr}
use Prim.Native.Nat.{ℕ, ◌+◌, ◌*◌, ◌%◌, ◌^◌, ◌≤◌, ◌<◌}
use native.Mathlib.Nat.{lt_of_lt_of_le, eq-or-lt_of_le, mod-eq_of_lt, div-eq_of_lt}
use lib.Pow.{pow_mono}
use lib.Ieee.Nearest.{closest}
use Rattle.binary64.proofs.Half.{closest-below, closest-tie}

-- ---- by a whole word or more, where the quotient is 0
module _ (n d : ℕ) (h : n < 2 ^ 64) (k : 64 ≤ d) where
  under : n < 2 ^ d
  under = lt_of_lt_of_le h (pow_mono k)

  pub even-none : n * 2 ≤ 2 ^ d → 0 ≡ closest n (2 ^ d)
  even-none l = elim (eq-or-lt_of_le l) [
    | inl e ↦ sym (closest-tie n (2 ^ d) (ap (λ (z : ℕ). z * 2) (mod-eq_of_lt under) ∙ e) ∙ ap (λ (z : ℕ). z + z % 2) (div-eq_of_lt under))
    | inr l ↦ sym (closest-below n (2 ^ d) (subst (λ (z : ℕ). z * 2 < 2 ^ d) (sym (mod-eq_of_lt under)) l) ∙ div-eq_of_lt under)
  ]
