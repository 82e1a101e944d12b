-- What a test's answers tell of the cases that differ. Assumes nothing.
use mathlib.Core.Path.{◌≡◌, refl, ap, ap₂}
use mathlib.Core.Bool.{Bool, true, false, cond}
use Prim.Native.Nat.{ℕ, ◌+◌, ◌≤◌, ◌<◌}
use native.Mathlib.Omega.{arith}
use Rattle.test_report.specs.Cases.{Differ, differing}
use Rattle.test_report.specs.Cases.Differ.{none, more}

one : (b : Bool) → cond b 0 1 ≤ 1
one true = omega arith
one false = omega arith

-- no more than there are
pub few : {answers : ℕ → Bool → Type 0} {n found : ℕ} → Differ answers n found → found ≤ n
few none = omega arith
few (more agrees h d) = omega (arith, few d, one agrees)

-- where the test's answers are those of f
pub by_answers : (f : ℕ → Bool) {answers : ℕ → Bool → Type 0} {n found : ℕ} → ((k : ℕ) (b : Bool) → k < n → answers k b → b ≡ f k) → Differ answers n found → found ≡ differing f n
unfolding differing
by_answers f e none = refl
by_answers f e (more {n} agrees h d) = ap₂ ◌+◌ (by_answers f (λ k b l p. e k b (omega arith) p) d) (ap (λ (b : Bool). cond b 0 1) (e n agrees (omega arith) h))
