-- `half_even` meets its contract: past one word nothing is left. Assumes nothing.
use mathlib.Core.Path.{◌≡◌}
use Prim.Native.Nat.{ℕ, ◌*◌, ◌^◌, ◌≤◌, ◌<◌}
use native.Mathlib.Nat.{le_trans}
use native.Mathlib.Omega.{arith}
use lib.Pow.{pow_mono}
use Rattle.mul_add.proofs.HalfEvenLaws.{even-none}
use Rattle.mul_add.proofs.pack.half_even.Goals as goal

pub returns-else-shift-eq-WORD : goal.returns-else-shift-eq-WORD
returns-else-shift-eq-WORD c =
    even-none c.args.n c.args.shift c.ranges.n.fits c.if-shift-lt-WORD.false (le_trans (twice c.args.n c.ranges.n.fits) (pow_mono (past c.args.shift c.if-shift-lt-WORD.false c.if-shift-eq-WORD.false)))
  where
    twice : (n : ℕ) → n < 2 ^ 64 → n * 2 ≤ 2 ^ 65
    twice n h = omega arith

    past : (d : ℕ) → 64 ≤ d → (d ≡ 64 → ⊥) → 65 ≤ d
    past d h n = omega arith
