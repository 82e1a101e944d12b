-- `pack_wide` meets its contract, by the sticky law. Assumes nothing.
use mathlib.Core.Path.{sym, ap, ◌∙◌, subst}
use Prim.Native.Nat.{ℕ, ◌+◌, ◌-◌, ◌*◌, ◌^◌, ◌≤◌, ◌<◌}
use native.Mathlib.Omega.{arith}
use lib.Count.{count_leading_zeros}
use lib.Ieee.{binary64, round}
use Rattle.mul_add.specs.code.Places.{word, scale}
use Rattle.mul_add.specs.code.Jam.{jam}
use Rattle.mul_add.proofs.JamLaws.{round-jam}
use Rattle.mul_add.proofs.WideLaws.{OneWord, one_word}
use Rattle.mul_add.proofs.pack.pack_wide.Goals as goal

led : (c : goal.Else-n-eq0) → OneWord c.args.n (count_leading_zeros 128 c.args.n)
led c = one_word c.args.n c.if-n-eq0.false c.ranges.n.fits

pub overflow_sub-d : goal.overflow_sub-d
overflow_sub-d c = (led c).zeros

pub overflow_cast-w : goal.overflow_cast-w
overflow_cast-w c = record { fits = subst (λ (m : ℕ). m < 2 ^ 64) (sym c.shift_right_jam-w.ensures) (led c.before).hi }

pub returns-else-n-eq0 : goal.returns-else-n-eq0
returns-else-n-eq0 c =
    let a = c.args in
    let d = word - count_leading_zeros 128 a.n in
    c.pack-else-n-eq0.ensures
    ∙ ap (λ (m : ℕ). round binary64 a.negative (m * 2 ^ (a.power + d)) (2 ^ scale)) c.shift_right_jam-w.ensures
    ∙ sym (round-jam binary64 a.negative scale a.power a.n d (many (jam a.n d) (led c.before.before).lo))
  where
    many : (n : ℕ) → 2 ^ 63 ≤ n → 2 ^ 54 ≤ n
    many n h = omega arith
