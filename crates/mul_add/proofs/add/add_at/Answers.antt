-- `add_at` meets its contract: each branch is a case of `sum`. Assumes nothing.
use mathlib.Core.Path.{◌≡◌, refl, sym, ap, ◌∙◌}
use mathlib.Core.Bool.{false}
use Prim.Native.Nat.{ℕ, ◌*◌, ◌^◌}
use native.Mathlib.Nat.{le_antisymm, add-mul, mul-lt-mul_of_pos_right}
use lib.Pow.{pow_pos}
use lib.Ieee.{binary64, round, of_bits}
use Rattle.mul_add.specs.code.Places.{scale}
use Rattle.mul_add.proofs.SumLaws.{sum_like, sum_less, sum_more, sum_level}
use Rattle.mul_add.proofs.AlignLaws.{sub-mul}
use Rattle.mul_add.proofs.add.add_at.Goals as goal

-- 0.0
plus-zero : of_bits binary64 0 ≡ round binary64 false 0 (2 ^ scale)
unfolding of_bits round
plus-zero = refl

pub returns-then-s-t : goal.returns-then-s-t
returns-then-s-t c =
    let a = c.args in
    c.pack_wide.ensures
    ∙ ap (λ (z : ℕ). round binary64 a.s z (2 ^ scale)) (add-mul a.x a.y (2 ^ a.power))
    ∙ sym (sum_like binary64 a.s a.t (a.x * 2 ^ a.power) (a.y * 2 ^ a.power) (2 ^ scale) c.if-s-t.true)

pub returns-then-x-y : goal.returns-then-x-y
returns-then-x-y c =
    let a = c.args in
    c.pack_wide-then-x-y.ensures
    ∙ ap (λ (z : ℕ). round binary64 a.t z (2 ^ scale)) (sym (sub-mul a.y a.x (2 ^ a.power)))
    ∙ sym (sum_less binary64 a.s a.t (a.x * 2 ^ a.power) (a.y * 2 ^ a.power) (2 ^ scale) c.if-s-t.false (mul-lt-mul_of_pos_right c.if-x-y.true (pow_pos a.power)))

pub returns-then-y-x : goal.returns-then-y-x
returns-then-y-x c =
    let a = c.args in
    c.pack_wide-then-y-x.ensures
    ∙ ap (λ (z : ℕ). round binary64 a.s z (2 ^ scale)) (sym (sub-mul a.x a.y (2 ^ a.power)))
    ∙ sym (sum_more binary64 a.s a.t (a.x * 2 ^ a.power) (a.y * 2 ^ a.power) (2 ^ scale) c.if-s-t.false (mul-lt-mul_of_pos_right c.if-y-x.true (pow_pos a.power)))

pub returns-else-y-x : goal.returns-else-y-x
returns-else-y-x c =
    let a = c.args in
    plus-zero ∙ sym (sum_level binary64 a.s a.t (a.x * 2 ^ a.power) (a.y * 2 ^ a.power) (2 ^ scale) c.if-s-t.false (ap (λ (z : ℕ). z * 2 ^ a.power) (le_antisymm c.if-y-x.false c.if-x-y.false)))
