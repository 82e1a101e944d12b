-- `add` meets its contract, by the law of alignment. Assumes nothing.
use mathlib.Core.Path.{◌≡◌, sym, ap, ◌∙◌, subst}
use mathlib.Core.Bool.{Bool}
use Prim.Native.Nat.{ℕ, ◌-◌, ◌*◌, ◌^◌, ◌≤◌, ◌<◌}
use native.Mathlib.Nat.{le_of_lt}
use lib.Ieee.{Float, binary64, sum}
use Rattle.mul_add.specs.code.Places.{scale}
use Rattle.mul_add.specs.code.Jam.{jam}
use Rattle.mul_add.specs.code.Normal.{Ready}
use Rattle.mul_add.proofs.WideLaws.{jam-under}
use Rattle.mul_add.proofs.SumLaws.{sum_comm}
use Rattle.mul_add.proofs.AlignLaws.{sum-aligned}
use Rattle.mul_add.proofs.add.add.Goals as goal

-- b is jammed to y, at the power of a, which is no smaller
module _ (a i b j y : ℕ) (A : Ready a i) (B : Ready b j) (e : y ≡ jam b (i - j)) where
  asked : y < 2 ^ 126
  asked = subst (λ (z : ℕ). z < 2 ^ 126) (sym e) (jam-under b (i - j) B.hi)

  -- what `add_at` gives of a and y
  module _ (s t : Bool) (r : Float) (l : j ≤ i) (is : r ≡ sum binary64 s (a * 2 ^ i) t (y * 2 ^ i) (2 ^ scale)) where
    aligned : r ≡ sum binary64 s (a * 2 ^ i) t (b * 2 ^ j) (2 ^ scale)
    aligned = is ∙ ap (λ (w : ℕ). sum binary64 s (a * 2 ^ i) t (w * 2 ^ i) (2 ^ scale)) e ∙ sym (sum-aligned s t scale a i b j A B l)

    swapped : r ≡ sum binary64 t (b * 2 ^ j) s (a * 2 ^ i) (2 ^ scale)
    swapped = aligned ∙ sum_comm binary64 s t (a * 2 ^ i) (b * 2 ^ j) (2 ^ scale)

pub add_at-requires-clause-y_bound : goal.add_at-requires-clause-y_bound
add_at-requires-clause-y_bound c =
    let x = c.args.x in
    let y = c.args.y in
    asked x.digits x.power y.digits y.power c.shift_right_jam-aligned.result c.requires.x_ready c.requires.y_ready c.shift_right_jam-aligned.ensures

pub add_at-requires-else-y-x-clause-y_bound : goal.add_at-requires-else-y-x-clause-y_bound
add_at-requires-else-y-x-clause-y_bound c =
    let x = c.args.x in
    let y = c.args.y in
    asked y.digits y.power x.digits x.power c.shift_right_jam-aligned-else-y-x.result c.requires.y_ready c.requires.x_ready c.shift_right_jam-aligned-else-y-x.ensures

pub returns-then-y-x : goal.returns-then-y-x
returns-then-y-x c =
    let x = c.args.x in
    let y = c.args.y in
    aligned x.digits x.power y.digits y.power c.shift_right_jam-aligned.result c.requires.x_ready c.requires.y_ready c.shift_right_jam-aligned.ensures x.negative y.negative c.add_at.result c.if-y-x.true c.add_at.ensures

pub returns-else-y-x : goal.returns-else-y-x
returns-else-y-x c =
    let x = c.args.x in
    let y = c.args.y in
    swapped y.digits y.power x.digits x.power c.shift_right_jam-aligned-else-y-x.result c.requires.y_ready c.requires.x_ready c.shift_right_jam-aligned-else-y-x.ensures y.negative x.negative c.add_at-else-y-x.result (le_of_lt c.if-y-x.false) c.add_at-else-y-x.ensures
