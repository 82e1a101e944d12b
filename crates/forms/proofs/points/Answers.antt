-- `forms::points` meets its contract: what is left of the points decides.
-- Assumes nothing.
use Prim.Native.Nat.{◌+◌, ◌*◌}
use native.Mathlib.Omega.{arith}
use lib.ListN.{length-drop}
use borrow.Author.Rules.{rules}
use Rattle.sheet.specs.Form.{point}
use Rattle.forms.proofs.Step.{moved}
use Rattle.forms.proofs.Sized.{sized-times, sized-point}
use Rattle.forms.proofs.Walk.{left-turn, left-ill, left_end}
use Rattle.forms.proofs.points.Goals as goal

pub returns-then-b-from : goal.returns-then-b-from
returns-then-b-from c = record { is = (sized-times 34 c.args.n point sized-point).short _ (simp length-drop (omega arith)) }

pub returns-then-not-point : goal.returns-then-not-point
returns-then-not-point c =
    record { is = left-ill _ _ _ _ _ _ _ _ c.loop.invariant.left c.loop-test.true c.if-not-point.ensures.is }

pub loop-preserved : goal.loop-preserved
loop-preserved c =
    record {
      place = search rules;
      left = left-turn _ _ _ _ _ _ _ _ c.loop.invariant.left c.loop-test.true c.if-not-point.ensures.is;
    }

pub returns : goal.returns
returns c =
    let all = left_end _ _ _ _ _ _ _ _ c.loop.invariant.left c.loop-test.false in
    record { is = moved c.args.b.now c.loop.at (c.args.from + 34 * c.args.n) (omega arith) all }
