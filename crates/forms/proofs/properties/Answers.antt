-- `forms::properties` meets its contract. The loop's invariant: the next property begins in the block, and what is left decides.
-- Assumes nothing.
use mathlib.Core.Path.{◌≡◌, sym, subst}
use lib.ListN.{length}
use Prim.Native.Nat.{◌+◌}
use native.Mathlib.Omega.{arith}
use borrow.Author.Rules.{rules}
use Rattle.sheet.specs.Element.{property}
use Rattle.block_places.specs.code.Place.{property_at, property_end}
use Rattle.forms.proofs.Walk.{Left, left-turn, left-ill, left_end, left-place}
use Rattle.forms.proofs.PropertyLaws.{property-is, property-long, property-short, properties-short, properties-ill, properties-long, properties-are}
use Rattle.forms.proofs.properties.Goals as goal

pub returns-then-b-at : goal.returns-then-b-at
returns-then-b-at c = properties-short c.args.b.now c.args.at c.requires c.if-b-at.true

pub returns-then-b-value : goal.returns-then-b-value
returns-then-b-value c =
    properties-ill c.args.b.now c.args.at c.u16_at-count.result c.if-b-at.false c.u16_at-count.ensures
    (left-ill _ _ _ _ _ _ _ _ c.loop.invariant.left c.loop-test.true (property-short c.args.b.now c.loop.end c.loop.invariant.place (omega arith)))

pub returns-then-b-end : goal.returns-then-b-end
returns-then-b-end c =
    properties-ill c.args.b.now c.args.at c.u16_at-count.result c.if-b-at.false c.u16_at-count.ensures
    (left-ill _ _ _ _ _ _ _ _ c.loop.invariant.left c.loop-test.true (property-long c.args.b.now c.loop.end (omega arith) (omega arith)))

pub loop-preserved : goal.loop-preserved
loop-preserved c =
    let b = c.args.b.now in
    let at = c.loop.end in
    let turn = left-turn _ _ _ _ _ _ _ _ c.loop.invariant.left c.loop-test.true (property-is b at (omega arith)) in
    record {
      place = search rules;
      left = subst (Left property property_at property_end b c.u16_at-count.result (c.args.at + 2) (c.loop.counter + 1)) (sym c.string_end-end.ensures.0) turn;
    }

pub returns-then-end-b : goal.returns-then-end-b
returns-then-end-b c =
    properties-long c.args.b.now c.args.at c.u16_at-count.result c.if-b-at.false c.u16_at-count.ensures c.loop.end
    (left_end _ _ _ _ _ _ _ _ c.loop.invariant.left c.loop-test.false) c.loop.invariant.place (λ (e : c.loop.end ≡ length c.args.b.now). omega arith)

pub returns : goal.returns
returns c =
    properties-are c.args.b.now c.args.at c.u16_at-count.result c.if-b-at.false c.u16_at-count.ensures c.loop.end
    (left_end _ _ _ _ _ _ _ _ c.loop.invariant.left c.loop-test.false) (left-place _ _ _ _ _ _ _ _ c.loop.invariant.left c.loop-test.false) (omega arith)
