-- `walk::measure_head` meets its contract: form, stamps, name, in this order. Assumes nothing.
use mathlib.Core.Bool.{true}
use mathlib.Core.Path.{◌≡◌, subst}
use Rattle.forms.specs.code.Checks.{HeadRead}
use Rattle.walk.proofs.HeadLaws.{stamps-stop, name-stop, head-through, head_small}
use Rattle.walk.proofs.measure_head.Goals as goal

-- that the stamps have passed is told by what is known there, whichever test stands first
pub returns-then-not-named-clause-value : goal.returns-then-not-named-clause-value
returns-then-not-named-clause-value c =
    let read = subst (HeadRead c.args.b.now) c.in_ok-places.ensures.ok_part c.head_of.ensures in
    let passed : c.stamps_fit-dated.result ≡ true = cc in
    name-stop read c.stamps_fit-dated.ensures passed c.string_at-name.ensures c.validate_structure_name-named.ensures c.if-not-named.true

pub returns-then-not-dated-clause-value : goal.returns-then-not-dated-clause-value
returns-then-not-dated-clause-value c =
    let read = subst (HeadRead c.args.b.now) c.in_ok-places.ensures.ok_part c.head_of.ensures in
    stamps-stop read c.stamps_fit-dated.ensures c.if-not-dated.true

pub returns-clause-value : goal.returns-clause-value
returns-clause-value c =
    let read = subst (HeadRead c.args.b.now) c.in_ok-places.ensures.ok_part c.head_of.ensures in
    head-through read c.stamps_fit-dated.ensures c.if-not-dated.false c.string_at-name.ensures c.validate_structure_name-named.ensures c.if-not-named.false

pub returns-clause-head_small : goal.returns-clause-head_small
returns-clause-head_small c =
    head_small c.string_at-name.result.now c.validate_structure_name-named.result c.validate_structure_name-named.ensures c.if-not-named.false
