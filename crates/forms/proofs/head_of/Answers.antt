-- `forms::head_of` meets its contract: one law for each way out.
-- Assumes nothing.
use mathlib.Core.Path.{refl, sym}
use Rattle.forms.proofs.HeadLaws.{head-bare, head-other, head-is}
use Rattle.forms.proofs.head_of.Goals as goal

pub returns-then-b-lt-NUMBER : goal.returns-then-b-lt-NUMBER
returns-then-b-lt-NUMBER c = head-bare c.args.b.now c.if-b-lt-NUMBER.true

pub returns-then-b-stamps : goal.returns-then-b-stamps
returns-then-b-stamps c =
    head-other c.args.b.now c.string_end-stamps.result c.if-b-lt-NUMBER.false (sym c.string_end-stamps.ensures.0) c.if-b-stamps.true

pub returns : goal.returns
returns c =
    head-is c.args.b.now c.string_end-stamps.result c.if-b-lt-NUMBER.false (sym c.string_end-stamps.ensures.0) _ c.if-b-stamps.false refl refl
