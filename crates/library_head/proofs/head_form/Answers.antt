-- `library_head::head_form` meets its contract: one law for each way out. Assumes nothing.
use mathlib.Core.Path.{sym}
use Rattle.library_head.proofs.FormLaws.{head-bare, head-other, head-is}
use Rattle.library_head.proofs.head_form.Goals as goal

pub returns-then-b-lt-NUMBER : goal.returns-then-b-lt-NUMBER
returns-then-b-lt-NUMBER c = head-bare c.args.b.now c.if-b-lt-NUMBER.true

pub returns-then-b-unit : goal.returns-then-b-unit
returns-then-b-unit c =
    head-other c.args.b.now c.string_end-unit.result c.if-b-lt-NUMBER.false (sym c.string_end-unit.ensures.0) c.if-b-unit.true

pub returns : goal.returns
returns c =
    head-is c.args.b.now c.string_end-unit.result c.if-b-lt-NUMBER.false (sym c.string_end-unit.ensures.0) c.if-b-unit.false
