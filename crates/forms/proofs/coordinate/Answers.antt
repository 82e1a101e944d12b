-- `forms::coordinate` meets its contract: one law for each way out.
-- Assumes nothing.
use mathlib.Core.Path.{sym, ◌∙◌}
use native.Mathlib.Omega.{arith}
use borrow.Author.Tests.{ne_eqb}
use Rattle.big_endian.specs.Big.{number_at}
use Rattle.sheet.specs.Form.{double_kind}
use Rattle.forms.proofs.CoordinateLaws.{coordinate-integer, coordinate-absent, coordinate-valued, coordinate-other}
use Rattle.forms.proofs.coordinate.Goals as goal

pub returns-in-0 : goal.returns-in-0
returns-in-0 c = rw c.u64_at.ensures (coordinate-integer c.args.b.now c.args.at c.requires (sym c.u8_at.ensures ∙ c.in-0.is))

pub returns-in-1 : goal.returns-in-1
returns-in-1 c =
    rw (sym c.u8_at.ensures ∙ c.in-1.is) at (coordinate-other c.args.b.now c.args.at c.requires (λ e. omega arith) (λ e. omega arith))

pub returns-then-u64_at-eq0 : goal.returns-then-u64_at-eq0
returns-then-u64_at-eq0 c =
    rw c.u64_at-then-u64_at-eq0.ensures
    (coordinate-absent c.args.b.now c.args.at c.requires (sym c.u8_at.ensures ∙ c.in-2.is) (sym c.u64_at-in-2.ensures ∙ c.if-u64_at-eq0.true))

pub returns-else-u64_at-eq0 : goal.returns-else-u64_at-eq0
returns-else-u64_at-eq0 c =
    rw (ne_eqb c.u64_at-in-2.result 0 c.if-u64_at-eq0.false)
    (coordinate-valued c.args.b.now c.args.at c.requires (sym c.u8_at.ensures ∙ c.in-2.is) (λ e. c.if-u64_at-eq0.false (c.u64_at-in-2.ensures ∙ e)))

pub returns-in_default : goal.returns-in_default
returns-in_default c =
    let other = ne_eqb (number_at 1 c.args.b.now c.args.at) double_kind (λ e. omega arith) in
    rw other at (coordinate-other c.args.b.now c.args.at c.requires (λ e. omega arith) (λ e. omega arith))
