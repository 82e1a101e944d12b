-- `all_zero` meets its contract: a number that is not zero, the next number, the end. Assumes nothing.
use mathlib.Core.Path.{sym, ◌∙◌}
use mathlib.Core.Bool.{true, false}
use borrow.Author.Tests.{eq-eqb, ne_eqb}
use Rattle.validation.proofs.StampLaws.{zero_turn, zero-end}
use Rattle.validation.proofs.all_zero.Goals as goal

pub returns-then-u16_at-ne0 : goal.returns-then-u16_at-ne0
returns-then-u16_at-ne0 c =
    sym (c.loop-i.invariant ∙ zero_turn _ _ _ _ false c.loop-i-test.true (rw (← c.u16_at.ensures) (ne_eqb _ 0 c.if-u16_at-ne0.true)))

pub loop-i-preserved : goal.loop-i-preserved
loop-i-preserved c =
    c.loop-i.invariant ∙ zero_turn _ _ _ _ true c.loop-i-test.true (rw (← c.u16_at.ensures) (eq-eqb _ 0 c.if-u16_at-ne0.false))

pub returns : goal.returns
returns c = sym (c.loop-i.invariant ∙ zero-end _ _ _ _ c.loop-i-test.false)
