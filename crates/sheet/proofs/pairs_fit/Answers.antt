use mathlib.Core.Path.{sym, ◌∙◌}
use native.Mathlib.Omega.{arith}
use borrow.Author.Rules.{rules}
use borrow.Author.Tests.{le-leb, lt-leb}
use Rattle.sheet.specs.Blocks.{pairs_fit}
use Rattle.sheet.proofs.PairLaws.{pairs_start, pair-good, pair-apart, pair-empty, pair-long, pairs_end}
use Rattle.sheet.proofs.pairs_fit.Goals as goal

pub returns-then-sheet-lt4 : goal.returns-then-sheet-lt4
unfolding pairs_fit
returns-then-sheet-lt4 c = rw (lt-leb _ _ c.if-sheet-lt4.true)

pub returns-then-n-lt1 : goal.returns-then-n-lt1
unfolding pairs_fit
returns-then-n-lt1 c = rw (← c.u32_at-n.ensures, le-leb _ _ c.if-sheet-lt4.false, lt-leb _ _ c.if-n-lt1.true)

pub returns-then-n-gt-MAX_PAIRS : goal.returns-then-n-gt-MAX_PAIRS
unfolding pairs_fit
returns-then-n-gt-MAX_PAIRS c = rw (← c.u32_at-n.ensures, le-leb _ _ c.if-sheet-lt4.false, le-leb _ _ c.if-n-lt1.false, lt-leb _ _ c.if-n-gt-MAX_PAIRS.true)

pub returns-then-sheet-n : goal.returns-then-sheet-n
unfolding pairs_fit
returns-then-sheet-n c = rw (← c.u32_at-n.ensures, le-leb _ _ c.if-sheet-lt4.false, le-leb _ _ c.if-n-lt1.false, le-leb _ _ c.if-n-gt-MAX_PAIRS.false, lt-leb _ _ c.if-sheet-n.true)

pub loop-k-init : goal.loop-k-init
loop-k-init c = record { ends = search rules; rest = pairs_start _ _ c.u32_at-n.ensures c.if-sheet-lt4.false c.if-n-lt1.false c.if-n-gt-MAX_PAIRS.false c.if-sheet-n.false }

pub returns-then-offset-end : goal.returns-then-offset-end
returns-then-offset-end c = sym (c.loop-k.invariant.rest ∙ pair-apart _ _ _ _ c.loop-k-test.true (λ e. c.if-offset-end.true (c.u32_at-offset.ensures ∙ e)))

pub returns-then-length-lt1 : goal.returns-then-length-lt1
returns-then-length-lt1 c = sym (c.loop-k.invariant.rest ∙ pair-empty _ _ _ _ c.loop-k-test.true (sym c.u32_at-offset.ensures ∙ c.if-offset-end.false) (omega arith))

pub returns-then-sheet-end : goal.returns-then-sheet-end
returns-then-sheet-end c = sym (c.loop-k.invariant.rest ∙ pair-long _ _ _ _ _ c.loop-k-test.true (sym c.u32_at-offset.ensures ∙ c.if-offset-end.false) c.u32_at-length.ensures (omega arith) c.if-sheet-end.true)

pub loop-k-preserved : goal.loop-k-preserved
loop-k-preserved c = record { ends = search rules; rest = c.loop-k.invariant.rest ∙ pair-good _ _ _ _ _ c.loop-k-test.true (sym c.u32_at-offset.ensures ∙ c.if-offset-end.false) c.u32_at-length.ensures (omega arith) c.if-sheet-end.false }

pub returns : goal.returns
returns c = sym (c.loop-k.invariant.rest ∙ pairs_end _ _ _ _ c.loop-k-test.false)
