-- `walk::measure_elements` meets its contract. What is left to measure, on top of what was gathered, stays what the whole was. Assumes nothing.
use mathlib.Core.Path.{sym, ap, ap₂, subst, ◌∙◌}
use Prim.Native.Nat.{ℕ, ◌+◌}
use native.Mathlib.Omega.{arith}
use borrow.Author.Rules.{rules}
use lib.ListN.{length}
use lib.Ieee.{Float}
use Rattle.std.proofs.lemmas.Result.{err_from_is_err_and}
use Rattle.elements.specs.code.Block.{Short}
use Rattle.sheet.proofs.CountLaws.{block_within}
use Rattle.walk.proofs.BlocksLaws.{InBlock, passed, block-short, stands-once, left, left-blamed, left-turn, left_end}
use Rattle.walk.proofs.measure_elements.Goals as goal

pub measure_element-answer-requires : goal.measure_element-answer-requires
measure_element-answer-requires c =
    let l = block_within c.args.sheet.now c.loop-k.k-counter in
    let e = ap length c.block-b.ensures in
    let p = c.requires in
    omega arith

pub returns-in_err-measured-clause-value : goal.returns-in_err-measured-clause-value
returns-in_err-measured-clause-value c =
    let l = c.loop-k in
    let r = c.measure_element-answer in
    let told : InBlock l.k-counter r.result c.map_err.result = search rules in
    let e = err_from_is_err_and c.from_residual.result c.from_residual.ensures.1 in
    rw (e.1, e.2) (sym (l.invariant.rest ∙ left-blamed c.args.converter.policy c.args.converter.d c.args.sheet.now c.count-k-end.result l.k-counter l.length l.entries l.greatest c.block-b.result.now r.result l.invariant.from c.loop-k-test.true c.block-b.ensures r.ensures.value told c.in_err-measured.was))

pub overflow_add-length : goal.overflow_add-length
overflow_add-length c =
    let told : InBlock c.loop-k.k-counter c.measure_element-answer.result c.map_err.result = search rules in
    let p = passed c.measure_element-answer.result c.loop-k.k-counter told c.in_ok-measured.was in
    let b = block-short c.args.sheet.now c.loop-k.k-counter c.block-b.result.now c.in_ok-measured.measured c.requires c.block-b.ensures (subst (Short (length c.block-b.result.now)) p c.measure_element-answer.ensures.short) in
    let v = c.loop-k.invariant in
    let t = c.loop-k-test.true in
    search rules

pub loop-k-preserved : goal.loop-k-preserved
loop-k-preserved c =
    let l = c.loop-k in
    let v = l.invariant in
    let r = c.measure_element-answer in
    let m = c.in_ok-measured.measured in
    let told : InBlock c.loop-k.k-counter c.measure_element-answer.result c.map_err.result = search rules in
    let p = passed c.measure_element-answer.result c.loop-k.k-counter told c.in_ok-measured.was in
    let b = block-short c.args.sheet.now c.loop-k.k-counter c.block-b.result.now c.in_ok-measured.measured c.requires c.block-b.ensures (subst (Short (length c.block-b.result.now)) p c.measure_element-answer.ensures.short) in
    let o = stands-once m.entry in
    let f = c.entries_of-entries.ensures in
    let small = v.small in
    let few = v.few in
    record {
      from = omega arith;
      small = omega arith;
      few = omega arith;
      rest = v.rest
          ∙ left-turn c.args.converter.policy c.args.converter.d c.args.sheet.now c.count-k-end.result l.k-counter l.length l.entries l.greatest c.block-b.result.now r.result v.from c.loop-k-test.true c.block-b.ensures r.ensures.value m p
          ∙ ap₂ (λ (x : ℕ) (y : Float). left c.args.converter.policy c.args.converter.d c.args.sheet.now c.count-k-end.result (l.k-counter + 1) (l.length + m.length) (l.entries + x) y) (sym f) (sym c.greater_error-greatest.ensures);
    }

pub returns-clause-value : goal.returns-clause-value
returns-clause-value c =
    let l = c.loop-k in
    let v = l.invariant in
    sym (v.rest ∙ left_end c.args.converter.policy c.args.converter.d c.args.sheet.now c.count-k-end.result l.k-counter l.length l.entries l.greatest c.loop-k-test.false)
