-- What is left to measure comes on top of what was counted, after the properties that are there. Assumes nothing.
use mathlib.Core.Path.{refl, sym, ◌∙◌}
use Prim.Native.Nat.{◌+◌, ◌-◌, ◌≤◌}
use native.Mathlib.Omega.{arith}
use native.Mathlib.Nat.{sub-zero}
use lib.ListN.{length}
use Rattle.std.proofs.Common.{Err}
use Rattle.std.proofs.lemmas.Result.{err_from_is_err_and}
use Rattle.conversion.proofs.FoldLaws.{run-same}
use Rattle.steps.specs.code.Steps.{sizing}
use Rattle.properties.specs.code.Tail.{tail_bytes}
use Rattle.properties.proofs.TailLaws.{tail-stops, tail-turn, tail-end, counting, count-start, count_turn, count-end, place_up, value_in, place-next}
use Rattle.properties.proofs.measure_tail.Goals.{After-value_length-m}
use Rattle.properties.proofs.measure_tail.Goals as goal

pub loop-init : goal.loop-init
loop-init c =
    record {
      place = rw sub-zero c.requires.place_in_bounds;
      small = omega arith;
      rest = rw sub-zero (run-same Err c.args.entry _ (sizing tail_bytes) (counting 0) count-start);
    }

-- the property lies in the block
inside : (c : After-value_length-m) → c.loop.at + 4 + c.value_length-m.result ≤ length c.args.b.now
inside c =
    let l = c.loop in
    value_in c.args.properties.count l.counter c.args.b.now l.at c.value_length-m.result c.loop-test.true c.value_length-m.ensures l.invariant.place

pub returns-in_err-check_property : goal.returns-in_err-check_property
returns-in_err-check_property c =
    let a = c.args in
    let l = c.loop in
    let m = c.value_length-m in
    let x = c.in_err-check_property.field-0.0 in
    let h = inside (goal.at.returns-in_err-check_property c).After-value_length-m in
    let checks = rw c.u16_at.ensures at c.in_err-check_property.ensures in
    let e = err_from_is_err_and c.from_residual.result c.from_residual.ensures.1 in
    rw (e.1, e.2) (sym (l.invariant.rest ∙ tail-stops Err a.entry (counting l.size) a.properties.count l.counter a.b.now l.at m.result c.loop-test.true m.ensures h x checks))

pub loop-preserved : goal.loop-preserved
loop-preserved c =
    let a = c.args in
    let b = a.b.now in
    let n = a.properties.count in
    let l = c.loop in
    let m = c.value_length-m in
    let h = inside (goal.at.loop-preserved c).After-value_length-m in
    let checks = rw c.u16_at.ensures at c.in_ok-check_property.ensures in
    record {
      place = place-next n l.counter b l.at m.result c.loop-test.true m.ensures l.invariant.place;
      small = omega (arith, l.invariant.small);
      rest = l.invariant.rest
          ∙ tail-turn Err a.entry (counting l.size) n l.counter b l.at m.result c.loop-test.true m.ensures h checks
          ∙ run-same Err a.entry _ _ _ (count_turn b l.at m.result l.size _ m.ensures h refl);
    }

pub overflow_add-result : goal.overflow_add-result
overflow_add-result c =
    let v = c.loop.invariant in
    omega (arith, v.small, v.place, c.requires.b_len_bound, place_up (c.args.properties.count - c.loop.counter) c.args.b.now c.loop.at)

pub returns : goal.returns
returns c =
    let a = c.args in
    let l = c.loop in
    sym (l.invariant.rest ∙ tail-end Err a.entry (counting l.size) a.properties.count l.counter a.b.now l.at c.loop-test.false ∙ count-end l.size a.entry)
