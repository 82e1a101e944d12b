-- `elements::measure_parts` meets its contract: the body's refusal, then the properties', then both lengths.
-- Assumes nothing.
use mathlib.Core.Path.{ap, ◌∙◌}
use Prim.Native.Nat.{ℕ}
use native.Mathlib.Omega.{arith}
use Rattle.std.proofs.lemmas.Result.{err_from_is_err_and}
use Rattle.steps.specs.code.Steps.{through}
use Rattle.elements.proofs.PartLaws.{tail-refused, both-measured, both_small}
use Rattle.elements.proofs.measure_parts.Goals as goal

pub overflow_add-length : goal.overflow_add-length
overflow_add-length c =
    let a = c.args in
    let k = both_small a.converter.policy a.converter.d a.b.now a.body a.properties a.entry _ c.in_ok-front.ensures _ c.in_ok-tail.ensures c.requires.element_in in
    let l = c.requires.b_len_bound in
    omega arith

pub returns-in_err-tail : goal.returns-in_err-tail
returns-in_err-tail c =
    let a = c.args in
    let e = err_from_is_err_and c.from_residual-in_err-tail.result c.from_residual-in_err-tail.ensures.1 in
    rw (e.1, e.2) (record { measures = tail-refused a.converter.policy a.converter.d a.b.now a.body a.properties a.entry _ c.in_ok-front.ensures _ c.in_err-tail.ensures; short = tt })

pub returns : goal.returns
returns c =
    let a = c.args in
    let k = both_small a.converter.policy a.converter.d a.b.now a.body a.properties a.entry _ c.in_ok-front.ensures _ c.in_ok-tail.ensures c.requires.element_in in
    record {
      measures = ap (λ (n : ℕ). through n c.in_ok-tail.tail.entry) (omega arith) ∙ both-measured a.converter.policy a.converter.d a.b.now a.body a.properties a.entry _ c.in_ok-front.ensures _ c.in_ok-tail.ensures;
      short = omega arith;
    }
