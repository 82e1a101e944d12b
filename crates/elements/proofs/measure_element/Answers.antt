-- `elements::measure_element` meets its contract: an ill-formed block, its flags, or its parts from a blank entry of its kind. Assumes nothing.
use mathlib.Core.Path.{◌≡◌, sym, ap, ◌∙◌}
use Prim.Native.Nat.{ℕ, ◌+◌}
use lib.ListN.{length, length-drop}
use native.Mathlib.Omega.{arith}
use Rattle.std.specs.Prelude.{Ok, Err}
use Rattle.std.proofs.lemmas.Result.{err_from_is_err_and}
use Rattle.steps.specs.code.Steps.{through}
use Rattle.elements.proofs.PartLaws.{read-as, ill-met, kind-in, block-flags, block-measured}
use Rattle.elements.proofs.OptionLaws.{options-short}
use Rattle.elements.proofs.measure_element.Goals as goal

pub returns-in_err-element : goal.returns-in_err-element
returns-in_err-element c =
    let a = c.args in
    let e = err_from_is_err_and c.from_residual.result c.from_residual.ensures.1 in
    rw (e.1, e.2) (ill-met a.converter.policy a.converter.d a.index a.b.now _ _ c.element.ensures c.in_err-element.ensures.value)

pub returns-then-not-flags_fit : goal.returns-then-not-flags_fit
returns-then-not-flags_fit c =
    let a = c.args in
    let read = read-as _ c.element.ensures _ c.in_ok-element.ensures.ok_part in
    record { value = block-flags a.converter.policy a.converter.d a.index a.b.now _ read (sym c.if-not-flags_fit.ensures); short = tt }

pub plain_kind-requires : goal.plain_kind-requires
plain_kind-requires c =
    let a = c.args in
    kind-in a.converter.policy a.converter.d a.index a.b.now _ (read-as _ c.element.ensures _ c.in_ok-element.ensures.ok_part)

pub returns-in_err-parts : goal.returns-in_err-parts
returns-in_err-parts c =
    let a = c.args in
    let e = err_from_is_err_and c.from_residual-in_err-parts.result c.from_residual-in_err-parts.ensures.1 in
    let read = read-as _ c.element.ensures _ c.in_ok-element.ensures.ok_part in
    rw (e.1, e.2) (record {
      value = block-measured a.converter.policy a.converter.d a.index a.b.now _ read (sym c.if-not-flags_fit.ensures) c.block_from-rest.ensures c.plain_kind.result c.blank-blank.result c.plain_kind.ensures c.blank-blank.ensures (Err _) c.in_err-parts.ensures.measures;
      short = tt;
    })

pub returns : goal.returns
returns c =
    let a = c.args in
    let p = c.in_ok-element.element in
    let rest = c.block_from-rest in
    let n = c.options_length.ensures.0 in
    let read = read-as _ c.element.ensures _ c.in_ok-element.ensures.ok_part in
    let s = read.places.shift_in in
    let short = c.in_ok-parts.ensures.short in
    let o = options-short a.b.now read.places.options in
    let length-is : length rest.result.now + p.options.shift ≡ length a.b.now = omega (arith, ap length rest.ensures, length-drop p.options.shift a.b.now) in record {
      value = ap (λ (k : ℕ). through k c.in_ok-parts.parts.entry) (omega arith) ∙ block-measured a.converter.policy a.converter.d a.index a.b.now p read (sym c.if-not-flags_fit.ensures) rest.ensures c.plain_kind.result c.blank-blank.result c.plain_kind.ensures c.blank-blank.ensures (Ok _) c.in_ok-parts.ensures.measures;
      short = omega arith;
    }
