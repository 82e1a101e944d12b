-- `conversion::quantization` meets its contract, by the two tests of a deviation that counts. Assumes nothing.
use mathlib.Core.Path.{◌≡◌, refl, sym, ap, ap₂, ◌∙◌}
use mir.Syntax.{w32}
use mir.ValLaws.{to_z-of_z}
use lib.Ieee.{binary64, div, of_int}
use Rattle.binary64.specs.Value.{abs}
use Rattle.binary64.specs.Step.{one_step}
use Rattle.conversion.specs.Convert.{difference}
use Rattle.conversion.proofs.DeviationLaws.{counts-level, counts-beside, counts_some}
use Rattle.conversion.proofs.quantization.Goals as goal

pub returns-then-within_one_ulp : goal.returns-then-within_one_ulp
returns-then-within_one_ulp c =
    let step : c.within_one_ulp.result ≡ one_step (div binary64 c.args.p c.args.d) (of_int binary64 c.args.q) = c.within_one_ulp.ensures ∙ ap₂ one_step c.requires (ap (of_int binary64) (to_z-of_z w32 c.args.q c.ranges.q)) in
    let a = c.args in
    λ at. counts-beside a.d a.p a.q (difference a.d a.p a.q) refl (abs (difference a.d a.p a.q)) refl (sym step ∙ c.if-within_one_ulp.true) at _ (to_z-of_z w32 a.q c.ranges.q)

pub returns-then-magnitude : goal.returns-then-magnitude
returns-then-magnitude c =
    let step : c.within_one_ulp.result ≡ one_step (div binary64 c.args.p c.args.d) (of_int binary64 c.args.q) = c.within_one_ulp.ensures ∙ ap₂ one_step c.requires (ap (of_int binary64) (to_z-of_z w32 c.args.q c.ranges.q)) in
    let deviation : c.difference-error.result ≡ difference c.args.d c.args.p c.args.q = c.difference-error.ensures ∙ ap (difference c.args.d c.args.p) (to_z-of_z w32 c.args.q c.ranges.q) in
    let a = c.args in
    λ at. counts_some a.d a.p a.q c.difference-error.result deviation c.abs-magnitude.result c.abs-magnitude.ensures c.if-magnitude.true (sym step ∙ c.if-within_one_ulp.false) at _ (to_z-of_z w32 a.q c.ranges.q)

pub returns : goal.returns
returns c =
    let deviation : c.difference-error.result ≡ difference c.args.d c.args.p c.args.q = c.difference-error.ensures ∙ ap (difference c.args.d c.args.p) (to_z-of_z w32 c.args.q c.ranges.q) in
    let a = c.args in
    λ at. counts-level a.d a.p a.q c.difference-error.result deviation c.abs-magnitude.result c.abs-magnitude.ensures c.if-magnitude.false at _ (to_z-of_z w32 a.q c.ranges.q)
