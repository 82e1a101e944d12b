-- `forms::element` meets its contract: the options, the body, then the properties, each with its way out. Assumes nothing.
use native.Mathlib.Omega.{arith}
use mathlib.Core.Path.{◌≡◌, sym, ◌∙◌}
use mathlib.Core.Bool.{true}
use Rattle.block_places.proofs.PlacesLaws.{shift_is}
use Rattle.forms.specs.code.Checks.{options_in}
use Rattle.forms.proofs.OptionLaws.{Opened, options-within}
use Rattle.forms.proofs.ElementLaws.{element-empty, element-body, element-properties, element-is}
use Rattle.forms.proofs.element.Goals as goal
use Rattle.forms.proofs.element.Goals.{Else-not-has_options, After-plain_kind}

-- the check passed
passed : (c : Else-not-has_options) → options_in c.args.b.now ≡ true
passed c = sym c.has_options.ensures ∙ c.if-not-has_options.false

-- the options, the block that is left, and its kind
opened : (c : After-plain_kind) → Opened c.args.b.now c.options_at-options.result c.block_from-rest.result.now c.plain_kind.result
opened c =
    record {
      fits = sym c.has_options.ensures ∙ c.if-not-has_options.false;
      options = c.options_at-options.ensures;
      rest = c.block_from-rest.ensures;
      kind = c.plain_kind.ensures;
    }

pub returns-then-not-has_options : goal.returns-then-not-has_options
returns-then-not-has_options c = element-empty c.args.b.now (sym c.has_options.ensures ∙ c.if-not-has_options.true)

pub options_at-options-requires : goal.options_at-options-requires
options_at-options-requires c = options-within c.args.b.now (passed (goal.at.options_at-options-requires c).Else-not-has_options)

pub block_from-rest-requires : goal.block_from-rest-requires
block_from-rest-requires c =
    let l = options-within c.args.b.now (passed (goal.at.block_from-rest-requires c).Else-not-has_options) in
    let e = shift_is c.args.b.now c.options_at-options.ensures in
    omega arith

pub plain_kind-requires : goal.plain_kind-requires
plain_kind-requires c =
    let l = options-within c.args.b.now (passed (goal.at.plain_kind-requires c).Else-not-has_options) in
    omega arith

pub returns-in_err-form : goal.returns-in_err-form
returns-in_err-form c =
    rw c.from_residual.ensures (element-body (opened (goal.at.returns-in_err-form c).After-plain_kind) c.in_err-form.ensures)

pub returns-in_err-properties : goal.returns-in_err-properties
returns-in_err-properties c =
    rw c.from_residual-in_err-properties.ensures (element-properties (opened (goal.at.returns-in_err-properties c).After-plain_kind) c.in_ok-form.ensures c.in_err-properties.ensures)

pub returns : goal.returns
returns c = element-is (opened (goal.at.returns c).After-plain_kind) c.in_ok-form.ensures c.in_ok-properties.ensures
