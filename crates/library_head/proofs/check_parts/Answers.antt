-- The stamps, the reals of UNITS, the name, in this order (CheckLaws). Assumes nothing.
use mathlib.Core.Bool.{not}
use mathlib.Core.Path.{sym, ap, subst}
use Rattle.library_head.specs.code.Head.{HeadRead}
use Rattle.library_head.proofs.CheckLaws.{handed-out, stamps-stop, units-stop, name-stop, head_passed}
use Rattle.library_head.proofs.check_parts.Goals as goal

pub returns-then-not-stamps_fit : goal.returns-then-not-stamps_fit
returns-then-not-stamps_fit c =
    let t = c.stamps_fit in
    let a = c.args in
    stamps-stop a.d a.b.now a.unit t.result t.ensures (ap not c.if-not-stamps_fit.true)

pub returns-in_err-units : goal.returns-in_err-units
returns-in_err-units c =
    let t = c.stamps_fit in
    let a = c.args in
    let stopped = units-stop a.d a.b.now a.unit t.result t.ensures (ap not c.if-not-stamps_fit.false) c.double.ensures _ c.encode_units.ensures c.in_err-units.ensures.ok_part in
    subst (HeadRead a.d a.b.now _) (sym (handed-out _ _ c.encode_units.result c.from_residual.result c.from_residual.ensures.1 c.in_err-units.ensures.value)) stopped

pub returns-then-n-gt-MAX_NAME_LENGTH : goal.returns-then-n-gt-MAX_NAME_LENGTH
returns-then-n-gt-MAX_NAME_LENGTH c =
    let t = c.stamps_fit in
    let a = c.args in
    name-stop a.d a.b.now a.unit t.result t.ensures (ap not c.if-not-stamps_fit.false) c.double.ensures _ c.encode_units.ensures c.in_ok-units.units c.in_ok-units.ensures.ok_part _ c.string_at-n.ensures c.if-n-gt-MAX_NAME_LENGTH.true

pub returns : goal.returns
returns c =
    let t = c.stamps_fit in
    let a = c.args in
    head_passed a.d a.b.now a.unit t.result t.ensures (ap not c.if-not-stamps_fit.false) c.double.ensures _ c.encode_units.ensures c.in_ok-units.units c.in_ok-units.ensures.ok_part _ c.string_at-n.ensures c.requires c.if-n-gt-MAX_NAME_LENGTH.false
