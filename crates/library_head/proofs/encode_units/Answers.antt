-- A positive user unit, and two encodings (UnitsLaws). Assumes nothing.
use mathlib.Core.Bool.{not}
use mathlib.Core.Path.{refl, ap}
use Rattle.library_head.proofs.UnitsLaws.{real-of, units-sign, units-user, units-database, units-both}
use Rattle.library_head.proofs.encode_units.Goals as goal

pub returns-then-not-is_positive : goal.returns-then-not-is_positive
returns-then-not-is_positive c =
    let t = c.is_positive in
    let a = c.args in
    units-sign a.user_unit a.d t.result t.ensures (ap not c.if-not-is_positive.true)

pub returns-in_err-user : goal.returns-in_err-user
returns-in_err-user c =
    let t = c.is_positive in
    let a = c.args in
    rw c.from_residual.ensures (units-user a.user_unit a.d t.result t.ensures (ap not c.if-not-is_positive.false) _ (real-of a.user_unit c.encode.result c.encode.ensures _ c.in_err-user.ensures.value) refl)

pub returns-in_err-database : goal.returns-in_err-database
returns-in_err-database c =
    let t = c.is_positive in
    let a = c.args in
    let user = real-of a.user_unit c.encode.result c.encode.ensures _ c.in_ok-user.ensures.value in
    rw c.from_residual-in_err-database.ensures (units-database a.user_unit a.d t.result t.ensures (ap not c.if-not-is_positive.false) _ user c.in_ok-user.user refl (real-of a.d c.encode-2.result c.encode-2.ensures _ c.in_err-database.ensures.value))

pub returns : goal.returns
returns c =
    let t = c.is_positive in
    let a = c.args in
    let user = real-of a.user_unit c.encode.result c.encode.ensures _ c.in_ok-user.ensures.value in
    units-both a.user_unit a.d t.result t.ensures (ap not c.if-not-is_positive.false) _ user c.in_ok-user.user c.in_ok-database.database refl (real-of a.d c.encode-2.result c.encode-2.ensures _ c.in_ok-database.ensures.value)
