-- `bounds::range_of` meets its contract: each check in turn (BoundsLaws). Assumes nothing.
use borrow.Author.Rules.{rules}
use mir.Val.{SFits}
use mir.Syntax.{w32}
use mir.ValLaws.{to_z-of_z}
use Rattle.std.proofs.lemmas.Result.{err_from_is_err_and}
use Rattle.bounds.proofs.BoundsLaws.{not_finite, not-admitted, lower-refused, upper-refused, range-is}
use Rattle.bounds.proofs.range_of.Goals as goal

pub returns-then-not-finite : goal.returns-then-not-finite
returns-then-not-finite c =
    let a = c.args in
    not_finite a.converter.policy a.converter.d a.lower a.upper (cc)

-- that both ends are finite is told by what is known there, whichever test stands first
pub returns-then-not-ordered : goal.returns-then-not-ordered
returns-then-not-ordered c =
    let a = c.args in
    not-admitted a.converter.policy a.converter.d a.lower a.upper (cc) (cc)

pub returns-in_err-least : goal.returns-in_err-least
returns-in_err-least c =
    let a = c.args in
    let e = err_from_is_err_and c.from_residual.result c.from_residual.ensures.1 in
    cc (e.1, e.2, lower-refused a.converter.policy a.converter.d a.lower a.upper (cc) (cc) c.in_err-least.field-0.0 c.in_err-least.ensures)

pub returns-in_err-greatest : goal.returns-in_err-greatest
returns-in_err-greatest c =
    let a = c.args in
    let e = err_from_is_err_and c.from_residual-in_err-greatest.result c.from_residual-in_err-greatest.ensures.1 in
    cc (e.1, e.2, upper-refused a.converter.policy a.converter.d a.lower a.upper (cc) (cc) c.in_ok-least.least c.in_ok-least.ensures c.in_err-greatest.field-0.0 c.in_err-greatest.ensures)

pub returns : goal.returns
returns c =
    let a = c.args in
    let f : SFits w32 c.in_ok-least.least = search rules in
    let g : SFits w32 c.in_ok-greatest.greatest = search rules in
    rw (to_z-of_z w32 c.in_ok-least.least f, to_z-of_z w32 c.in_ok-greatest.greatest g)
    (range-is a.converter.policy a.converter.d a.lower a.upper (cc) (cc) c.in_ok-least.least c.in_ok-least.ensures c.in_ok-greatest.greatest c.in_ok-greatest.ensures)
