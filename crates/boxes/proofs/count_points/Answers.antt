-- The points of corners that do not deviate; else the points in turn, each of which may be refused. Assumes nothing.
use mathlib.Core.Path.{sym, ◌∙◌}
use Rattle.std.proofs.lemmas.Result.{err_from_is_err_and}
use Rattle.boxes.proofs.PointsLaws.{first-refused, second-refused, third-refused, fourth-refused, fifth-refused, all-counted, plain-counted}
use Rattle.boxes.proofs.count_points.Goals as goal

pub returns-in-Some-Some : goal.returns-in-Some-Some
returns-in-Some-Some c =
    let w = c.in-Some-Some in
    λ policy d p q made. plain-counted policy d p q c.args.corners made c.args.entry w.first w.second (sym w.is-0 ∙ c.plain_point.ensures) (sym w.is-1 ∙ c.plain_point-2.ensures)

pub returns : goal.returns
returns c = λ policy d p q made. all-counted policy d p q c.args.corners made c.args.entry _ c.in_ok-first.ensures _ c.in_ok-right.ensures _ c.in_ok-second.ensures _ c.in_ok-left.ensures _ c.in_ok-last.ensures

pub returns-in_err-first : goal.returns-in_err-first
returns-in_err-first c =
    let e = err_from_is_err_and c.from_residual.result c.from_residual.ensures.1 in
    λ policy d p q made. rw (e.1, e.2) (first-refused policy d p q c.args.corners made c.args.entry _ c.in_err-first.ensures)

pub returns-in_err-right : goal.returns-in_err-right
returns-in_err-right c =
    let e = err_from_is_err_and c.from_residual-in_err-right.result c.from_residual-in_err-right.ensures.1 in
    λ policy d p q made. rw (e.1, e.2) (second-refused policy d p q c.args.corners made c.args.entry _ c.in_ok-first.ensures _ c.in_err-right.ensures)

pub returns-in_err-second : goal.returns-in_err-second
returns-in_err-second c =
    let e = err_from_is_err_and c.from_residual-in_err-second.result c.from_residual-in_err-second.ensures.1 in
    λ policy d p q made. rw (e.1, e.2) (third-refused policy d p q c.args.corners made c.args.entry _ c.in_ok-first.ensures _ c.in_ok-right.ensures _ c.in_err-second.ensures)

pub returns-in_err-left : goal.returns-in_err-left
returns-in_err-left c =
    let e = err_from_is_err_and c.from_residual-in_err-left.result c.from_residual-in_err-left.ensures.1 in
    λ policy d p q made. rw (e.1, e.2) (fourth-refused policy d p q c.args.corners made c.args.entry _ c.in_ok-first.ensures _ c.in_ok-right.ensures _ c.in_ok-second.ensures _ c.in_err-left.ensures)

pub returns-in_err-last : goal.returns-in_err-last
returns-in_err-last c =
    let e = err_from_is_err_and c.from_residual-in_err-last.result c.from_residual-in_err-last.ensures.1 in
    λ policy d p q made. rw (e.1, e.2) (fifth-refused policy d p q c.args.corners made c.args.entry _ c.in_ok-first.ensures _ c.in_ok-right.ensures _ c.in_ok-second.ensures _ c.in_ok-left.ensures _ c.in_err-last.ensures)
