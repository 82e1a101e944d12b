-- A refusal, or the length that all boxes have. Assumes nothing.
use mathlib.Core.Path.{refl, sym}
use Rattle.std.proofs.lemmas.Result.{err_from_is_err_and}
use Rattle.steps.proofs.ReadyLaws.{measure-stopped, measure-ready}
use Rattle.boxes.specs.code.Box.{box_bytes}
use Rattle.boxes.proofs.BoxLaws.{length-box}
use Rattle.boxes.proofs.measure_box.Goals as goal

pub returns-in_err-values : goal.returns-in_err-values
returns-in_err-values c =
    let e = err_from_is_err_and c.from_residual.result c.from_residual.ensures.1 in
    rw (e.1, e.2) (measure-stopped c.args.entry _ _ c.in_err-values.ensures box_bytes _ refl)

pub returns : goal.returns
returns c = measure-ready c.args.entry _ _ c.in_ok-values.ensures box_bytes _ _ _ refl (sym (length-box _ _ _ _))
