-- The magnification is refused; then the angle; then both are there. Assumes nothing.
use Rattle.std.proofs.lemmas.Result.{err_from_is_err_and}
use Rattle.conversion.specs.Made.{◌>>=◌}
use Rattle.cell.specs.Write.{write_transform}
use Rattle.transform.proofs.encode_transformation.Goals as goal

pub returns-in_err-scale : goal.returns-in_err-scale
unfolding write_transform ◌>>=◌
returns-in_err-scale c = let p = err_from_is_err_and c.from_residual.result c.from_residual.ensures.1 in rw (p.1, p.2, ← c.in_err-scale.ensures)

pub returns-in_err-angle : goal.returns-in_err-angle
unfolding write_transform ◌>>=◌
returns-in_err-angle c = let p = err_from_is_err_and c.from_residual-in_err-angle.result c.from_residual-in_err-angle.ensures.1 in rw (p.1, p.2, ← c.in_ok-scale.ensures, ← c.in_err-angle.ensures)

pub returns : goal.returns
unfolding write_transform ◌>>=◌
returns c = rw (← c.in_ok-scale.ensures, ← c.in_ok-angle.ensures)
