-- Each way out, the transform before the origin. Assumes nothing.
use mathlib.Core.Path.{sym}
use Rattle.std.specs.Prelude.{Ok, Err}
use Rattle.std.proofs.lemmas.Result.{err_from_is_err_and}
use Rattle.conversion.specs.code.Fold.{noted_all, run}
use Rattle.block_places.specs.code.Places.{text_at}
use Rattle.text.specs.code.Text.{text_of}
use Rattle.text.proofs.TextLaws.{conversions-are, point-met}
use Rattle.text.proofs.convert_text.Goals as goal

pub returns-in_err-strans : goal.returns-in_err-strans
unfolding run text_at
returns-in_err-strans c =
    let e = err_from_is_err_and c.from_residual.result c.from_residual.ensures.1 in
    rw (e.1, e.2, conversions-are, ← c.in_err-strans.ensures)

pub returns-in_err-origin : goal.returns-in_err-origin
unfolding run noted_all text_at
returns-in_err-origin c =
    let e = err_from_is_err_and c.from_residual-in_err-origin.result c.from_residual-in_err-origin.ensures.1 in
    rw (e.1, e.2, conversions-are, ← c.in_ok-strans.ensures) (sym (point-met _ (Err _) c.in_err-origin.ensures))

pub returns : goal.returns
unfolding run noted_all text_at text_of
returns c = rw (conversions-are, ← c.in_ok-strans.ensures) (sym (point-met _ (Ok _) c.in_ok-origin.ensures))
