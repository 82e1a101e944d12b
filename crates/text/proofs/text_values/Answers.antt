-- Each way out, in the order of the checks. Assumes nothing.
use Rattle.std.proofs.lemmas.Result.{err_from_is_err_and}
use Rattle.conversion.specs.Made.{◌>>=◌, ◌>>◌}
use Rattle.conversion.specs.code.Fold.{run}
use Rattle.conversion.proofs.MadeLaws.{pure_then}
use Rattle.block_places.specs.code.Places.{text_at}
use Rattle.text.proofs.TextLaws.{text-is, both-checked, string-long}
use Rattle.text.proofs.text_values.Goals as goal

pub returns-in_err-and : goal.returns-in_err-and
unfolding run text_at ◌>>◌ ◌>>=◌
returns-in_err-and c =
    let a = c.args in
    let e = err_from_is_err_and c.from_residual.result c.from_residual.ensures.1 in
    rw (e.1, e.2, text-is, string-long a.b.now a.text c.requires.text_in.string-in, ← c.check_layer_and_type-numbers.ensures, ← c.check_string-string.ensures, ← both-checked c.check_layer_and_type-numbers.result c.check_string-string.result, ← c.and.ensures, c.in_err-and.was)

pub returns : goal.returns
unfolding text_at ◌>>◌
returns c =
    let a = c.args in
    rw (text-is, string-long a.b.now a.text c.requires.text_in.string-in, ← c.check_layer_and_type-numbers.ensures, ← c.check_string-string.ensures, ← both-checked c.check_layer_and_type-numbers.result c.check_string-string.result, ← c.and.ensures, c.in_ok-and.was, pure_then) c.convert_text.ensures
