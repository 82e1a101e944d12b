-- `test_vectors::next_place` meets its contract. Assumes nothing.
use mathlib.Core.Path.{sym, ◌∙◌}
use native.Mathlib.Omega.{arith}
use Rattle.test_vectors.proofs.CaseLaws.{fits_true}
use Rattle.test_vectors.proofs.next_place.Goals as goal

pub u32_at-n-requires : goal.u32_at-n-requires
u32_at-n-requires c =
    let f = fits_true c.args.cases.now c.args.at (sym c.fits.ensures ∙ c.if-fits.true) in
    let i = f.input in
    omega arith
