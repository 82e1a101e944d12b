-- Each way out. Assumes nothing.
use mathlib.Core.Path.{refl, sym, ◌∙◌}
use mathlib.Core.Bool.{true}
use lib.Ieee.{of_bits}
use Rattle.conversion.specs.Made.{need, ◌>>=◌, ◌>>◌}
use Rattle.conversion.proofs.MadeLaws.{need-on}
use Rattle.cell.specs.Write.{write_magnification}
use Rattle.transform.proofs.TransformLaws.{mapped}
use Rattle.transform.proofs.encode_magnification.Goals as goal
use Rattle.transform.proofs.encode_magnification.Goals.{else-magnification-2-via-then-magnification-2+else-is_finite, else-magnification-2-via-else-magnification-2}

pub returns-then-magnification : goal.returns-then-magnification
unfolding write_magnification of_bits
returns-then-magnification c = rw c.if-magnification.true

pub returns-then-is_finite : goal.returns-then-is_finite
unfolding write_magnification of_bits need ◌>>◌ ◌>>=◌
returns-then-is_finite c = rw (c.if-magnification.false, c.if-magnification-2.true, ← c.is_finite.ensures, c.if-is_finite.true)

pub returns : goal.returns
unfolding write_magnification of_bits
returns c =
    mapped _ _ c.map.ensures.cases ∙ c.encode_real.ensures ∙
    elim c.else-magnification-2.branch [
      | else-magnification-2-via-then-magnification-2+else-is_finite w ↦ rw (c.if-magnification.false, w.if-magnification-2.true, ← w.is_finite.ensures, w.if-is_finite.false) (sym (need-on true _ _ refl))
      | else-magnification-2-via-else-magnification-2 w ↦ rw (c.if-magnification.false, w.if-magnification-2.false) (sym (need-on true _ _ refl))
    ]
