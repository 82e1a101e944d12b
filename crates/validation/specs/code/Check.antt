-- The steps of a polygon, a path or a node before its points (document 01, "Who can cause which refusal", 8 and 9). Assumes nothing.
use Rattle.std.specs.Prelude.{ℕ}
use Rattle.refusal.specs.declared.Refusal.TheVariants as R
use Rattle.conversion.specs.Made.{Made, Done, need, ◌>>◌}
use Rattle.cell.specs.Limits.{within}
use Rattle.cell.specs.Write.{layer_and_type}

unfoldable pub shape_checks : ℕ → ℕ → ℕ → ℕ → ℕ → Made Done
shape_checks least n most layer datatype = need (within least n most) R.PointCount >> layer_and_type layer datatype
