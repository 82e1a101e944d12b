-- Whole numbers as coordinates: "integers in a unit of 1" (document 02, request 8). Assumes nothing.
use Rattle.std.specs.Prelude.{ℤ}
use Rattle.binary64.specs.Value.{one64}
use Rattle.units.specs.declared.Unit.{Unit}
use Rattle.units.specs.declared.Unit.TheVariants as the
use Rattle.units.specs.Point.{Point}

abbrev pub integer : ℤ → Unit
integer v = the.Integer v one64

abbrev pub integer_point : Point ℤ → Point Unit
integer_point p = record { x = integer p.x; y = integer p.y }
