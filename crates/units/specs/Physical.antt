-- A coordinate's unit and physical value (document 01, "Result two"; `Unit` of units.rs). Assumes nothing.
use Rattle.std.specs.Prelude.{cond, ℤ, Float}
use Rattle.std.proofs.Math.Option.{Option, none, some}
use Rattle.std.specs.Float.Ieee.{mul, of_int, eq}
use Rattle.std.specs.Float.{binary64}
use Rattle.units.specs.declared.Unit.{Unit}
use Rattle.units.specs.declared.Unit.TheVariants as the

-- `units`: the unit that a coordinate carries
abbrev pub units_of : Unit → Float
units_of (the.Integer v u) = u
units_of (the.Float v u) = u

-- `absolute_value`: "the physical value p is the double that `Unit::absolute_value` gives", the value, as a double, times the unit, rounded
unfoldable pub physical : Unit → Float
physical (the.Integer v u) = mul binary64 (of_int binary64 v) u
physical (the.Float v u) = mul binary64 v u

-- `to_float_unit`: the same coordinate by a double
abbrev pub float_unit : Unit → Unit
float_unit (the.Integer v u) = the.Float (of_int binary64 v) u
float_unit (the.Float v u) = the.Float v u

-- "An integer whose unit equals d passes unchanged": the value that passes. Every other coordinate is converted.
unfoldable pub passed : Float → Unit → Option ℤ
passed d (the.Integer v u) = cond (eq u d) (some v) none
passed d (the.Float v u) = none
