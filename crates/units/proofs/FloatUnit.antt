-- `to_float_unit` keeps the unit and the physical value, and what it gives never passes unchanged: "An array always goes through doubles: `to_float_unit`, no bypass" (document 01). Assumes nothing.
use mathlib.Core.Path.{◌≡◌, refl}
use mathlib.Core.Option.{none}
use lib.Ieee.{Float}
use Rattle.units.specs.declared.Unit.{Unit}
use Rattle.units.specs.declared.Unit.TheVariants as the
use Rattle.units.specs.Physical.{units_of, physical, float_unit, passed}

pub float-units : (u : Unit) → units_of (float_unit u) ≡ units_of u
float-units (the.Integer v u) = refl
float-units (the.Float v u) = refl

pub float-physical : (u : Unit) → physical (float_unit u) ≡ physical u
unfolding physical
float-physical (the.Integer v u) = refl
float-physical (the.Float v u) = refl

pub float-not-passed : (d : Float) (u : Unit) → passed d (float_unit u) ≡ none
unfolding passed
float-not-passed d (the.Integer v u) = refl
float-not-passed d (the.Float v u) = refl
