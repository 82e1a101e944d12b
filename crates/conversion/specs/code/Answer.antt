-- What the code's answers stand for. Each stands for one outcome alone. Assumes nothing.
use Rattle.std.specs.Prelude.{[], ◌∷◌, ℤ, Float, Result, Ok, Err}
use Rattle.refusal.specs.declared.Refusal.{Refusal}
use Rattle.units.specs.Point.{Point}
use Rattle.conversion.specs.declared.Conversion.{Conversion}
use Rattle.conversion.specs.declared.Conversion.TheVariants as C
use Rattle.conversion.specs.declared.DatabasePoint.{DatabasePoint}
use Rattle.conversion.specs.declared.PhysicalPoint.{PhysicalPoint}
use Rattle.conversion.specs.Made.{Made, refused, made, pure}
use Rattle.conversion.specs.Convert.{Spot}

-- a refusal, or a value with nothing to report
abbrev pub made_of : {A : Type 0} → Result A Refusal → Made A
made_of (Err r) = refused r
made_of (Ok a) = pure a

-- a conversion's answer names no field: it stands for an outcome at each spot
abbrev pub outcome : Spot → Result Conversion Refusal → Made ℤ
outcome at (Err r) = refused r
outcome at (Ok (C.Converted q)) = pure q
outcome at (Ok (C.Quantized q p e)) = made q (record { field = at.field; axis = at.axis; place = at.place; physical = p; database = q; error = e } ∷ [])

abbrev pub point_of : PhysicalPoint → Point Float
point_of p = record { x = p.x; y = p.y }

abbrev pub grid_point_of : DatabasePoint → Point ℤ
grid_point_of p = record { x = p.x; y = p.y }
