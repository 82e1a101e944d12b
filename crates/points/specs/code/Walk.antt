-- What the code answers for all points: the first, and the last that was met, with the element's entry after them (document 01, "Result two" and "Result three";
-- `write_points_to_file` of write/mod.rs). Assumes nothing.
use Rattle.std.specs.Prelude.{List, [], ◌∷◌, ℕ, ℤ, pos, Result, Ok, Err}
use Rattle.refusal.specs.declared.Refusal.{Refusal}
use Rattle.units.specs.Point.{Point}
use Rattle.conversion.specs.declared.Entry.{Entry}
use Rattle.cell.specs.Write.{last_of}
use Rattle.steps.specs.declared.Measured.{Measured}
use Rattle.points.specs.declared.Walked.{Walked}
use Rattle.coordinate.specs.code.Coordinate.{at_point}

-- after the first point f, with l the last so far
unfoldable pub through : Point ℤ → Point ℤ → List (Point ℤ) → Entry → Result Walked Refusal
through f l ps e = Ok (record { first = at_point f; last = at_point (last_of l ps); entry = e })

-- from the first on
unfoldable pub walked : List (Point ℤ) → Entry → Result Walked Refusal
walked [] e = Ok (record { first = record { x = pos 0; y = pos 0 }; last = record { x = pos 0; y = pos 0 }; entry = e })
walked (p ∷ ps) e = through p p ps e

-- the same as an answer of measuring, of n bytes
abbrev pub with_length : ℕ → Result Walked Refusal → Result Measured Refusal
with_length n (Err x) = Err x
with_length n (Ok w) = Ok (record { length = n; entry = w.entry })
