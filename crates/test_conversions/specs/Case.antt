-- A case is 54 bytes: a conversion, two bounds, or a pitch survey, and the answer that another implementation gave. Its layout stands in tools/conversions.py. Assumes nothing.
use Rattle.std.specs.Prelude.{List, [], ◌∷◌, Bool, ◌&&◌, cond, ℕ, ◌+◌, ◌*◌, ◌^◌, eqb, ℤ}
use Rattle.std.specs.Float.{binary64}
use Rattle.std.specs.Float.Ieee.{to_bits}
use Rattle.std.specs.Int.{w32}
use Rattle.std.proofs.Common.{to_z, of_z}
use Rattle.big_endian.specs.Big.{number_at}
use Rattle.refusal.specs.Number.{number}
use Rattle.units.specs.declared.Unit.{Unit}
use Rattle.conversion.specs.declared.CoordinateConverter.{CoordinateConverter}
use Rattle.conversion.specs.declared.GdsRoundingPolicy.{GdsRoundingPolicy}
use Rattle.conversion.specs.declared.GdsRoundingPolicy.TheVariants.{Nearest, Floor, Ceil, ErrorIfOffGrid}
use Rattle.conversion.specs.Made.{Made, refused, made}
use Rattle.conversion.specs.Convert.{Spot, convert_unit, array_endpoint}
use Rattle.bounds.specs.Range.{convert_bounds}
use Rattle.bounds.specs.Answer as Bounds
use Rattle.bounds.specs.Answer.{Values, values_of}
use Rattle.survey.specs.Places.{survey_pitch}
use Rattle.survey.specs.Answer as Survey
use Rattle.test_report.specs.Cases.{double_at}
use Rattle.test_conversions.specs.declared.Answer.{Answer}

-- ---- the conversion

abbrev pub signed_at : List ℕ → ℕ → ℤ
signed_at s at = to_z w32 (number_at 4 s at)

abbrev pub policy_of : ℕ → GdsRoundingPolicy
policy_of n = cond (eqb n 0) Nearest (cond (eqb n 1) Floor (cond (eqb n 2) Ceil ErrorIfOffGrid))

-- the policy and the database unit of the case whose bytes begin at `at`
abbrev pub converter_at : List ℕ → ℕ → CoordinateConverter
converter_at s at = record { policy = policy_of (number_at 1 s (at + 1)); d = double_at s (at + 2) }

-- an integer where `what` is 0, else a double
abbrev pub unit_at : ℕ → List ℕ → ℕ → Unit
unit_at what s at = cond (eqb what 0) (Unit.Integer (signed_at s (at + 4)) (double_at s (at + 8))) (Unit.Float (double_at s at) (double_at s (at + 8)))

-- an array's endpoint, of the case whose bytes begin at `at`
unfoldable pub endpoint_at : List ℕ → ℕ → Spot → Made ℤ
endpoint_at s at spot = array_endpoint (double_at s (at + 2)) spot (signed_at s (at + 18)) (signed_at s (at + 22)) (number_at 4 s (at + 26)) (double_at s (at + 10))

-- a coordinate
unfoldable pub coordinate_at : ℕ → List ℕ → ℕ → Spot → Made ℤ
coordinate_at what s at spot = convert_unit (policy_of (number_at 1 s (at + 1))) (double_at s (at + 2)) spot (unit_at what s (at + 10))

unfoldable pub converted_at : List ℕ → ℕ → Spot → Made ℤ
converted_at s at spot = cond (eqb (number_at 1 s at) 2) (endpoint_at s at spot) (coordinate_at (number_at 1 s at) s at spot)

-- ---- the answer

-- of a conversion: the refusal's number, or the database value; then the physical value and the error of a deviation that counts
abbrev pub answer_of : Made ℤ → Answer
answer_of (refused r) = record { first = number r * 2 ^ 40; second = 0; third = 0 }
answer_of (made q []) = record { first = of_z w32 q; second = 0; third = 0 }
answer_of (made q (v ∷ vs)) = record { first = 2 ^ 32 + of_z w32 q; second = to_bits binary64 v.physical; third = to_bits binary64 v.error }

-- of two bounds: the refusal's number, or the least value; then the greatest
abbrev pub range_answer : Values → Answer
range_answer v = record { first = v.number * 2 ^ 40 + of_z w32 v.least; second = of_z w32 v.greatest; third = 0 }

-- the range of the case whose bytes begin at `at`
unfoldable pub range_at : List ℕ → ℕ → Values
range_at s at = values_of (Bounds.answer_of (convert_bounds (number_at 1 s (at + 1)) (double_at s (at + 2)) (double_at s (at + 10)) (double_at s (at + 18))))

-- of a pitch survey: the refusal's number, or the clean places; then those with an entry due, and the refused ones
abbrev pub survey_answer : Survey.Values → Answer
survey_answer v = record { first = v.number * 2 ^ 40 + v.clean; second = v.due; third = v.refused }

-- the counts of the case whose bytes begin at `at`
unfoldable pub survey_at : List ℕ → ℕ → Survey.Values
survey_at s at = Survey.values_of (Survey.answer_of (survey_pitch (number_at 1 s (at + 1)) (double_at s (at + 2)) (double_at s (at + 10)) (number_at 4 s (at + 26))))

-- a conversion's answer does not say where the deviation is
unfoldable pub answer_at : List ℕ → ℕ → Answer
answer_at s at =
    cond (eqb (number_at 1 s at) 3) (range_answer (range_at s at))
    (cond (eqb (number_at 1 s at) 4) (survey_answer (survey_at s at))
    (answer_of (converted_at s at (record { field = 0; axis = 0; place = 0 }))))

-- the three words at a place
abbrev pub stored_at : List ℕ → ℕ → Answer
stored_at s at = record { first = number_at 8 s at; second = number_at 8 s (at + 8); third = number_at 8 s (at + 16) }

-- whether three words stand at a place
unfoldable pub words_at : ℕ → ℕ → ℕ → List ℕ → ℕ → Bool
words_at first second third s at = eqb first (number_at 8 s at) && (eqb second (number_at 8 s (at + 8)) && eqb third (number_at 8 s (at + 16)))

abbrev pub is_at : Answer → List ℕ → ℕ → Bool
is_at a s at = words_at a.first a.second a.third s at

-- whether case k has the answer that the definitions give
unfoldable pub agrees : List ℕ → ℕ → Bool
agrees s k = is_at (answer_at s (54 * k)) s (54 * k + 30)
