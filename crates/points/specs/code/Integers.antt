-- Points whose coordinates are integers in the database unit: "An integer whose unit equals d passes unchanged" (document 01, "Result two"). Assumes nothing.
use Rattle.std.specs.Prelude.{◌≡◌, true, List, ℕ, zero, suc, ◌+◌, ◌*◌, ◌/◌, ◌≤◌, length, T, ℤ, Float}
use Rattle.std.proofs.Math.Option.{some}
use Rattle.std.proofs.Common.{to_z}
use Rattle.std.specs.Int.{w32}
use Rattle.big_endian.specs.Big.{number_at}
use Rattle.big_endian.specs.Buffer.{WroteAt}
use Rattle.units.specs.Point.{Point}
use Rattle.units.specs.Physical.{passed}
use Rattle.sheet.specs.Form.{integer_kind}
use Rattle.stream.specs.Records.{points_bytes}
use Rattle.records.specs.code.Bytes.{xy_point_length}
use Rattle.units.specs.declared.Unit.{Unit}
use Rattle.block_places.specs.code.Place.{values_from, unit_at, point_end, points_from, point_length}

-- of a list's bytes, how many points they are, and the points
abbrev pub count_of : List ℕ → ℕ
count_of s = length s / point_length

abbrev pub points_in : List ℕ → List (Point Unit)
points_in s = points_from (count_of s) s 0

-- the lower four value bytes of a coordinate
abbrev pub integer_at : List ℕ → ℕ → ℤ
integer_at b at = to_z w32 (number_at 4 b (at + 5))

abbrev pub integers_at : List ℕ → ℕ → Point ℤ
integers_at b at = record { x = integer_at b at; y = integer_at b (at + 17) }

-- of n points in a row
abbrev pub integers_from : ℕ → List ℕ → ℕ → List (Point ℤ)
integers_from = values_from integers_at point_end

-- the coordinate at a place is an integer whose unit has these bits
abbrev pub InUnit : ℕ → List ℕ → ℕ → Type 0
InUnit bits b at = (number_at 1 b at ≡ integer_kind) × (number_at 8 b (at + 9) ≡ bits)

-- the coordinate at a place passes
abbrev pub Passes : Float → List ℕ → ℕ → Type 0
Passes d b at = passed d (unit_at b at) ≡ some (integer_at b at)

-- both coordinates of each of n points pass
abbrev pub AllPass : Float → List ℕ → ℕ → ℕ → Type 0
AllPass d b zero at = T true
AllPass d b (suc n) at = Passes d b at × Passes d b (at + 17) × AllPass d b n (at + 34)

-- ---- of a list, the points in front that pass

-- the first k do
pub record Passing (d : Float) (s : List ℕ) (k : ℕ) : Type 0 where
  pub within : k ≤ count_of s
  pub pass : AllPass d s k 0

-- and their bytes stand in the output, from a place on
pub record PutsPassing (d : Float) (s : List ℕ) (start : ℕ) (before after : List ℕ) (k : ℕ) : Type 0 where
  pub passing : Passing d s k
  pub wrote : WroteAt (points_bytes (integers_from k s 0)) before after start (start + xy_point_length * k)
