-- Document 01's starred rows for d = 1 and for the array ("Rows"), as data under one test that is computed of the definitions, and some rows beside them. A double is written by its bits. Assumes nothing.
use mathlib.Core.Bool.{Bool, true, false, ◌&&◌}
use mathlib.Core.Option.{none, some}
use mathlib.Core.List.{List, [], ◌∷◌}
use Prim.Native.Nat.{ℕ}
use lib.Dec.{T, eqb}
use lib.ListN.{length}
use lib.IntN.{ℤ, pos, negsuc}
use lib.Ieee as Ieee
use lib.Ieee.{Float, fin, binary64, of_bits, to_bits}
use Rattle.binary64.specs.Value.{same_int}
use Rattle.binary64.specs.Value as Value
use Rattle.binary64.specs.Step as Step
use Rattle.binary64.specs.Fma as Fma
use Rattle.refusal.specs.Number.{number}
use Rattle.units.specs.declared.Unit.{Unit}
use Rattle.units.specs.declared.Unit.TheVariants as U
use Rattle.units.specs.Physical as Physical
use Rattle.units.specs.Point.{endpoint}
use Rattle.conversion.specs.declared.GdsRoundingPolicy.{GdsRoundingPolicy}
use Rattle.conversion.specs.declared.GdsRoundingPolicy.TheVariants.{Nearest, Floor, Ceil, ErrorIfOffGrid}
use Rattle.conversion.specs.declared.Entry.{Entry}
use Rattle.conversion.specs.Entry.{entry_of}
use Rattle.conversion.specs.Entry as Entries
use Rattle.conversion.specs.Made as Made
use Rattle.conversion.specs.Made.{Made, Done, refused, made}
use Rattle.conversion.specs.Field.{point_field, column_endpoint_field, x_axis}
use Rattle.conversion.specs.Convert as Convert
use Rattle.conversion.specs.Convert.{convert_unit}
use Rattle.conversion.specs.Points as Points
use Rattle.conversion.specs.Points.{spot}
use Rattle.conversion.specs.Array as Array
use Rattle.conversion.specs.Array.{ArrayPoints, convert_array}

-- every definition on the way, opened, so that this module computes
unfoldable pub opened : Done
unfolding Ieee.of_bits Ieee.to_bits Ieee.mul Ieee.div Ieee.sub Ieee.neg Ieee.lt Ieee.eq Ieee.of_int Ieee.round Ieee.sum Ieee.add Ieee.size Value.size_of Value.negative Value.abs Value.scaled Value.floor_div Value.floor_of Value.ceil_of Value.round_away Step.ordered_bits Step.ordered Step.one_step Step.nearest_double Fma.times Fma.plus Fma.fma Physical.physical Physical.passed Entries.first_entry Entries.takes Entries.entry_of Made.◌>>=◌ Made.◌>>◌ Made.need Convert.difference Convert.counts Convert.deviations Convert.on_grid Convert.rounded Convert.ranged Convert.grid_value Convert.database_value Convert.convert_physical Convert.physical_value Convert.convert_by Convert.convert_unit Convert.array_endpoint Points.write_point Array.physical_point Array.physical_spacing Array.turned Array.write_physical Array.write_endpoint Array.convert_array
opened = tt

abbrev pub double : ℕ → Float
double b = of_bits binary64 b

abbrev pub one : Float
one = fin false 1 (pos 0)

-- the sheet's double x in the unit u
abbrev pub at : ℕ → ℕ → Unit
at x u = U.Float (double x) (double u)

-- an array's points and its entry's affected count, field, p, q and error
pub record Corners : Type 0 where
  pub origin : ℤ
  pub column_end : ℤ
  pub row_end : ℤ
  pub count : ℕ
  pub field : ℕ
  pub p : ℕ
  pub q : ℤ
  pub error : ℕ

pub data Row : Type 0 where
  -- at d = 1: the policy, the double, the database value and how many deviations count
  converts : GdsRoundingPolicy → ℕ → ℤ → ℕ → Row
  -- at d = 1: the policy, the double and the refusal's number
  refuses : GdsRoundingPolicy → ℕ → ℕ → Row
  -- at d = 1, nearest, sine 0, cosine 1: x of origin and of column spacing (y is 0), columns, rows, and what is due
  array : ℕ → ℕ → ℕ → ℕ → Corners → Row
  -- nearest, in a unit d: an integer of unit d as an array's origin x, with a column spacing in a unit of 0, and the refusal's number
  array_refuses : ℕ → ℤ → ℕ → Row

unfoldable pub is_converted : Made ℤ → ℤ → ℕ → Bool
is_converted (refused r) q n = false
is_converted (made z vs) q n = same_int z q && eqb (length vs) n

unfoldable pub is_refused : {A : Type 0} → Made A → ℕ → Bool
is_refused (refused r) n = eqb (number r) n
is_refused (made z vs) n = false

unfoldable pub has_entry : List Entry → Corners → Bool
unfolding opened
has_entry [] c = false
has_entry (e ∷ []) c =
    eqb e.count c.count && eqb e.field c.field && eqb (to_bits binary64 e.physical) c.p && same_int e.database c.q && eqb (to_bits binary64 e.error) c.error
has_entry (e ∷ f ∷ es) c = false

-- the corners on x as due, and on y 0
unfoldable pub is_array : Made ArrayPoints → ℕ → ℕ → Corners → Bool
unfolding opened has_entry
is_array (refused r) columns rows c = false
is_array (made a vs) columns rows c =
    same_int a.origin.x c.origin
    && same_int a.origin.y (pos 0)
    && same_int (endpoint a.origin.x a.column_step.x columns) c.column_end
    && same_int (endpoint a.origin.y a.column_step.y columns) (pos 0)
    && same_int (endpoint a.origin.x a.row_step.x rows) c.row_end
    && same_int (endpoint a.origin.y a.row_step.y rows) (pos 0)
    && has_entry (entry_of 0 5 vs) c

abbrev pub unit_bits : ℕ
unit_bits = 0x3ff0000000000000

unfoldable pub holds : Row → Bool
unfolding opened is_converted is_refused is_array
holds (converts policy x q n) = is_converted (convert_unit policy one (spot point_field x_axis 0) (at x unit_bits)) q n
holds (refuses policy x n) = is_refused (convert_unit policy one (spot point_field x_axis 0) (at x unit_bits)) n
holds (array o s columns rows c) =
    is_array (convert_array Nearest one (double 0) one columns rows (record { x = at o unit_bits; y = at 0 unit_bits }) (some (record { x = at s unit_bits; y = at 0 unit_bits })) none) columns rows c
holds (array_refuses d v n) =
    is_refused (convert_array Nearest (double d) (double 0) one 2 2 (record { x = U.Integer v (double d); y = at 0 unit_bits }) (some (record { x = at 0 0; y = at 0 0 })) none) n

unfoldable pub all_hold : List Row → Bool
unfolding holds
all_hold [] = true
all_hold (r ∷ rs) = holds r && all_hold rs

unfoldable pub rows : List Row
rows =
    -- "2.5 nearest 3*, floor 2*; −2.5 nearest −3*, ceiling −2*; 3 + 2^-51 strict 3, no entry*"
    converts Nearest 0x4004000000000000 (pos 3) 1
    ∷ converts Floor 0x4004000000000000 (pos 2) 1
    ∷ converts Nearest 0xc004000000000000 (negsuc 2) 1
    ∷ converts Ceil 0xc004000000000000 (negsuc 1) 1
    ∷ converts ErrorIfOffGrid 0x4008000000000001 (pos 3) 0
    -- "Array, nearest, origin (0.5, 0), spacing (10.5, 0), 4 × 1, sine 0, cosine 1: corners (1,0), (45,0), (1,0); count 4, field 7, p 42.5, q 45, error 2.5*"
    ∷ array 0x3fe0000000000000 0x4025000000000000 4 1
    (record { origin = pos 1; column_end = pos 45; row_end = pos 1; count = 4; field = column_endpoint_field; p = 0x4045400000000000; q = pos 45; error = 0x4004000000000000 })
    -- not starred: two steps from the grid; halves of a unit under strict; the edge of 32 bits; off grid and out of range
    ∷ converts Ceil 0x4008000000000002 (pos 4) 1
    ∷ refuses ErrorIfOffGrid 0x4008000000000002 18
    ∷ refuses ErrorIfOffGrid 0x4004000000000000 18
    ∷ converts Nearest 0x41dfffffffd00000 (pos 2147483647) 1
    ∷ refuses Nearest 0x41dfffffffe00000 19
    ∷ refuses ErrorIfOffGrid 0x41f0000000080000 18
    -- no bypass in arrays: the integer 2^31 - 1 in a unit d = 2^1000 has no finite physical value; had it passed, the spacing's unit would be refused, 16
    ∷ array_refuses 0x7e70000000000000 (pos 2147483647) 17
    ∷ []

-- every row
pub rows-hold : T (all_hold rows)
unfolding all_hold rows
rows-hold = tt
