-- What the sign of a deviation says, and that the report is the Rust's but for it (document 02, request 2: "Which side of the grid"). Assumes nothing.
use Rattle.std.specs.Prelude.{◌≡◌, not, ◌&&◌, cond, List, [], ◌∷◌, map, ℕ, ◌+◌, T, ℤ, pos, ◌*ℤ◌, ◌<ℤ◌, Float}
use Rattle.std.specs.Float.{binary64}
use Rattle.std.specs.Float.Ieee.{fits, sub, mul, div, lt, of_int}
use Rattle.std.specs.Float.Ieee.Scale.{finite}
use Rattle.std.specs.Float.Ieee.Positive.{positive}
use Rattle.binary64.specs.Value.{scaled, abs, zero64}
use Rattle.binary64.specs.Step.{one_step}
use Rattle.conversion.specs.declared.Deviation.{Deviation}
use Rattle.conversion.specs.declared.Entry.{Entry}
use Rattle.conversion.specs.declared.GdsRoundingPolicy.TheVariants.{Floor, Ceil}
use Rattle.conversion.specs.Made.{pure}
use Rattle.conversion.specs.Convert.{Spot, in_range, database_value, difference, counts, deviations}
use Rattle.conversion.specs.Entry.{first_entry, entry_of, greatest_from}

-- ---- the side

-- The database value lies above the physical value, q × d > p, or below it: over whole numbers, with d and p as whole numbers of 2 ^ -1074.
abbrev pub Above : Float → Float → ℤ → Type 0
Above d p q = scaled p <ℤ (q *ℤ scaled d)

abbrev pub Below : Float → Float → ℤ → Type 0
Below d p q = (q *ℤ scaled d) <ℤ scaled p

-- The error e is above 0 exactly where the database value lies above the physical value, and below 0 exactly where it lies below.
pub record TellsSide (d p : Float) (q : ℤ) (e : Float) : Type 0 where
  pub above : T (lt zero64 e) → Above d p q
  pub is-above : Above d p q → T (lt zero64 e)
  pub below : T (lt e zero64) → Below d p q
  pub is_below : Below d p q → T (lt e zero64)

-- A deviation that counts tells the side. (Every f64 fits binary64; d and p are finite and q is a signed 32-bit number, or the conversion is refused.)
abbrev pub CountedTellsSide : Type 0
CountedTellsSide = (d p : Float) (q : ℤ) → T (fits binary64 d) → T (finite d) → T (fits binary64 p) → T (finite p) → T (in_range q) → T (counts d p q) → TellsSide d p q (difference d p q)

-- An entry's p is finite and its q a signed 32-bit number; its error is their deviation, and counts, so that it is neither a zero nor a NaN; and it tells the side.
pub record EntryTellsSide (d : Float) (e : Entry) : Type 0 where
  pub physical : T (finite e.physical)
  pub database : T (in_range e.database)
  pub error : e.error ≡ difference d e.physical e.database
  pub counted : T (counts d e.physical e.database)
  pub side : TellsSide d e.physical e.database e.error

-- What is converted under floor never lies above its physical value, but for 0; and under ceiling never below (document 01, "Result two"). (In the unit 1, −2^-1074 snaps to 0 and has an entry. An array's far corner is no conversion, and may lie on either side.)
abbrev pub FloorNeverAbove : Type 0
FloorNeverAbove = (d p : Float) (q : ℤ) → T (fits binary64 d) → T (positive d) → T (fits binary64 p) → database_value Floor d p ≡ pure q → T (counts d p q) → Above d p q → q ≡ pos 0

abbrev pub CeilingNeverBelow : Type 0
CeilingNeverBelow = (d p : Float) (q : ℤ) → T (fits binary64 d) → T (positive d) → T (fits binary64 p) → database_value Ceil d p ≡ pure q → T (counts d p q) → Below d p q → ⊥

-- ---- the Rust's report, which has magnitudes alone (document 01, "Result three"; `record_quantization` of write/conversion.rs)

-- "the error is |p − q × d|, two roundings, q the database value"
unfoldable pub error_of : Float → Float → ℤ → Float
error_of d p q = abs (sub binary64 p (mul binary64 (of_int binary64 q) d))

-- "It counts where it is above 0 and s and q differ by more than one step, q taken as a double with 0 positive."
unfoldable pub rust_deviations : Float → Spot → Float → ℤ → List Deviation
rust_deviations d at p q =
    cond (lt zero64 (error_of d p q) && not (one_step (div binary64 p d) (of_int binary64 q)))
    (record { field = at.field; axis = at.axis; place = at.place; physical = p; database = q; error = error_of d p q } ∷ [])
    []

-- "A report entry takes one more deviation and gives back the entry; only a larger error replaces the representative."
unfoldable pub rust_takes : Entry → Deviation → Entry
rust_takes e v =
    cond (lt e.error v.error)
    (record { index = e.index; kind = e.kind; field = v.field; axis = v.axis; place = v.place; count = e.count + 1; physical = v.physical; database = v.database; error = v.error })
    (record { index = e.index; kind = e.kind; field = e.field; axis = e.axis; place = e.place; count = e.count + 1; physical = e.physical; database = e.database; error = e.error })

abbrev pub rust_takes_all : Entry → List Deviation → Entry
rust_takes_all e [] = e
rust_takes_all e (v ∷ vs) = rust_takes_all (rust_takes e v) vs

unfoldable pub rust_entry_of : ℕ → ℕ → List Deviation → List Entry
rust_entry_of i kind [] = []
rust_entry_of i kind (v ∷ vs) = rust_takes_all (first_entry i kind v) vs ∷ []

-- the greatest of x and the entries' errors
unfoldable pub rust_greatest : Float → List Entry → Float
rust_greatest x [] = x
rust_greatest x (e ∷ es) = rust_greatest (cond (lt x e.error) e.error x) es

-- ---- ours is the Rust's but for the sign

-- "Comparison with the Rust takes the magnitude of this field": it is the Rust's error, bit for bit, for all d, p and q.
abbrev pub SameMagnitude : Type 0
SameMagnitude = (d p : Float) (q : ℤ) → abs (difference d p q) ≡ error_of d p q

-- a deviation and an entry without the sign
abbrev pub unsigned : Deviation → Deviation
unsigned v = record { field = v.field; axis = v.axis; place = v.place; physical = v.physical; database = v.database; error = abs v.error }

abbrev pub unsigned_entry : Entry → Entry
unsigned_entry e = record {
  index = e.index;
  kind = e.kind;
  field = e.field;
  axis = e.axis;
  place = e.place;
  count = e.count;
  physical = e.physical;
  database = e.database;
  error = abs e.error;
}

-- Without the sign, a conversion's deviations are the Rust's; an element's entry is the one that the Rust makes of its deviations without their signs; and the greatest error is the Rust's of the entries without theirs.
pub record SignAside : Type 0 where
  pub deviation : (d : Float) (at : Spot) (p : Float) (q : ℤ) → map unsigned (deviations d at p q) ≡ rust_deviations d at p q
  pub entry : (i kind : ℕ) (vs : List Deviation) → map unsigned_entry (entry_of i kind vs) ≡ rust_entry_of i kind (map unsigned vs)
  pub greatest : (x : Float) (es : List Entry) → greatest_from x es ≡ rust_greatest x (map unsigned_entry es)
