-- The report entry of an element (document 01, "Result three"; document 02, request 2; `record_quantization` of write/conversion.rs). Assumes nothing.
use Rattle.std.specs.Prelude.{List, [], ◌∷◌, ◌++◌, Bool, true, false, cond, ℕ, ◌+◌, Float}
use Rattle.std.specs.Float.{binary64}
use Rattle.std.specs.Float.Ieee.{lt, to_bits}
use Rattle.std.proofs.Common.{of_z}
use Rattle.std.specs.Int.{w32}
use Rattle.big_endian.specs.Big.{bytes_of}
use Rattle.binary64.specs.Value.{abs}
use Rattle.conversion.specs.declared.Deviation.{Deviation}
use Rattle.conversion.specs.declared.Entry.{Entry}

-- an element's first deviation, as its entry
unfoldable pub first_entry : ℕ → ℕ → Deviation → Entry
first_entry i kind v = record {
  index = i;
  kind = kind;
  field = v.field;
  axis = v.axis;
  place = v.place;
  count = 1;
  physical = v.physical;
  database = v.database;
  error = v.error;
}

-- "A report entry takes one more deviation and gives back the entry" (document 01); "A deviation replaces the representative only if its magnitude is larger." (document 02, request 2)
unfoldable pub takes : Entry → Deviation → Entry
takes e v = go (lt (abs e.error) (abs v.error))
  where
    go : Bool → Entry
    go true = record {
      index = e.index;
      kind = e.kind;
      field = v.field;
      axis = v.axis;
      place = v.place;
      count = e.count + 1;
      physical = v.physical;
      database = v.database;
      error = v.error;
    }
    go false = record {
      index = e.index;
      kind = e.kind;
      field = e.field;
      axis = e.axis;
      place = e.place;
      count = e.count + 1;
      physical = e.physical;
      database = e.database;
      error = e.error;
    }

-- all deviations of a list, in turn
abbrev pub takes_all : Entry → List Deviation → Entry
takes_all e [] = e
takes_all e (v ∷ vs) = takes_all (takes e v) vs

-- "At most one entry stands for an element": the entry of the deviations of the element of index i, with its kind
unfoldable pub entry_of : ℕ → ℕ → List Deviation → List Entry
entry_of i kind [] = []
entry_of i kind (v ∷ vs) = takes_all (first_entry i kind v) vs ∷ []

-- "33 bytes: index 4, element kind 1, field 1, axis 1, point place 2 (else 0), affected count 4, p 8, q 4, error 8"; the first 13 of them
abbrev pub place_bytes : Entry → List ℕ
place_bytes e =
    bytes_of 4 e.index
    ++ bytes_of 1 e.kind
    ++ bytes_of 1 e.field
    ++ bytes_of 1 e.axis
    ++ bytes_of 2 e.place
    ++ bytes_of 4 e.count

unfoldable pub entry_bytes : Entry → List ℕ
entry_bytes e =
    place_bytes e
    ++ bytes_of 8 (to_bits binary64 e.physical)
    ++ bytes_of 4 (of_z w32 e.database)
    ++ bytes_of 8 (to_bits binary64 e.error)

-- "33 bytes"
abbrev pub entry_length : ℕ
entry_length = 33

-- the entries' bytes, one after the other, each after the same lead
abbrev pub report_with : List ℕ → List Entry → List ℕ
report_with lead [] = []
report_with lead (e ∷ es) = (lead ++ entry_bytes e) ++ report_with lead es

-- a cell's entries have none
abbrev pub report_bytes : List Entry → List ℕ
report_bytes es = report_with [] es

-- the largest of x and the magnitudes of the entries' errors: "The greatest error stays a magnitude."
unfoldable pub greatest_from : Float → List Entry → Float
greatest_from x [] = x
greatest_from x (e ∷ es) = greatest_from (cond (lt x (abs e.error)) (abs e.error) x) es
