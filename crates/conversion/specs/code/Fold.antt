-- A report entry while its element is written, and steps run against it: an element has its entry from the start, with no deviation yet. Assumes nothing.
use Rattle.std.specs.Prelude.{cond, List, [], ◌∷◌, ℕ, ◌+◌, ◌≤◌, eqb, pos}
use Rattle.std.specs.Float.{binary64}
use Rattle.std.specs.Float.Ieee.{of_bits}
use Rattle.refusal.specs.declared.Refusal.{Refusal}
use Rattle.conversion.specs.declared.Deviation.{Deviation}
use Rattle.conversion.specs.declared.Entry.{Entry}
use Rattle.conversion.specs.Entry.{first_entry, takes}
use Rattle.conversion.specs.Made.{Made, refused, made}

-- no deviation yet: a count of 0
abbrev pub blank_entry : ℕ → ℕ → Entry
blank_entry i k = record { index = i; kind = k; field = 0; axis = 0; place = 0; count = 0; physical = of_bits binary64 0; database = pos 0; error = of_bits binary64 0 }

-- the entry e with the representative v
abbrev pub represented_by : Entry → Deviation → Entry
represented_by e v = record { index = e.index; kind = e.kind; field = v.field; axis = v.axis; place = v.place; count = e.count; physical = v.physical; database = v.database; error = v.error }

-- the bytes of `place_bytes`
abbrev pub place_length : ℕ
place_length = 13

-- the greatest count: 32 bits hold no more
abbrev pub max_count : ℕ
max_count = 4294967295

-- n deviations more can be counted. An element never comes near the greatest count, and this is what its steps hand on to say so.
abbrev pub Spare : ℕ → Entry → Type 0
Spare n e = e.count + n ≤ max_count

-- the first deviation, or one more
unfoldable pub noted : Entry → Deviation → Entry
noted e v = cond (eqb e.count 0) (first_entry e.index e.kind v) (takes e v)

unfoldable pub noted_all : Entry → List Deviation → Entry
noted_all e [] = e
noted_all e (v ∷ vs) = noted_all (noted e v) vs

-- the entries that stand for the element: "At most one entry stands for an element"
abbrev pub standing : Entry → List Entry
standing e = cond (eqb e.count 0) [] (e ∷ [])

-- A step run against an entry: `stop` of its refusal; otherwise what follows, of its value and the entry with its deviations.
unfoldable pub run : {R : Type 0} (stop : Refusal → R) {A : Type 0} → Entry → Made A → (A → Entry → R) → R
run stop e (refused r) k = stop r
run stop e (made a vs) k = k a (noted_all e vs)
