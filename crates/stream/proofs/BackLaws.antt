-- The bytes of a structure that fits are read back whole, by the two round trips: bytes and records, records and the grammar. Assumes nothing.
use mathlib.Core.Path.{◌≡◌, ap, ◌∙◌}
use mathlib.Core.Option.{some}
use mathlib.Core.List.{List, [], ◌∷◌}
use lib.ListN.{length}
use Rattle.big_endian.specs.Big.{Bytes}
use Rattle.parsing.specs.Parse.{given, accepted}
use Rattle.stream.specs.Record.{Rec, Run, stream_bytes}
use Rattle.stream.specs.Structure.{Structure}
use Rattle.stream.specs.Records.{structure_records}
use Rattle.stream.specs.Read.{Limits, unlimited, structure, closed, read_structure, structure_of}
use Rattle.stream.proofs.Fit.{All, done, more, FitStructure}
use Rattle.stream.proofs.RecordLaws.{Good, Length, good_length, run_of-back, stream-bytes}
use Rattle.stream.proofs.Admitted.{AdmittedStructure, structure-free}
use Rattle.stream.proofs.ReadLaws.{structure-back}
use Rattle.stream.proofs.GoodLaws.{good-structure}
use Rattle.stream.proofs.BytesLaws.{lengths, stream-length}

-- ---- reading back

-- by a reader whose limits admit the structure's records
pub read_structure-back : (limits : Limits) (s : Structure) → AdmittedStructure limits s → FitStructure s → read_structure limits (stream_bytes (structure_records s)) ≡ given s
unfolding read_structure
read_structure-back limits s a h =
    ap (λ (u : Run). closed u.rest (structure limits u.records)) (run_of-back (structure_records s) (good-structure s h)) ∙ ap (closed []) (structure-back limits s a h)

pub structure_of-back : (s : Structure) → FitStructure s → structure_of (stream_bytes (structure_records s)) ≡ some s
unfolding structure_of
structure_of-back s h = ap accepted (read_structure-back unlimited s (structure-free s) h)

-- each byte of a structure that fits is a byte
pub structure-bytewise : (s : Structure) → FitStructure s → Bytes (stream_bytes (structure_records s))
structure-bytewise s h = stream-bytes (structure_records s) (good-structure s h)

-- ---- lengths

all-lengths : (rs : List Rec) → All Good rs → All Length rs
all-lengths [] done = done
all-lengths (r ∷ rs) (more g gs) = more (good_length r g) (all-lengths rs gs)

-- each record of a structure that fits has an even length of at least 4 and at most 65,534
pub record-lengths : (s : Structure) → FitStructure s → All Length (structure_records s)
record-lengths s h = all-lengths (structure_records s) (good-structure s h)

-- the structure's length is the sum of its records'
pub structure-length : (s : Structure) → length (stream_bytes (structure_records s)) ≡ lengths (structure_records s)
structure-length s = stream-length (structure_records s)
