-- The file's own records in the output. Assumes nothing.
use mathlib.Core.Path.{◌≡◌, subst}
use mathlib.Core.List.{List}
use Prim.Native.Nat.{ℕ, ◌+◌, ◌-◌, ◌%◌, ◌≤◌}
use lib.ListN.{length, take, drop}
use Rattle.big_endian.specs.Big.{Bytes, bytes_of}
use Rattle.big_endian.specs.Buffer.{WroteAt}
use Rattle.stream.specs.Record.{two_byte}
use Rattle.stream.specs.Records.{string_record}
use Rattle.stream.specs.Strings.{padded}
use Rattle.stream.specs.Library.{HEADER, BGNLIB, LIBNAME, version, units_record, file_head_records, file_head_bytes}
use Rattle.records.specs.code.Bytes.{sized, stamped, Recorded}
use Rattle.records.proofs.RecordLaws.{then-rest, alone}
use Rattle.block_places.specs.code.Place.{string_at}
use Rattle.walk.proofs.StampsLaws.{stamps-back}
use Rattle.library_head.specs.declared.HeadParts.{HeadParts}
use Rattle.library_head.specs.code.Head.{file_head_at}
use Rattle.library_head.proofs.CheckLaws.{head-length}

-- the room of the four records
pub head-room : (b : List ℕ) (p : HeadParts) (n : ℕ) → length (file_head_bytes (file_head_at b p)) ≤ n → 58 + length (string_at b 0) + length (string_at b 0) % 2 ≤ n
head-room b p n l = subst (λ (m : ℕ). m ≤ n) (head-length b p) l

-- the four records
pub head-put : (b : List ℕ) (p : HeadParts) {name d c1 c2 c3 c4 : List ℕ} {h i j k r1 r2 r3 r4 : ℕ} → Bytes b → p.stamps + 24 ≤ length b → name ≡ string_at b 0
    → Recorded (sized HEADER two_byte 2 version) h d c1 0 r1
    → Recorded (stamped BGNLIB (take (p.stamps + 24 - p.stamps) (drop p.stamps b))) i c1 c2 r1 r2
    → Recorded (string_record LIBNAME (padded name)) j c2 c3 r2 r3
    → Recorded (units_record (bytes_of 8 p.user) (bytes_of 8 p.database)) k c3 c4 r3 r4
    → WroteAt (file_head_bytes (file_head_at b p)) d c4 0 r4
unfolding file_head_at file_head_records
head-put b p {name} {d} {c1} {c2} {c3} {c4} {h} {i} {j} {k} {r1} {r2} {r3} {r4} a l e v s n u =
    let stamps : Recorded (stamped BGNLIB _) i c1 c2 r1 r2 = subst (λ (t : List ℕ). Recorded (stamped BGNLIB t) i c1 c2 r1 r2) (stamps-back b p.stamps a l) s in
    let named : Recorded (string_record LIBNAME _) j c2 c3 r2 r3 = subst (λ (t : List ℕ). Recorded (string_record LIBNAME (padded t)) j c2 c3 r2 r3) e n in
    (then-rest _ _ v (then-rest _ _ stamps (then-rest _ _ named (alone _ u)))).wrote
