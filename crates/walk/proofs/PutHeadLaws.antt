-- The head written: BGNSTR's data are the block's own bytes. Assumes nothing.
use mathlib.Core.Path.{◌≡◌, ap, subst}
use mathlib.Core.List.{List}
use Prim.Native.Nat.{ℕ, ◌+◌, ◌-◌, ◌%◌, ◌≤◌}
use lib.ListN.{length, take, drop}
use Rattle.big_endian.specs.Big.{Bytes}
use Rattle.big_endian.specs.Buffer.{WroteAt}
use Rattle.big_endian.proofs.BufferLaws.{then_at, same_bytes}
use Rattle.stream.specs.Record.{BGNSTR, STRNAME, record_bytes}
use Rattle.stream.specs.Records.{string_record}
use Rattle.stream.specs.Strings.{padded}
use Rattle.records.specs.code.Bytes.{stamped, Recorded}
use Rattle.block_places.specs.declared.HeadPlaces.{HeadPlaces}
use Rattle.block_places.specs.code.Place.{string_at}
use Rattle.block_places.specs.code.Places.{head_at}
use Rattle.walk.specs.code.Walk.{head_bytes}
use Rattle.walk.proofs.HeadLaws.{length-words, head-length}
use Rattle.walk.proofs.StampsLaws.{stamps-back}

-- the room of both records
pub head-room : (b : List ℕ) (s : HeadPlaces) (n : ℕ) → length (head_bytes (head_at b s)) ≤ n → 32 + length (string_at b s.name) + length (string_at b s.name) % 2 ≤ n
unfolding head_at
head-room b s n l = subst (λ (m : ℕ). m ≤ n) (head-length (head_at b s) (length-words 12 b s.stamps)) l

-- the two records
pub head-put : (b : List ℕ) (s : HeadPlaces) {name d c1 c2 : List ℕ} {i j r1 r2 : ℕ} → Bytes b → s.stamps + 24 ≤ length b → name ≡ string_at b s.name
    → Recorded (stamped BGNSTR (take (s.stamps + 24 - s.stamps) (drop s.stamps b))) i d c1 0 r1
    → Recorded (string_record STRNAME (padded name)) j c1 c2 r1 r2
    → WroteAt (head_bytes (head_at b s)) d c2 0 r2
unfolding head_bytes head_at
head-put b s h l e u w =
    then_at (same_bytes (ap (λ (t : List ℕ). record_bytes (stamped BGNSTR t)) (stamps-back b s.stamps h l)) u.wrote)
    (same_bytes (ap (λ (t : List ℕ). record_bytes (string_record STRNAME (padded t))) e) w.wrote)
