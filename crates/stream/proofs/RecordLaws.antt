-- Bytes and records: a record's head says its length, and records come back from their bytes. Assumes nothing.
use mathlib.Core.Path.{◌≡◌, refl, sym, ap, ◌∙◌}
use mathlib.Core.Bool.{Bool, true, false, ◌&&◌, cond}
use mathlib.Core.List.{List, [], ◌∷◌, ◌++◌, append_assoc, append-nil}
use Prim.Native.Nat.{ℕ, zero, suc, ◌+◌, ◌-◌, ◌%◌, ◌≤◌, ◌<◌}
use native.Mathlib.Nat.{le_refl}
use native.Mathlib.Omega.{arith}
use borrow.Author.Tests.{le-leb, eq-eqb, eqb-true}
use lib.Dec.{T, ltb, eqb, eqb→eq, ltb→lt}
use lib.ListN.{length, take, length-append}
use lib.Ieee.Bits.{is_true}
use lib.Ieee.Fits.{and_l, and_r}
use Rattle.big_endian.specs.Big.{Bytes, number, bytes_of}
use Rattle.big_endian.proofs.BigLaws.{number-back}
use Rattle.big_endian.proofs.BytesLaws.{bytes-nil, bytes-cons, bytes-append, bytes-bytes_of}
use Rattle.parsing.specs.Parse.{part, items, ill_formed}
use Rattle.parsing.proofs.ParseLaws.{items-append}
use Rattle.stream.specs.Record.{Rec, Manual, listed, manual, has_size, of_manual, record_bytes, stream_bytes, data_of, next_record, Run, with_record, run_f, run_of}
use Rattle.stream.proofs.Fit.{All, more}

-- a record that its bytes hold: of the manual, even, with a length of two bytes, and its data are bytes
pub record Good (r : Rec) : Type 0 where
  pub manual : T (of_manual r)
  pub even : T (eqb (length r.content % 2) 0)
  pub short : length r.content < 65532
  pub bytes : Bytes r.content

-- ---- one record

-- "a 2-byte length that counts its own 4-byte head"
pub head-length : (r : Rec) → Good r → number (take 2 (record_bytes r)) ≡ length (record_bytes r)
unfolding record_bytes
head-length r g = number-back 2 _ (omega (arith, g.short)) ∙ omega arith

-- "every record length is even, at least 4 and at most 65,534"
pub record Length (r : Rec) : Type 0 where
  pub even : length (record_bytes r) % 2 ≡ 0
  pub least : 4 ≤ length (record_bytes r)
  pub most : length (record_bytes r) ≤ 65534

pub good_length : (r : Rec) → Good r → Length r
unfolding record_bytes
good_length r g =
    let e = eqb→eq (length r.content % 2) 0 g.even in
    record { even = omega arith; least = omega arith; most = omega (arith, g.short) }

-- the data after a head of length n
data-back : (n : ℕ) (b rest : List ℕ) → n % 2 ≡ 0 → n ≡ 4 + length b → data_of n (b ++ rest) ≡ part b rest
data-back n b rest e l =
    let k : n - 4 ≡ length b = omega arith in
    rw (eq-eqb (n % 2) 0 e) (rw (le-leb 4 n (omega arith)) (rw k (items-append ill_formed b rest)))

-- a record comes back from the front of bytes
pub record-back : (r : Rec) (rest : List ℕ) → Good r → next_record (record_bytes r ++ rest) ≡ part r rest
unfolding next_record record_bytes items
record-back r rest g =
    rw (head-length r g) (rw (data-back (length (record_bytes r)) r.content rest (good_length r g).even (omega arith))
    (rw (is_true (of_manual r) g.manual)))

-- ---- records in a row

-- records in front of a run
abbrev pub prepend : List Rec → Run → Run
prepend rs u = record { records = rs ++ u.records; rest = u.rest }

run-front : (f g : ℕ) (rs : List Rec) (t : List ℕ) → f ≡ length rs + g → All Good rs → run_f f (stream_bytes rs ++ t) ≡ prepend rs (run_f g t)
unfolding run_f stream_bytes
run-front f g [] t e h = let z : f ≡ g = omega arith in ap (λ (n : ℕ). run_f n t) z
run-front zero g (r ∷ rs) t e h = absurd (omega arith)
run-front (suc f) g (r ∷ rs) t e (more h hs) =
    rw (append_assoc (record_bytes r) (stream_bytes rs) t) (rw (record-back r (stream_bytes rs ++ t) h) (ap (with_record r) (run-front f g rs t (omega arith) hs)))

enough : (rs : List Rec) → length rs ≤ length (stream_bytes rs)
unfolding stream_bytes record_bytes
enough [] = le_refl 0
enough (r ∷ rs) = omega (arith, length-append (record_bytes r) (stream_bytes rs), enough rs)

-- nothing is in no bytes
run-empty : (g : ℕ) → run_f g [] ≡ record { records = []; rest = [] }
unfolding run_f next_record items
run-empty zero = refl
run-empty (suc g) = refl

-- Bytes that begin with records: the run begins with these, and goes on in what follows, with room for as many records as there are bytes.
pub run-append : (rs : List Rec) (t : List ℕ) → All Good rs → run_of (stream_bytes rs ++ t) ≡ prepend rs (run_f (length (stream_bytes rs ++ t) - length rs) t)
unfolding run_of
run-append rs t g = run-front _ _ rs t (omega (arith, enough rs, length-append (stream_bytes rs) t)) g

-- The round trip of records and bytes.
pub run_of-back : (rs : List Rec) → All Good rs → run_of (stream_bytes rs) ≡ record { records = rs; rest = [] }
run_of-back rs g =
    ap run_of (sym (append-nil (stream_bytes rs))) ∙ run-append rs [] g ∙ ap (prepend rs) (run-empty _) ∙ ap (λ (z : List Rec). record { records = z; rest = [] }) (append-nil rs)

-- ---- each byte is a byte

-- the manual's codes and data types are bytes
pub record Small (c k : ℕ) : Type 0 where
  pub code : c < 256
  pub data_type : k < 256

abbrev small : List Manual → Bool
small [] = true
small (m ∷ ms) = ltb m.code 256 && ltb m.data_type 256 && small ms

listed_small : (ms : List Manual) (c k n : ℕ) → T (small ms) → T (listed ms c k n) → Small c k
listed_small [] c k n s t = absurd t
listed_small (m ∷ ms) c k n s t = go (eqb m.code c) refl t (listed_small ms c k n (and_r bytes (small ms) s))
  where
    bytes : Bool
    bytes = ltb m.code 256 && ltb m.data_type 256

    go : (b : Bool) → eqb m.code c ≡ b → T (cond b (eqb m.data_type k && has_size m.size n) (listed ms c k n)) → (T (listed ms c k n) → Small c k) → Small c k
    go true e t f =
        let h = and_l bytes (small ms) s in
        let i = ltb→lt m.code 256 (and_l (ltb m.code 256) (ltb m.data_type 256) h) in
        let j = ltb→lt m.data_type 256 (and_r (ltb m.code 256) (ltb m.data_type 256) h) in
        let x = eqb-true m.code c e in
        let y = eqb→eq m.data_type k (and_l (eqb m.data_type k) (has_size m.size n) t) in
        record { code = omega arith; data_type = omega arith }
    go false e t f = f t

-- a record whose code, data type and data are bytes
pub bytes-record : (r : Rec) → r.code < 256 → r.data_type < 256 → Bytes r.content → Bytes (record_bytes r)
unfolding record_bytes
bytes-record r h k b =
    bytes-append (bytes_of 2 (4 + length r.content)) (r.code ∷ r.data_type ∷ r.content) (bytes-bytes_of 2 (4 + length r.content))
    (bytes-cons r.code (r.data_type ∷ r.content) h (bytes-cons r.data_type r.content k b))

record-bytes : (r : Rec) → Good r → Bytes (record_bytes r)
unfolding of_manual manual
record-bytes r g =
    let s = listed_small manual r.code r.data_type (length r.content) tt g.manual in
    bytes-record r s.code s.data_type g.bytes

pub stream-bytes : (rs : List Rec) → All Good rs → Bytes (stream_bytes rs)
unfolding stream_bytes
stream-bytes [] h = bytes-nil
stream-bytes (r ∷ rs) (more h hs) = bytes-append (record_bytes r) (stream_bytes rs) (record-bytes r h) (stream-bytes rs hs)
