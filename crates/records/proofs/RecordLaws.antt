-- A record is its head and then its data; and rows of records in the output: what is written, and what room is left. Assumes nothing.
use mathlib.Core.Path.{◌≡◌, refl, sym, ap, ◌∙◌, subst}
use mathlib.Core.Bool.{Bool, true, false, cond}
use mathlib.Core.Option.{Option, none, some}
use mathlib.Core.List.{List, [], ◌∷◌, ◌++◌, append-nil}
use Prim.Native.Nat.{ℕ, ◌+◌, ◌/◌, ◌%◌, ◌≤◌, ◌<◌}
use native.Mathlib.Omega.{arith}
use lib.Dec.{eqb}
use lib.ListN.{length, length-append}
use borrow.Author.Tests.{eqb-true, eqb-false, ne_eqb}
use Rattle.std.specs.declared.option.Option as Code
use Rattle.std.specs.declared.option.Option.TheVariants.{None, Some}
use Rattle.std.specs.Option.{option_map}
use Rattle.big_endian.specs.Big.{bytes_of}
use Rattle.big_endian.specs.Buffer.{WroteAt}
use Rattle.big_endian.proofs.BufferLaws.{then_at, length_at, nothing-at, same_bytes}
use Rattle.stream.specs.Record.{Rec, no_data, ascii_string, record_bytes, stream_bytes}
use Rattle.stream.specs.Records.{empty_record, string_record, opt}
use Rattle.stream.specs.Strings.{padded}
use Rattle.records.specs.code.Bytes.{head_bytes, Placed, Recorded, opt_bytes, option_of}

-- ---- what a writer promises

pub placed : {bs before after : List ℕ} {n at to : ℕ} → WroteAt bs before after at to → n ≡ length bs → Placed bs n before after at to
placed {bs} w e = let k = w.count in record { wrote = w; end = omega arith; long = length_at w }

-- two in a row
pub then-placed : {b1 b2 d cur last : List ℕ} {m n at r1 r2 : ℕ} → Placed b1 m d cur at r1 → Placed b2 n cur last r1 r2 → Placed (b1 ++ b2) (m + n) d last at r2
then-placed u w =
    let a = u.end in
    let b = w.end in
    let k = u.long in
    let l = w.long in
    record { wrote = then_at u.wrote w.wrote; end = omega arith; long = omega arith }

-- ---- one record

pub length-record : (r : Rec) → length (record_bytes r) ≡ 4 + length r.content
unfolding record_bytes
length-record r = omega arith

-- a head of the record's length, then its data
pub record-at : (r : Rec) (len : ℕ) {d cur last : List ℕ} {at r1 r2 : ℕ} → len ≡ 4 + length r.content
    → WroteAt (head_bytes len r.code r.data_type) d cur at r1 → WroteAt r.content cur last r1 r2 → Recorded r len d last at r2
unfolding record_bytes
record-at r len e u w = let l = length-record r in placed (same_bytes (ap (λ (n : ℕ). head_bytes n r.code r.data_type ++ r.content) e) (then_at u w)) (omega arith)

pub empty-at : (code : ℕ) {d cur : List ℕ} {at to : ℕ} → WroteAt (head_bytes 4 code no_data) d cur at to → Recorded (empty_record code) 4 d cur at to
unfolding record_bytes
empty-at code w = placed w refl

-- a number: one byte of it is itself
pub byte-is : (v : ℕ) → v < 256 → bytes_of 1 v ≡ v ∷ []
byte-is v h = ap (λ (z : ℕ). z ∷ []) (go v h)
  where
    go : (v : ℕ) → v < 256 → v / 1 % 256 ≡ v
    go v h = omega arith

-- ---- strings: an even one as it is, an odd one with one zero byte more

pub padded-even : (s : List ℕ) → length s % 2 ≡ 0 → padded s ≡ s
unfolding padded
padded-even s e = rw e

pub padded-odd : (s : List ℕ) → (length s % 2 ≡ 0 → ⊥) → padded s ≡ s ++ 0 ∷ []
unfolding padded
padded-odd s e = rw (ne_eqb (length s % 2) 0 e)

-- made even
pub length-padded : (s : List ℕ) → length (padded s) ≡ length s + length s % 2
unfolding padded
length-padded s = go (eqb (length s % 2) 0) refl
  where
    go : (t : Bool) → eqb (length s % 2) 0 ≡ t → length (cond t s (s ++ 0 ∷ [])) ≡ length s + length s % 2
    go true e = let h = eqb-true (length s % 2) 0 e in omega arith
    go false e =
        let h = eqb-false (length s % 2) 0 e in
        simp length-append (omega arith)

pub string-even : (code : ℕ) (s : List ℕ) {d cur last : List ℕ} {at r1 r2 : ℕ} → length s % 2 ≡ 0
    → WroteAt (head_bytes (4 + length s + length s % 2) code ascii_string) d cur at r1 → WroteAt s cur last r1 r2
    → Recorded (string_record code (padded s)) (4 + (length s + length s % 2)) d last at r2
string-even code s {d} {cur} {last} {at} {r1} {r2} e u w =
    let l = ap length (padded-even s e) in
    let n : 4 + length s + length s % 2 ≡ 4 + (length s + length s % 2) = omega arith in
    subst (λ (k : ℕ). Recorded (string_record code (padded s)) k d last at r2) n
    (record-at (string_record code (padded s)) (4 + length s + length s % 2) (omega arith) u (same_bytes (sym (padded-even s e)) w))

pub string-odd : (code : ℕ) (s : List ℕ) {d cur next last : List ℕ} {at r1 r2 r3 : ℕ} → (length s % 2 ≡ 0 → ⊥)
    → WroteAt (head_bytes (4 + length s + length s % 2) code ascii_string) d cur at r1 → WroteAt s cur next r1 r2 → WroteAt (0 ∷ []) next last r2 r3
    → Recorded (string_record code (padded s)) (4 + (length s + length s % 2)) d last at r3
string-odd code s {d} {cur} {next} {last} {at} {r1} {r2} {r3} e u w v =
    let l : length (padded s) ≡ length s + 1 = ap length (padded-odd s e) ∙ simp length-append in
    let n : 4 + length s + length s % 2 ≡ 4 + (length s + length s % 2) = omega arith in
    subst (λ (k : ℕ). Recorded (string_record code (padded s)) k d last at r3) n
    (record-at (string_record code (padded s)) (4 + length s + length s % 2) (omega arith) u (same_bytes (sym (padded-odd s e)) (then_at w v)))

-- ---- a record that may be missing

pub opt-missing : {d : List ℕ} {at : ℕ} → at ≤ length d → Placed [] 0 d d at at
opt-missing {d} {at} h = placed (nothing-at d at h) refl

-- by what a part of it is made of
pub opt-map : {A B : Type 0} (f : B → Rec) (h : A → B) (o : Code.Option A) → opt_bytes f (option_of (option_map h o)) ≡ opt_bytes (λ (a : A). f (h a)) (option_of o)
unfolding opt_bytes
opt-map f h None = refl
opt-map f h (Some a) = refl

-- ---- a row of records: the first, then the rest

pub then-rest : (r : Rec) (rs : List Rec) {n m : ℕ} {d cur last : List ℕ} {at to end : ℕ}
    → Recorded r n d cur at to → Placed (stream_bytes rs) m cur last to end → Placed (stream_bytes (r ∷ rs)) (n + m) d last at end
unfolding stream_bytes
then-rest r rs w v = then-placed w v

-- one that comes last
pub alone : (r : Rec) {n : ℕ} {d cur : List ℕ} {at to : ℕ} → Recorded r n d cur at to → Placed (stream_bytes (r ∷ [])) n d cur at to
unfolding stream_bytes
alone r {n} {d} {cur} {at} {to} w = subst (λ (l : List ℕ). Placed l n d cur at to) (sym (append-nil (record_bytes r))) w

pub length-first : (r : Rec) (rs : List Rec) → length (stream_bytes (r ∷ rs)) ≡ 4 + length r.content + length (stream_bytes rs)
unfolding stream_bytes
length-first r rs = length-append (record_bytes r) (stream_bytes rs) ∙ ap (λ (n : ℕ). n + length (stream_bytes rs)) (length-record r)

-- the first may be missing
pub opt-is : {A : Type 0} (f : A → Rec) (x : Option A) (rs : List Rec) → opt_bytes f x ++ stream_bytes rs ≡ stream_bytes (opt f x rs)
unfolding stream_bytes opt_bytes opt
opt-is f none rs = refl
opt-is f (some a) rs = refl

pub then-opt : {A : Type 0} (f : A → Rec) (x : Option A) (rs : List Rec) {n m : ℕ} {d cur last : List ℕ} {at to end : ℕ}
    → Placed (opt_bytes f x) n d cur at to → Placed (stream_bytes rs) m cur last to end → Placed (stream_bytes (opt f x rs)) (n + m) d last at end
then-opt f x rs {n} {m} {d} {cur} {last} {at} {to} {end} w v = subst (λ (l : List ℕ). Placed l (n + m) d last at end) (opt-is f x rs) (then-placed w v)
