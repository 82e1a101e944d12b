-- The run that reading goes over is the longest: it is the front of the bytes, no well-formed record follows it, and its records are good. Assumes nothing.
use mathlib.Core.Path.{◌≡◌, refl, sym, ap, ap₂, ◌∙◌, subst}
use mathlib.Core.Bool.{Bool, true, false, ◌&&◌, cond}
use mathlib.Core.List.{List, [], ◌∷◌, ◌++◌, append_assoc}
use Prim.Native.Nat.{ℕ, zero, suc, ◌+◌, ◌-◌, ◌*◌, ◌/◌, ◌%◌, ◌≤◌, ◌<◌}
use native.Mathlib.Nat.{le_refl, not-suc-le-zero}
use native.Mathlib.Omega.{arith}
use lib.Dec.{T, leb, eqb, leb→le, eqb→eq}
use lib.ListN.{length, take, drop, length-append, take-append-drop}
use lib.Seq.{length-take-le}
use lib.Ieee.Fits.{eq→eqb}
use Rattle.big_endian.specs.Big.{Bytes}
use Rattle.big_endian.proofs.BytesLaws.{bytes_left, bytes-right}
use Rattle.parsing.specs.Parse.{Part, ill, part, IllFormed, ill_formed, items, pure, when, follow}
use Rattle.parsing.proofs.ParseLaws.{no_part, items-is}
use Rattle.stream.specs.Record.{Rec, of_manual, record_bytes, stream_bytes, data_of, checked, next_record, onward, run_f, run_of}
use Rattle.stream.proofs.Fit.{All, done, more}
use Rattle.stream.proofs.RecordLaws.{Good}

-- ---- one record

-- the data that were read, and what is left, are what there was
pub record Taken (n : ℕ) (s b r : List ℕ) : Type 0 where
  pub is : b ++ r ≡ s
  pub count : length b ≡ n

items-taken : (n : ℕ) (s b r : List ℕ) → items ill_formed n s ≡ part b r → Taken n s b r
items-taken n s b r e = go (leb n (length s)) (leb→le n (length s)) (sym (items-is ill_formed n s) ∙ e)
  where
    go : (c : Bool) → (T c → n ≤ length s) → cond c (part (take n s) (drop n s)) (ill ill_formed) ≡ part b r → Taken n s b r
    go true h e =
        let x : take n s ≡ b = cc in
        let y : drop n s ≡ r = cc in
        let k = h tt in
        record { is = ap₂ (λ (u v : List ℕ). u ++ v) (sym x) (sym y) ∙ take-append-drop n s; count = ap length (sym x) ∙ length-take-le n s k }
    go false h e = no_part e

-- "an even length of at least 4 that fits what is left"
record Fitting (n : ℕ) (s b r : List ℕ) : Type 0 where
  taken : Taken (n - 4) s b r
  least : 4 ≤ n
  even : n % 2 ≡ 0

data-taken : (n : ℕ) (s b r : List ℕ) → data_of n s ≡ part b r → Fitting n s b r
data-taken n s b r e = go (eqb (n % 2) 0) (leb 4 n) (eqb→eq (n % 2) 0) (leb→le 4 n) e
  where
    go : (x y : Bool) → (T x → n % 2 ≡ 0) → (T y → 4 ≤ n) → when ill_formed (x && y) (items ill_formed (n - 4)) s ≡ part b r → Fitting n s b r
    go true true g h e = record { taken = items-taken (n - 4) s b r e; least = h tt; even = g tt }
    go true false g h e = no_part e
    go false y g h e = no_part e

-- a record from the front of s is its head and its data there, and t follows
pub record Next (s : List ℕ) (r : Rec) (t : List ℕ) : Type 0 where
  pub high : ℕ
  pub low : ℕ
  pub is : high ∷ low ∷ r.code ∷ r.data_type ∷ (r.content ++ t) ≡ s
  pub says : 4 + length r.content ≡ high * 256 + low
  pub even : (high * 256 + low) % 2 ≡ 0
  pub manual : T (of_manual r)

record Checked (x : Rec) (u : List ℕ) (r : Rec) (t : List ℕ) : Type 0 where
  is : x ≡ r
  left : u ≡ t
  manual : T (of_manual x)

checked-is : (x : Rec) (u : List ℕ) (r : Rec) (t : List ℕ) → checked x u ≡ part r t → Checked x u r t
checked-is x u r t e = go (of_manual x) refl e
  where
    go : (c : Bool) → of_manual x ≡ c → when ill_formed c (pure x) u ≡ part r t → Checked x u r t
    go true m e = record { is = cc; left = cc; manual = subst T (sym m) tt }
    go false m e = no_part e

pub next-is : (s : List ℕ) (r : Rec) (t : List ℕ) → next_record s ≡ part r t → Next s r t
unfolding next_record items
next-is [] r t e = no_part e
next-is (a ∷ []) r t e = no_part e
next-is (a ∷ b ∷ []) r t e = no_part e
next-is (a ∷ b ∷ c ∷ []) r t e = no_part e
next-is (a ∷ b ∷ c ∷ k ∷ s) r t e = go (data_of (a * 256 + b) s) refl e
  where
    go : (z : Part IllFormed ℕ (List ℕ)) → data_of (a * 256 + b) s ≡ z → follow z (λ content. checked (record { code = c; data_type = k; content = content })) ≡ part r t
        → Next (a ∷ b ∷ c ∷ k ∷ s) r t
    go (ill x) d e = no_part e
    go (part content u) d e =
        let h = data-taken (a * 256 + b) s content u d in
        let m = checked-is (record { code = c; data_type = k; content = content }) u r t e in
        subst (λ (x : Rec). Next (a ∷ b ∷ c ∷ k ∷ s) x t) m.is
        (subst (λ (v : List ℕ). Next (a ∷ b ∷ c ∷ k ∷ s) (record { code = c; data_type = k; content = content }) v) m.left
        (record {
          high = a;
          low = b;
          is = ap (λ (z : List ℕ). a ∷ b ∷ c ∷ k ∷ z) h.taken.is;
          says = omega (arith, h.taken.count, h.least);
          even = h.even;
          manual = m.manual;
        }))

-- so it leaves less, and its bytes are those in front
pub next-shorter : (s : List ℕ) (r : Rec) (t : List ℕ) → Next s r t → length t < length s
next-shorter s r t n = omega (arith, ap length n.is, length-append r.content t)

module _ (s : List ℕ) (r : Rec) (t : List ℕ) (n : Next s r t) (h : Bytes s) where
  front : Bytes (n.high ∷ n.low ∷ r.code ∷ r.data_type ∷ (r.content ++ t))
  front = subst Bytes (sym n.is) h

  next-bytes : record_bytes r ++ t ≡ s
  unfolding record_bytes
  next-bytes =
      let a : n.high < 256 = front 0 in
      let b : n.low < 256 = front 1 in
      let x : (4 + length r.content) / 256 % 256 ≡ n.high = omega (arith, n.says) in
      let y : (4 + length r.content) / 1 % 256 ≡ n.low = omega (arith, n.says) in
      ap₂ (λ (u v : ℕ). u ∷ v ∷ r.code ∷ r.data_type ∷ (r.content ++ t)) x y ∙ n.is

  next-rest : Bytes t
  next-rest = bytes-right r.content t (λ i. front (suc (suc (suc (suc i)))))

  next-good : Good r
  next-good = record {
    manual = n.manual;
    even = eq→eqb (halves (length r.content) (n.high * 256 + n.low) n.says n.even);
    short = below n.high n.low (length r.content) (front 0) (front 1) n.says n.even;
    bytes = bytes_left r.content t (λ i. front (suc (suc (suc (suc i)))));
  }
    where
      halves : (l m : ℕ) → 4 + l ≡ m → m % 2 ≡ 0 → l % 2 ≡ 0
      halves l m e f = omega arith

      below : (a b l : ℕ) → a < 256 → b < 256 → 4 + l ≡ a * 256 + b → (a * 256 + b) % 2 ≡ 0 → l < 65532
      below a b l h k e f = omega arith

-- ---- the run

-- no record follows it
stops : (f : ℕ) (s : List ℕ) → length s ≤ f → next_record (run_f f s).rest ≡ ill ill_formed
unfolding run_f next_record items
stops zero [] h = refl
stops zero (b ∷ s) h = absurd (not-suc-le-zero h)
stops (suc f) s h = go (next_record s) refl (stops f)
  where
    go : (z : Part IllFormed ℕ Rec) → next_record s ≡ z → ((t : List ℕ) → length t ≤ f → next_record (run_f f t).rest ≡ ill ill_formed)
        → next_record (onward s z (λ t. run_f f t)).rest ≡ ill ill_formed
    go (ill ill_formed) e k = e
    go (part r t) e k = let l = next-shorter s r t (next-is s r t e) in k t (omega arith)

pub run-stops : (s : List ℕ) → next_record (run_of s).rest ≡ ill ill_formed
unfolding run_of
run-stops s = stops (length s) s (le_refl (length s))

-- its records' bytes and what is after them are all the bytes
fronts : (f : ℕ) (s : List ℕ) → Bytes s → stream_bytes (run_f f s).records ++ (run_f f s).rest ≡ s
unfolding run_f stream_bytes
fronts zero s h = refl
fronts (suc f) s h = go (next_record s) refl (fronts f)
  where
    go : (z : Part IllFormed ℕ Rec) → next_record s ≡ z → ((t : List ℕ) → Bytes t → stream_bytes (run_f f t).records ++ (run_f f t).rest ≡ t)
        → stream_bytes (onward s z (λ t. run_f f t)).records ++ (onward s z (λ t. run_f f t)).rest ≡ s
    go (ill c) e k = refl
    go (part r t) e k =
        let n = next-is s r t e in
        append_assoc (record_bytes r) (stream_bytes (run_f f t).records) (run_f f t).rest
        ∙ ap (λ (z : List ℕ). record_bytes r ++ z) (k t (next-rest s r t n h))
        ∙ next-bytes s r t n h

pub run_is : (s : List ℕ) → Bytes s → stream_bytes (run_of s).records ++ (run_of s).rest ≡ s
unfolding run_of
run_is s h = fronts (length s) s h

-- its records are good
goods : (f : ℕ) (s : List ℕ) → Bytes s → All Good (run_f f s).records
unfolding run_f
goods zero s h = done
goods (suc f) s h = go (next_record s) refl (goods f)
  where
    go : (z : Part IllFormed ℕ Rec) → next_record s ≡ z → ((t : List ℕ) → Bytes t → All Good (run_f f t).records) → All Good (onward s z (λ t. run_f f t)).records
    go (ill c) e k = done
    go (part r t) e k = let n = next-is s r t e in more (next-good s r t n h) (k t (next-rest s r t n h))

pub run-good : (s : List ℕ) → Bytes s → All Good (run_of s).records
unfolding run_of
run-good s h = goods (length s) s h
