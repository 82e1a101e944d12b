-- What is made of bytes is bytes, and bytes and the number that they stand for. Assumes nothing.
use mathlib.Core.Path.{◌≡◌, refl, sym, ap, ap₂, ◌∙◌, subst}
use mathlib.Core.List.{List, [], ◌∷◌, ◌++◌, append_assoc}
use Prim.Native.Nat.{ℕ, zero, suc, ◌+◌, ◌*◌, ◌/◌, ◌%◌, ◌^◌, ◌≤◌, ◌<◌}
use native.Mathlib.Nat.{pow-succ', mod-lt, mul_assoc, add-mul, add_assoc, add_comm, zero-mul, suc-mul, lt_of_not-le}
use native.Mathlib.Decide.{dec_le}
use native.Mathlib.Omega.{arith}
use lib.Arith.{digits_div, digits_lt}
use lib.Dec.{lit<}
use lib.ListN.{length, take, drop, length-append, length-take, get_or-eq_default}
use lib.Seq.{get_or-take, get_or-drop}
use Rattle.big_endian.specs.Big.{Bytes, below, number, bytes_of, joined}

pub bytes-nil : Bytes []
bytes-nil i = lit< tt

pub bytes-cons : (b : ℕ) (s : List ℕ) → b < 256 → Bytes s → Bytes (b ∷ s)
bytes-cons b s h k zero = h
bytes-cons b s h k (suc i) = k i

pub bytes-append : (s t : List ℕ) → Bytes s → Bytes t → Bytes (s ++ t)
bytes-append [] t h k = k
bytes-append (b ∷ s) t h k = bytes-cons b (s ++ t) (h 0) (bytes-append s t (λ i. h (suc i)) k)

pub bytes-bytes_of : (k v : ℕ) → Bytes (bytes_of k v)
bytes-bytes_of zero v i = lit< tt
bytes-bytes_of (suc k) v zero = mod-lt (v / 256 ^ k) (lit< tt)
bytes-bytes_of (suc k) v (suc i) = bytes-bytes_of k v i

-- and what bytes are made of
pub bytes_left : (s t : List ℕ) → Bytes (s ++ t) → Bytes s
bytes_left [] t h = bytes-nil
bytes_left (b ∷ s) t h = bytes-cons b s (h 0) (bytes_left s t (λ i. h (suc i)))

pub bytes-right : (s t : List ℕ) → Bytes (s ++ t) → Bytes t
bytes-right [] t h = h
bytes-right (b ∷ s) t h = bytes-right s t (λ i. h (suc i))

pub take-bytes : (n : ℕ) (s : List ℕ) → Bytes s → Bytes (take n s)
take-bytes n s h i = elim (dec_le n i) [
  | yes k ↦ subst (λ (z : ℕ). z < 256) (sym (get_or-eq_default (take n s) 0 {n = i} (short k))) (lit< tt)
  | no k ↦ subst (λ (z : ℕ). z < 256) (sym (get_or-take n s i 0 (lt_of_not-le k))) (h i)
]
  where
    short : n ≤ i → length (take n s) ≤ i
    short k = omega (arith, length-take n s)

pub drop-bytes : (n : ℕ) (s : List ℕ) → Bytes s → Bytes (drop n s)
drop-bytes n s h i = subst (λ (z : ℕ). z < 256) (sym (get_or-drop n s i 0)) (h (n + i))

-- ---- parts in a row

pub bytes-joined : {A : Type 0} (f : A → List ℕ) → ((a : A) → Bytes (f a)) → (s : List A) → Bytes (joined f s)
bytes-joined f h [] = bytes-nil
bytes-joined f h (a ∷ s) = bytes-append (f a) (joined f s) (h a) (bytes-joined f h s)

pub joined-append : {A : Type 0} (f : A → List ℕ) (s t : List A) → joined f (s ++ t) ≡ joined f s ++ joined f t
joined-append f [] t = refl
joined-append f (a ∷ s) t = ap (λ (l : List ℕ). f a ++ l) (joined-append f s t) ∙ sym (append_assoc (f a) (joined f s) (joined f t))

-- each of k bytes
pub length-joined : {A : Type 0} (f : A → List ℕ) (k : ℕ) → ((a : A) → length (f a) ≡ k) → (s : List A) → length (joined f s) ≡ length s * k
length-joined f k h [] = sym (zero-mul k)
length-joined f k h (a ∷ s) =
    length-append (f a) (joined f s) ∙ ap₂ (λ (m n : ℕ). m + n) (h a) (length-joined f k h s) ∙ add_comm k (length s * k) ∙ sym (suc-mul (length s) k)

-- ---- the number that bytes stand for

-- below a s is a, then the digits of s
pub record Below (a : ℕ) (s : List ℕ) : Type 0 where
  pub rest : ℕ
  pub small : rest < 256 ^ length s
  pub is : below a s ≡ a * 256 ^ length s + rest

pub below-is : (a : ℕ) (s : List ℕ) → Bytes s → Below a s
below-is a [] h = record { rest = 0; small = lit< tt; is = go a }
  where
    go : (a : ℕ) → a ≡ a * 1 + 0
    go a = omega arith
below-is a (b ∷ s) h =
    let r = below-is (a * 256 + b) s (λ i. h (suc i)) in
    let p = 256 ^ length s in
    record {
      rest = b * p + r.rest;
      small = subst (λ (z : ℕ). b * p + r.rest < z) (sym (pow-succ' 256 (length s))) (digits_lt (h 0) r.small);
      is = r.is ∙ ap (λ (z : ℕ). z + r.rest) (add-mul (a * 256) b p) ∙ add_assoc (a * 256 * p) (b * p) r.rest
          ∙ ap (λ (z : ℕ). z + (b * p + r.rest)) (mul_assoc a 256 p ∙ ap (λ (z : ℕ). a * z) (sym (pow-succ' 256 (length s))));
    }

-- the bytes of the number that bytes stand for
bytes_of-below : (a : ℕ) (s : List ℕ) → Bytes s → bytes_of (length s) (below a s) ≡ s
bytes_of-below a [] h = refl
bytes_of-below a (b ∷ s) h =
    let v = below (a * 256 + b) s in
    let r = below-is (a * 256 + b) s (λ i. h (suc i)) in
    let q : v / 256 ^ length s ≡ a * 256 + b = ap (λ (z : ℕ). z / 256 ^ length s) r.is ∙ digits_div (a * 256 + b) r.small in
    ap₂ (λ (x : ℕ) (t : List ℕ). x ∷ t) (ap (λ (z : ℕ). z % 256) q ∙ last a b (h 0)) (bytes_of-below (a * 256 + b) s (λ i. h (suc i)))
  where
    last : (a b : ℕ) → b < 256 → (a * 256 + b) % 256 ≡ b
    last a b l = omega arith

bytes_of-number : (s : List ℕ) → Bytes s → bytes_of (length s) (number s) ≡ s
bytes_of-number [] h = refl
bytes_of-number (b ∷ s) h = ap (λ (z : ℕ). bytes_of (suc (length s)) (below z s)) (first b) ∙ bytes_of-below 0 (b ∷ s) h
  where
    first : (b : ℕ) → b ≡ 0 * 256 + b
    first b = omega arith

-- so as many bytes that stand for the same number are the same
pub number-once : (s t : List ℕ) → Bytes s → Bytes t → length s ≡ length t → number s ≡ number t → s ≡ t
number-once s t h k l e = sym (bytes_of-number s h) ∙ ap₂ bytes_of l e ∙ bytes_of-number t k
