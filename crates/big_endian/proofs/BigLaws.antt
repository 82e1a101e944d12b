-- A number that fits its bytes is read back from them, at any width. Assumes nothing.
use mathlib.Core.Path.{◌≡◌, refl, sym, ap, ◌∙◌, subst}
use mathlib.Core.List.{List, [], ◌∷◌}
use Prim.Native.Nat.{ℕ, zero, suc, ◌+◌, ◌*◌, ◌/◌, ◌%◌, ◌^◌, ◌<◌}
use native.Mathlib.Nat.{one-le-pow, pow-succ', mod-eq_of_lt, mod-lt, mul_assoc, add-mul, add_assoc}
use native.Mathlib.Omega.{arith}
use lib.Dec.{lit<}
use lib.Arith.{mod-mul}
use lib.ListN.{length}
use Rattle.big_endian.specs.Big.{Bytes, below, number, bytes_of}

-- as many bytes as were asked for
pub length-bytes_of : (k v : ℕ) → length (bytes_of k v) ≡ k
length-bytes_of zero v = refl
length-bytes_of (suc k) v = ap suc (length-bytes_of k v)

power : (k : ℕ) → 0 < 256 ^ k
power k = one-le-pow k 256 (lit< tt)

-- the digits of v below 256 ^ (k + 1): one digit, and those below 256 ^ k
digits : (k v : ℕ) → v % 256 ^ suc k ≡ (v / 256 ^ k % 256) * 256 ^ k + v % 256 ^ k
digits k v = ap (λ (m : ℕ). v % m) (pow-succ' 256 k) ∙ mod-mul v {m = 256} {c = 256 ^ k} (lit< tt) (power k)

below-bytes_of : (k a v : ℕ) → below a (bytes_of k v) ≡ a * 256 ^ k + v % 256 ^ k
below-bytes_of zero a v = go a (v % 1) (mod-lt v (lit< tt))
  where
    go : (a r : ℕ) → r < 1 → a ≡ a * 1 + r
    go a r h = omega arith
below-bytes_of (suc k) a v =
    below-bytes_of k (a * 256 + v / 256 ^ k % 256) v
    ∙ go a (v / 256 ^ k % 256) (256 ^ k) (256 ^ suc k) (v % 256 ^ k) (v % 256 ^ suc k) (pow-succ' 256 k) (digits k v)
  where
    go : (a x p q r s : ℕ) → q ≡ 256 * p → s ≡ x * p + r → (a * 256 + x) * p + r ≡ a * q + s
    go a x p q r s e f = ap (λ (z : ℕ). z + r) (add-mul (a * 256) x p) ∙ add_assoc (a * 256 * p) (x * p) r
        ∙ ap (λ (z : ℕ). z + (x * p + r)) (mul_assoc a 256 p ∙ ap (λ (z : ℕ). a * z) (sym e)) ∙ ap (λ (z : ℕ). a * q + z) (sym f)

-- k bytes hold v up to a multiple of 256 ^ k
pub number-bytes_of : (k v : ℕ) → number (bytes_of k v) ≡ v % 256 ^ k
number-bytes_of zero v = sym (go (v % 1) (mod-lt v (lit< tt)))
  where
    go : (r : ℕ) → r < 1 → r ≡ 0
    go r h = omega arith
number-bytes_of (suc k) v = below-bytes_of k (v / 256 ^ k % 256) v ∙ sym (digits k v)

-- a number that fits comes back
pub number-back : (k v : ℕ) → v < 256 ^ k → number (bytes_of k v) ≡ v
number-back k v h = number-bytes_of k v ∙ mod-eq_of_lt h

-- bytes make a number below 256 ^ their count
below-lt : (s : List ℕ) (a m : ℕ) → Bytes s → a < m → below a s < m * 256 ^ length s
below-lt [] a m h l = go a m l
  where
    go : (a m : ℕ) → a < m → a < m * 1
    go a m l = omega arith
below-lt (b ∷ s) a m h l =
    subst (λ (z : ℕ). below (a * 256 + b) s < z) (mul_assoc m 256 (256 ^ length s) ∙ ap (λ (z : ℕ). m * z) (sym (pow-succ' 256 (length s))))
    (below-lt s (a * 256 + b) (m * 256) (λ i. h (suc i)) (go a m b l (h 0)))
  where
    go : (a m b : ℕ) → a < m → b < 256 → a * 256 + b < m * 256
    go a m b l h = omega arith

pub number_lt : (s : List ℕ) → Bytes s → number s < 256 ^ length s
number_lt [] h = lit< tt
number_lt (b ∷ s) h = subst (λ (z : ℕ). below b s < z) (sym (pow-succ' 256 (length s))) (below-lt s b 256 (λ i. h (suc i)) (h 0))
