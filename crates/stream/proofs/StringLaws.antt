-- A padded string is even, at most one byte longer, and the same with trailing zeros dropped. An even string with one final zero byte dropped comes back by padding. Assumes nothing.
use mathlib.Core.Path.{◌≡◌, refl, sym, ap, ◌∙◌, subst}
use mathlib.Core.Logic.{◌⊎◌, inl, inr}
use mathlib.Core.Bool.{Bool, true, false, cond}
use mathlib.Core.List.{List, [], ◌∷◌, ◌++◌}
use Prim.Native.Nat.{ℕ, ◌+◌, ◌%◌, ◌≤◌, ◌<◌}
use native.Mathlib.Omega.{arith}
use lib.Dec.{T, eqb, eqb→eq, lit<}
use lib.ListN.{length, length-append}
use lib.Ieee.Bits.{is_true as on}
use lib.Ieee.Fits.{eq→eqb}
use Rattle.big_endian.specs.Big.{Bytes}
use Rattle.big_endian.proofs.BytesLaws.{bytes-nil, bytes-cons, bytes-append, bytes_left}
use Rattle.stream.specs.Strings.{padded, unpadded, front, trimmed}
use Rattle.stream.proofs.Fit.{Even}

-- what both branches of a test have
by-test : {A : Type 0} (P : A → Type 0) (b : Bool) (x y : A) → (b ≡ true → P x) → (b ≡ false → P y) → P (cond b x y)
by-test P true x y f g = f refl
by-test P false x y f g = g refl

-- one more byte makes an odd string even
one_more : (s t : List ℕ) → length t ≡ 1 → Bytes t → length s < 65531 → Bytes s → eqb (length s % 2) 0 ≡ false → Even (s ++ t)
one_more s t e b l a odd =
    let k = length-append s t in
    record { even = eq→eqb {a = length (s ++ t) % 2} {b = 0} (omega (arith, not-zero)); short = omega arith; bytes = bytes-append s t a b }
  where
    not-zero : length s % 2 ≡ 0 → ⊥
    not-zero z = subst T odd (eq→eqb z)

pub padded-even : (s : List ℕ) (n : ℕ) → length s ≤ n → n < 65531 → Bytes s → Even (padded s)
unfolding padded
padded-even s n h l a =
    by-test Even (eqb (length s % 2) 0) _ _ (λ e. record { even = subst T (sym e) tt; short = omega arith; bytes = a })
    (λ e. one_more s _ refl (bytes-cons 0 [] (lit< tt) bytes-nil) (omega arith) a e)

trimmed-zero : (s : List ℕ) → trimmed (s ++ 0 ∷ []) ≡ trimmed s
unfolding trimmed
trimmed-zero [] = refl
trimmed-zero (b ∷ s) = ap (front b) (trimmed-zero s)

pub trimmed-padded : (s : List ℕ) → trimmed s ≡ trimmed (padded s)
unfolding padded
trimmed-padded s = by-test (λ (t : List ℕ). trimmed s ≡ trimmed t) (eqb (length s % 2) 0) _ _ (λ e. refl) (λ e. sym (trimmed-zero s))

-- ---- one final zero byte dropped

-- nothing was dropped, or a zero byte
pub unpadded-cases : (s : List ℕ) → (unpadded s ≡ s) ⊎ (s ≡ unpadded s ++ 0 ∷ [])
unfolding unpadded
unpadded-cases [] = inl refl
unpadded-cases (b ∷ []) = go (eqb b 0) (eqb→eq b 0)
  where
    go : (t : Bool) → (T t → b ≡ 0) → (cond t [] (b ∷ []) ≡ b ∷ []) ⊎ (b ∷ [] ≡ cond t [] (b ∷ []) ++ 0 ∷ [])
    go true h = inr (ap (λ (x : ℕ). x ∷ []) (h tt))
    go false h = inl refl
unpadded-cases (b ∷ c ∷ s) = elim (unpadded-cases (c ∷ s)) [ inl e ↦ inl (ap (λ (t : List ℕ). b ∷ t) e) | inr e ↦ inr (ap (λ (t : List ℕ). b ∷ t) e) ]

pub unpadded-short : (s : List ℕ) → length (unpadded s) ≤ length s
unpadded-short s = elim (unpadded-cases s) [ inl e ↦ omega (arith, ap length e) | inr e ↦ omega (arith, ap length e, length-append (unpadded s) (0 ∷ [])) ]

pub unpadded-bytes : (s : List ℕ) → Bytes s → Bytes (unpadded s)
unpadded-bytes s h = elim (unpadded-cases s) [ inl e ↦ subst Bytes (sym e) h | inr e ↦ bytes_left (unpadded s) (0 ∷ []) (subst Bytes e h) ]

-- an even string comes back
pub padded-unpadded : (s : List ℕ) → T (eqb (length s % 2) 0) → padded (unpadded s) ≡ s
unfolding padded
padded-unpadded s h = elim (unpadded-cases s) [
  | inl e ↦ ap padded e ∙ ap (λ (t : Bool). cond t s (s ++ 0 ∷ [])) (on (eqb (length s % 2) 0) h)
  | inr e ↦ ap (λ (t : Bool). cond t (unpadded s) (unpadded s ++ 0 ∷ [])) (odd (length (unpadded s)) (ap length e ∙ length-append (unpadded s) (0 ∷ []))) ∙ sym e
]
  where
    odd : (n : ℕ) → length s ≡ n + 1 → eqb (n % 2) 0 ≡ false
    odd n e = go (eqb (n % 2) 0) (eqb→eq (n % 2) 0)
      where
        go : (t : Bool) → (T t → n % 2 ≡ 0) → t ≡ false
        go true k = absurd (omega (arith, k tt, eqb→eq (length s % 2) 0 h))
        go false k = refl
