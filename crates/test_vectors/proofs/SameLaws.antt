-- Bytes that are the same. Assumes nothing.
use mathlib.Core.Path.{◌≡◌, refl, sym, ap, ap₂, ◌∙◌}
use mathlib.Core.Bool.{Bool, true, false, ◌&&◌}
use mathlib.Core.List.{List, [], ◌∷◌}
use Prim.Native.Nat.{ℕ}
use native.Mathlib.Omega.{arith}
use lib.Dec.{eqb}
use borrow.Author.Tests.{eqb-true, eq-eqb}
use Rattle.test_vectors.specs.Case.{same_bytes}

pub both : (a b : Bool) → a && b ≡ true → (a ≡ true) × (b ≡ true)
both true b e = (refl, e)
both false b e = let z : ◌≡◌ {A = ℕ} 0 1 = cc in absurd (omega arith)

pub alike : (a b : List ℕ) → same_bytes a b ≡ true → a ≡ b
alike [] [] e = refl
alike [] (y ∷ b) e = let z : ◌≡◌ {A = ℕ} 0 1 = cc in absurd (omega arith)
alike (x ∷ a) [] e = let z : ◌≡◌ {A = ℕ} 0 1 = cc in absurd (omega arith)
alike (x ∷ a) (y ∷ b) e = let h = both (eqb x y) (same_bytes a b) e in ap₂ (λ (v : ℕ) (l : List ℕ). v ∷ l) (eqb-true x y h.0) (alike a b h.1)

itself : (a : List ℕ) → same_bytes a a ≡ true
itself [] = refl
itself (x ∷ a) = ap₂ ◌&&◌ (eq-eqb x x refl) (itself a)

-- a test that is true exactly where the bytes are the same
pub same-is : (a b : List ℕ) (r : Bool) → (r ≡ true → a ≡ b) → (a ≡ b → r ≡ true) → r ≡ same_bytes a b
same-is a b r f g = go r (same_bytes a b) refl refl
  where
    go : (t u : Bool) → r ≡ t → same_bytes a b ≡ u → r ≡ same_bytes a b
    go true u p q = p ∙ sym (ap (same_bytes a) (sym (f p)) ∙ itself a)
    go false false p q = p ∙ sym q
    go false true p q = let h = g (alike a b q) in let z : ◌≡◌ {A = ℕ} 0 1 = cc in absurd (omega arith)
