-- Whole numbers by sign and size: the size, products, sums and differences. Assumes nothing.
use mathlib.Core.Path.{◌≡◌, refl, sym, ap, ◌∙◌}
use mathlib.Core.Bool.{Bool, true, false, not, cond}
use Prim.Native.Nat.{ℕ, zero, suc, ◌+◌, ◌-◌, ◌*◌, ◌≤◌, ◌<◌}
use native.Mathlib.Nat.{mul-zero, zero-mul}
use native.Mathlib.Omega.{arith}
use lib.Dec.{T, ltb, ltb→lt, nltb→le}
use lib.IntN.{pos, negsuc, neg_ℤ, nat_abs, neg_ℤ-neg_ℤ, neg_ℤ-+ℤ, *ℤ-zero, *ℤ-negsuc, ◌+ℤ◌, ◌*ℤ◌}
use lib.Ieee.{Float, unlike}
use Rattle.binary64.specs.Value.{size_of, negative, signed, scaled}

pub signed-abs : (s : Bool) (n : ℕ) → nat_abs (signed s n) ≡ n
signed-abs false n = refl
signed-abs true zero = refl
signed-abs true (suc n) = refl

pub scaled-abs : (x : Float) → nat_abs (scaled x) ≡ size_of x
unfolding scaled
scaled-abs x = signed-abs (negative x) (size_of x)

-- nothing has no sign
pub signed-zero : (s : Bool) → signed s 0 ≡ pos 0
signed-zero true = refl
signed-zero false = refl

pub scaled-zero : (x : Float) → size_of x ≡ 0 → scaled x ≡ pos 0
unfolding scaled
scaled-zero x e = ap (signed (negative x)) e ∙ signed-zero (negative x)

pub signed-neg : (s : Bool) (n : ℕ) → signed (not s) n ≡ neg_ℤ (signed s n)
signed-neg true n = sym (neg_ℤ-neg_ℤ (pos n))
signed-neg false n = refl

-- ---- products

pub signed-scale : (s : Bool) (m n : ℕ) → signed s m *ℤ pos n ≡ signed s (m * n)
signed-scale false m n = refl
signed-scale true zero n = ap pos (zero-mul n) ∙ sym (ap (λ (k : ℕ). neg_ℤ (pos k)) (zero-mul n))
signed-scale true (suc m) n = refl

pub unlike-plus : (s : Bool) → unlike s false ≡ s
unlike-plus true = refl
unlike-plus false = refl

unlike-minus : (s : Bool) → unlike s true ≡ not s
unlike-minus true = refl
unlike-minus false = refl

pub signed-times : (s t : Bool) (m n : ℕ) → signed (unlike s t) (m * n) ≡ signed s m *ℤ signed t n
signed-times s false m n = ap (λ (u : Bool). signed u (m * n)) (unlike-plus s) ∙ sym (signed-scale s m n)
signed-times s true m zero = ap (signed (unlike s true)) (mul-zero m) ∙ signed-zero (unlike s true) ∙ sym (*ℤ-zero (signed s m))
signed-times s true m (suc n) =
    ap (λ (u : Bool). signed u (m * suc n)) (unlike-minus s) ∙ signed-neg s (m * suc n) ∙ ap neg_ℤ (sym (signed-scale s m (suc n))) ∙ sym (*ℤ-negsuc (signed s m) n)

-- ---- sums

pub signed-plus : (s : Bool) (m n : ℕ) → signed s (m + n) ≡ signed s m +ℤ signed s n
signed-plus false m n = refl
signed-plus true m n = neg_ℤ-+ℤ (pos m) (pos n)

-- m - n, where n is the larger
pub minus-less : (m n : ℕ) → m < n → pos m +ℤ neg_ℤ (pos n) ≡ neg_ℤ (pos (n - m))
minus-less m zero h = absurd (omega arith)
minus-less m (suc n) h = go (ltb m (suc n)) (nltb→le m (suc n))
  where
    next : (m n : ℕ) → m < suc n → suc n - m ≡ suc (suc n - suc m)
    next m n h = omega arith

    go : (b : Bool) → (T (not b) → suc n ≤ m) → cond b (negsuc (suc n - suc m)) (pos (m - suc n)) ≡ neg_ℤ (pos (suc n - m))
    go true k = sym (ap (λ (z : ℕ). neg_ℤ (pos z)) (next m n h))
    go false k = absurd (omega (arith, k tt))

-- and where it is not
pub minus-more : (m n : ℕ) → n ≤ m → pos m +ℤ neg_ℤ (pos n) ≡ pos (m - n)
minus-more m zero h = ap pos (go m)
  where
    go : (m : ℕ) → m + 0 ≡ m - 0
    go m = omega arith
minus-more m (suc n) h = go (ltb m (suc n)) (ltb→lt m (suc n))
  where
    go : (b : Bool) → (T b → m < suc n) → cond b (negsuc (suc n - suc m)) (pos (m - suc n)) ≡ pos (m - suc n)
    go true k = absurd (omega (arith, k tt))
    go false k = refl
