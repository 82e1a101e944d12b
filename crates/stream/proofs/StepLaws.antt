-- An array's steps: a difference that is a count times a step is divided by the count exactly, and only such a difference is divided. Assumes nothing.
use mathlib.Core.Path.{◌≡◌, sym, ap, ◌∙◌}
use mathlib.Core.Bool.{Bool, true, false, cond}
use mathlib.Core.Option.{none, some, some-injective, none-ne-some}
use Prim.Native.Nat.{ℕ, zero, suc, ◌+◌, ◌*◌, ◌/◌, ◌%◌, ◌≤◌, ◌<◌}
use native.Mathlib.Nat.{add-zero, div-add-mod', mul-div_cancel, mul-mod_left, mul-pos, zero-lt-suc, lt_irrefl}
use borrow.Author.Tests.{eq-eqb}
use lib.Dec.{T, eqb, eqb→eq}
use lib.IntN.{ℤ, pos, negsuc, neg_ℤ, ◌-ℤ◌, ◌*ℤ◌, +ℤ_comm, +ℤ-neg_ℤ_cancel}
use Rattle.binary64.specs.Value.{signed}
use Rattle.binary64.proofs.Signed.{signed-scale}
use Rattle.units.specs.Point.{endpoint}
use Rattle.stream.specs.Read.{step_of}

-- ---- a count times a step

step-neg : (n N : ℕ) → 0 < N → N % n ≡ 0 → step_of n (neg_ℤ (pos N)) ≡ some (neg_ℤ (pos (N / n)))
unfolding step_of
step-neg n zero p e = absurd (lt_irrefl 0 p)
step-neg n (suc k) p e = rw (eq-eqb (suc k % n) 0 e)

step-product : (n : ℕ) (a : ℤ) → 1 ≤ n → step_of n (a *ℤ pos n) ≡ some a
unfolding step_of
step-product n (pos k) h = rw (eq-eqb (k * n % n) 0 (mul-mod_left k n)) (ap (λ (z : ℕ). some (pos z)) (mul-div_cancel k h))
step-product n (negsuc k) h =
    step-neg n (suc k * n) (mul-pos (zero-lt-suc k) h) (mul-mod_left (suc k) n) ∙ ap (λ (z : ℕ). some (neg_ℤ (pos z))) (mul-div_cancel (suc k) h)

pub step_back : (n : ℕ) (o a : ℤ) → 1 ≤ n → step_of n (endpoint o a n -ℤ o) ≡ some a
step_back n o a h = ap (λ (z : ℤ). step_of n (z -ℤ o)) (+ℤ_comm o (a *ℤ pos n)) ∙ ap (step_of n) (+ℤ-neg_ℤ_cancel (a *ℤ pos n) o) ∙ step-product n a h

-- ---- and the other way round

-- a size k that n divides, with a sign
divided : (s : Bool) (n k : ℕ) (a : ℤ) → cond (eqb (k % n) 0) (some (signed s (k / n))) none ≡ some a → a *ℤ pos n ≡ signed s k
divided s n k a e = go (eqb (k % n) 0) (eqb→eq (k % n) 0) e
  where
    go : (t : Bool) → (T t → k % n ≡ 0) → cond t (some (signed s (k / n))) none ≡ some a → a *ℤ pos n ≡ signed s k
    go true h e =
        ap (λ (w : ℤ). w *ℤ pos n) (sym (some-injective (signed s (k / n)) a e)) ∙ signed-scale s (k / n) n
        ∙ ap (signed s) (sym (add-zero (k / n * n)) ∙ ap (λ (m : ℕ). k / n * n + m) (sym (h tt)) ∙ div-add-mod' k n)
    go false h e = absurd (none-ne-some a e)

pub step_is : (n : ℕ) (z a : ℤ) → step_of n z ≡ some a → a *ℤ pos n ≡ z
unfolding step_of
step_is n (pos k) a e = divided false n k a e
step_is n (negsuc k) a e = divided true n (suc k) a e
