-- What holds of a library's result, through checks: S of a refusal with its cell and block, P of what is written. Assumes nothing.
use mathlib.Core.Path.{◌≡◌, refl}
use mathlib.Core.Bool.{Bool, true, false}
use Prim.Native.Nat.{ℕ}
use native.Mathlib.Omega.{arith}
use lib.Dec.{T}
use Rattle.refusal.specs.declared.Refusal.{Refusal}
use Rattle.library.specs.Library.{Result, stopped, written, no_cell, check}

abbrev pub Holds : {A : Type 0} → (Refusal → ℕ → ℕ → Type 0) → (A → Type 0) → Result A → Type 0
Holds S P (stopped r c k) = S r c k
Holds S P (written a) = P a

pub check-holds : {A : Type 0} (S : Refusal → ℕ → ℕ → Type 0) (P : A → Type 0) (t : Bool) (r : Refusal) (x : Result A)
    → ((T t → ⊥) → S r no_cell 0) → (T t → Holds S P x) → Holds S P (check t r x)
check-holds S P true r x f g = g tt
check-holds S P false r x f g = f (λ z. z)

-- of whatever is written, where nothing is said of a refusal
abbrev pub Whenever : {A : Type 0} → (A → Type 0) → Result A → Type 0
Whenever P = Holds (λ r c k. T true) P

pub check-whenever : {A : Type 0} (P : A → Type 0) (t : Bool) (r : Refusal) (x : Result A) → (T t → Whenever P x) → Whenever P (check t r x)
check-whenever P t r x g = check-holds (λ r c k. T true) P t r x (λ f. tt) g

-- of every refusal, where nothing is said of what is written
abbrev pub Stops : {A : Type 0} → (Refusal → ℕ → ℕ → Type 0) → Result A → Type 0
Stops S = Holds S (λ a. T true)

pub check-stops : {A : Type 0} (S : Refusal → ℕ → ℕ → Type 0) (t : Bool) (r : Refusal) (x : Result A) → ((T t → ⊥) → S r no_cell 0) → (T t → Stops S x) → Stops S (check t r x)
check-stops S t r x f g = check-holds S (λ a. T true) t r x f g

-- a check that passes, and one that fails
pub check-on : {A : Type 0} (t : Bool) (r : Refusal) (x : Result A) → t ≡ true → check t r x ≡ x
check-on true r x e = refl
check-on false r x e = let z : ◌≡◌ {A = ℕ} 0 1 = cc in absurd (omega arith)

pub check-off : {A : Type 0} (t : Bool) (r : Refusal) (x : Result A) → t ≡ false → check t r x ≡ stopped r no_cell 0
check-off true r x e = let z : ◌≡◌ {A = ℕ} 0 1 = cc in absurd (omega arith)
check-off false r x e = refl

-- what is written has passed each check on its way
pub check-passed : {A : Type 0} (t : Bool) (r : Refusal) (x : Result A) {a : A} → check t r x ≡ written a → T t × (x ≡ written a)
check-passed true r x e = (tt, e)
check-passed false r x e = let z : ◌≡◌ {A = ℕ} 0 1 = cc in absurd (omega arith)
