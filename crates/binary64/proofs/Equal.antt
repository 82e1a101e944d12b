-- Doubles that `==` finds equal are the same whole number of 2 ^ -1074. Assumes nothing.
use mathlib.Core.Path.{◌≡◌, refl, sym, ap, ap₂, ◌∙◌, subst}
use mathlib.Core.Bool.{Bool, true, false, ◌||◌, beq}
use Prim.Native.Nat.{ℕ, zero, suc, ◌*◌, ◌/◌, ◌<◌}
use native.Mathlib.Nat.{mul_right_comm, mul-pos, zero-mul, div-eq_of_lt, lt_irrefl, zero-lt-suc}
use lib.Dec.{T, eqb, eqb→eq}
use lib.IntN.{ℤ}
use lib.Ieee.{Float, nan, inf, fin, eq, up, down}
use lib.Ieee.Fits.{and_l, and_r, down_pos}
use lib.Ieee.Nearest.{div_same}
use lib.Ieee.Scale.{finite}
use Rattle.binary64.specs.Value.{unit, size_of, negative, signed, scaled}
use Rattle.binary64.proofs.Tests.{or_split, same_flag}

-- m / a = n / b, in units
same_size : (m n : ℕ) (a b : ℕ) → 0 < a → 0 < b → m * b ≡ n * a → m * unit / a ≡ n * unit / b
same_size m n a b A B e = div_same (m * unit) a (n * unit) b A B (mul_right_comm m unit b ∙ ap (λ (z : ℕ). z * unit) e ∙ mul_right_comm n a unit)

-- 0 and -0
nothing : (s t : Bool) → signed s 0 ≡ signed t 0
nothing true true = refl
nothing true false = refl
nothing false true = refl
nothing false false = refl

-- m * d = 0 where d is above 0: no units
no_size : (m d a : ℕ) → 0 < d → 0 < a → m * d ≡ 0 → m * unit / a ≡ 0
no_size zero d a D A e = ap (λ (z : ℕ). z / a) (zero-mul unit) ∙ div-eq_of_lt A
no_size (suc m) d a D A e = absurd (lt_irrefl 0 (subst (λ (z : ℕ). 0 < z) e (mul-pos (zero-lt-suc m) D)))

-- equal doubles: each is a number of its own, but for the two zeros, which are both 0
pub eq-scaled : (x y : Float) → T (eq x y) → scaled x ≡ scaled y
unfolding eq scaled size_of negative
eq-scaled nan y t = absurd t
eq-scaled (inf s) nan t = absurd t
eq-scaled (inf s) (inf u) t = nothing s u
eq-scaled (inf s) (fin u n d) t = absurd t
eq-scaled (fin s m e) nan t = absurd t
eq-scaled (fin s m e) (inf u) t = absurd t
eq-scaled (fin s m e) (fin u n d) t =
    let a = m * up e * down d in
    let b = n * up d * down e in
    let l = and_l (eqb a b) (beq s u || eqb a 0) t in
    let r = and_r (eqb a b) (beq s u || eqb a 0) t in
    let z : m * up e * unit / down e ≡ n * up d * unit / down d = same_size (m * up e) (n * up d) (down e) (down d) (down_pos e) (down_pos d) (eqb→eq a b l) in
    or_split (beq s u) (eqb a 0)
    (λ q. ap₂ signed (same_flag s u q) z)
    (λ q.
    let o : m * up e * unit / down e ≡ 0 = no_size (m * up e) (down d) (down e) (down_pos d) (down_pos e) (eqb→eq a 0 q) in
    ap (signed s) o ∙ nothing s u ∙ ap (signed u) (sym (sym z ∙ o)))
    r

-- what equals a finite double is finite
pub eq-finite : (x : Float) (s : Bool) (m : ℕ) (e : ℤ) → T (eq x (fin s m e)) → T (finite x)
unfolding eq
eq-finite nan s m e t = absurd t
eq-finite (inf u) s m e t = absurd t
eq-finite (fin u n d) s m e t = tt
