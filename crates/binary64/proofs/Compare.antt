-- Doubles that `<` or `<=` finds in order are so as whole numbers of 2 ^ -1074 (`lt-scaled`, `le-scaled`), and what lies between two finite doubles is finite. Assumes nothing.
use mathlib.Core.Path.{subst}
use mathlib.Core.Bool.{Bool, true, false, ◌||◌}
use Prim.Native.Nat.{ℕ, zero, suc, ◌+◌, ◌*◌, ◌≤◌, ◌<◌, zero-le}
use native.Mathlib.Nat.{le_of_lt, lt_irrefl, lt_of_lt_of_le, not-suc-le-zero}
use native.Mathlib.Decide.{dec_le}
use native.Mathlib.Omega.{arith}
use lib.Dec.{T, eqb, eqb_refl, ltb→lt, lt→ltb, le→leb}
use lib.IntN.{ℤ, pos, negsuc}
use lib.Signed.{◌≤ℤ◌, ◌<ℤ◌, ≤ℤ_refl}
use lib.Ieee.{Float, nan, inf, fin, binary64, up, down, below, level, lt, eq, le, fits}
use lib.Ieee.Fits.{and_i}
use lib.Ieee.Scale.{finite}
use Rattle.binary64.specs.Value.{size_of, negative, signed, scaled}
use Rattle.binary64.proofs.Tests.{or_split}
use Rattle.binary64.proofs.Equal.{eq-scaled}
use Rattle.binary64.proofs.Order.{cross, no_size}

-- what keeps the strict order of sizes, and what is above 0 so, keeps it with signs
below-sizes : (s t : Bool) (a b m n : ℕ) → (a < b → m < n) → (b < a → n < m) → (0 < a + b → 0 < m + n) → T (below s a t b) → T (below s m t n)
below-sizes false false a b m n f g z h = lt→ltb m n (f (ltb→lt a b h))
below-sizes false true a b m n f g z h = absurd h
below-sizes true false a b m n f g z h = lt→ltb 0 (m + n) (z (ltb→lt 0 (a + b) h))
below-sizes true true a b m n f g z h = lt→ltb n m (g (ltb→lt b a h))

below→less : (s t : Bool) (m n : ℕ) → T (below s m t n) → signed s m <ℤ signed t n
below→less false false m n h = record { lt = h }
below→less false true m n h = absurd h
below→less true false zero n h = let k = ltb→lt 0 (0 + n) h in record { lt = lt→ltb 0 n (omega arith) }
below→less true false (suc m) n h = record { lt = tt }
below→less true true zero n h = absurd (not-suc-le-zero (ltb→lt n 0 h))
below→less true true (suc m) zero h = record { lt = tt }
below→less true true (suc m) (suc n) h = let k = ltb→lt (suc n) (suc m) h in record { lt = lt→ltb n m (omega arith) }

pub lt-scaled : (x y : Float) → T (fits binary64 x) → T (fits binary64 y) → T (finite x) → T (finite y) → T (lt x y) → scaled x <ℤ scaled y
unfolding lt scaled negative
lt-scaled nan y X Y f g h = absurd f
lt-scaled (inf s) y X Y f g h = absurd f
lt-scaled (fin s m e) nan X Y f g h = absurd g
lt-scaled (fin s m e) (inf t) X Y f g h = absurd g
lt-scaled (fin s m e) (fin t n d) X Y f g h =
    let x = fin s m e in
    let y = fin t n d in
    below→less s t (size_of x) (size_of y)
    (below-sizes s t (m * up e * down d) (n * up d * down e) (size_of x) (size_of y)
    (λ l. less (size_of x) (size_of y) _ _ (cross y x Y X) l)
    (λ l. less (size_of y) (size_of x) _ _ (cross x y X Y) l)
    (some (size_of x) (size_of y) (m * up e) (n * up d) (down d) (down e) (no_size x X) (no_size y Y)) h)
  where
    -- the order of sizes is that of the fractions
    less : (m n a b : ℕ) → (n ≤ m → b ≤ a) → a < b → m < n
    less m n a b f h = elim (dec_le n m) [
      | yes l ↦ absurd (lt_irrefl a (lt_of_lt_of_le h (f l)))
      | no l ↦ omega arith
    ]

    some : (m n a b k l : ℕ) → (m ≤ 0 → a ≤ 0) → (n ≤ 0 → b ≤ 0) → 0 < a * k + b * l → 0 < m + n
    some zero zero a b k l f g h = absurd (none a b k l (f zero-le) (g zero-le) h)
      where
        none : (a b k l : ℕ) → a ≤ 0 → b ≤ 0 → 0 < a * k + b * l → ⊥
        none zero zero k l p q h = omega (arith, h)
        none zero (suc b) k l p q h = absurd (not-suc-le-zero q)
        none (suc a) b k l p q h = absurd (not-suc-le-zero p)
    some zero (suc n) a b k l f g h = omega arith
    some (suc m) n a b k l f g h = omega arith

pub less→le : (a b : ℤ) → a <ℤ b → a ≤ℤ b
less→le (pos m) (pos n) h = record { le = le→leb m n (le_of_lt (ltb→lt m n h.lt)) }
less→le (pos m) (negsuc n) h = absurd h.lt
less→le (negsuc m) (pos n) h = record { le = tt }
less→le (negsuc m) (negsuc n) h = record { le = le→leb n m (le_of_lt (ltb→lt n m h.lt)) }

pub le-scaled : (x y : Float) → T (fits binary64 x) → T (fits binary64 y) → T (finite x) → T (finite y) → T (le x y) → scaled x ≤ℤ scaled y
unfolding le
le-scaled x y X Y f g h =
    or_split (lt x y) (eq x y) (λ l. less→le (scaled x) (scaled y) (lt-scaled x y X Y f g l)) (λ q. subst (λ (z : ℤ). scaled x ≤ℤ z) (eq-scaled x y q) (≤ℤ_refl (scaled x))) h

-- what `==` finds equal is in order, and so is a finite double with itself
or_right : (a b : Bool) → T b → T (a || b)
or_right true b h = tt
or_right false b h = h

pub eq-le : (x y : Float) → T (eq x y) → T (le x y)
unfolding le
eq-le x y h = or_right (lt x y) (eq x y) h

eq_self : (x : Float) → T (finite x) → T (eq x x)
unfolding eq
eq_self nan f = absurd f
eq_self (inf s) f = absurd f
eq_self (fin s m e) f = go s
  where
    a : ℕ
    a = m * up e * down e

    go : (s : Bool) → T (level s a s a)
    go true = and_i (eqb a a) true (eqb_refl a) tt
    go false = and_i (eqb a a) true (eqb_refl a) tt

pub le-self : (x : Float) → T (finite x) → T (le x x)
le-self x f = eq-le x x (eq_self x f)

-- between two finite doubles
pub between-finite : (lo x hi : Float) → T (finite lo) → T (finite hi) → T (le lo x) → T (le x hi) → T (finite x)
unfolding le lt eq
between-finite nan x hi f g h k = absurd f
between-finite (inf s) x hi f g h k = absurd f
between-finite (fin s m e) nan hi f g h k = absurd h
between-finite (fin s m e) (inf true) hi f g h k = absurd h
between-finite (fin s m e) (inf false) nan f g h k = absurd g
between-finite (fin s m e) (inf false) (inf t) f g h k = absurd g
between-finite (fin s m e) (inf false) (fin t n d) f g h k = absurd k
between-finite (fin s m e) (fin t n d) hi f g h k = tt
