-- Order: where p is at most q, p / d is at most q / d for a d above zero (`quotient-order`), and p rounded to a whole number is at most q rounded the same way (`rounded-order`).
-- Where p is at most q in size and q / d is finite, so is p / d (`quotient-finite`).
-- `scaled x` is the whole number x * 2 ^ 1074, and `≤ℤ` the order of the whole numbers. Assumes nothing.
use mathlib.Core.Path.{◌≡◌, sym, ap, ◌∙◌, subst}
use mathlib.Core.Logic.{inl, inr}
use mathlib.Core.Bool.{Bool, true, false, cond}
use Prim.Native.Nat.{ℕ, zero, suc, ◌+◌, ◌*◌, ◌/◌, ◌^◌, ◌≤◌, ◌<◌, zero-le, suc-le-suc}
use native.Mathlib.Nat.{le_trans, le_of_eq, le_antisymm, le_of_suc-le-suc, not-suc-le-zero, mul_assoc, mul_comm, mul_left_comm, mul-pos, mul-le-mul_right, le_of_mul-le-mul_right, eq-zero-or-pos, zero-mul}
use native.Mathlib.Omega.{arith}
use lib.Dec.{T, ltb, ltb→lt, leb→le, le→leb, lit<}
use lib.Pow.{pow_pos}
use lib.IntN.{ℤ, pos, negsuc, neg_ℤ}
use lib.Signed.{◌≤ℤ◌}
use lib.Ieee.{Float, nan, inf, fin, Format, binary64, prec, low, size, odd, units, round, div, lt, eq, le, fits}
use lib.Ieee.Fits.{round_is}
use lib.Ieee.Exact.{HasValue, units_val}
use lib.Ieee.Nearest.{div_mono}
use lib.Ieee.Order.{drop, kept, transfer, round_mono}
use lib.Ieee.Positive.{num, den, den_pos, positive, above, above_of_le, own_value, positive_of_value, value_pos, values_of_le}
use lib.Ieee.Scale.{grid, overflow, finite, round_val}
use Rattle.binary64.specs.Value.{unit, size_of, half_up, negative, signed, scaled, floor_div, floor_of, ceil_of, round_away}
use Rattle.binary64.specs.code.Whole.{rounded}
use Rattle.binary64.specs.declared.Direction.{Direction}
use Rattle.binary64.specs.declared.Direction.TheVariants.{Nearest, Down, Up}
use Rattle.binary64.proofs.Half.{round_under}
use Rattle.binary64.proofs.Quotient.{div_is, quotient-sign, quotient-size}
use Rattle.binary64.proofs.ValueLaws.{exact}

-- ---- the order of whole numbers, by sign and size

pub both-orders : (a b : ℤ) → a ≤ℤ b → b ≤ℤ a → a ≡ b
both-orders (pos m) (pos n) h k = ap pos (le_antisymm (leb→le m n h.le) (leb→le n m k.le))
both-orders (pos m) (negsuc n) h k = absurd h.le
both-orders (negsuc m) (pos n) h k = absurd k.le
both-orders (negsuc m) (negsuc n) h k = ap negsuc (le_antisymm (leb→le m n k.le) (leb→le n m h.le))

-- ±m ≤ ±n
abbrev pub Below : Bool → ℕ → Bool → ℕ → Type 0
Below false m false n = m ≤ n
Below false m true n = (m ≤ 0) × (n ≤ 0)
Below true m false n = T true
Below true m true n = n ≤ m

pub signed→below : (s t : Bool) (m n : ℕ) → signed s m ≤ℤ signed t n → Below s m t n
signed→below false false m n h = leb→le m n h.le
signed→below false true m zero h = (leb→le m 0 h.le, zero-le)
signed→below false true m (suc n) h = absurd h.le
signed→below true false m n h = tt
signed→below true true m zero h = zero-le
signed→below true true zero (suc n) h = absurd h.le
signed→below true true (suc m) (suc n) h = suc-le-suc (leb→le n m h.le)

pub below→signed : (s t : Bool) (m n : ℕ) → Below s m t n → signed s m ≤ℤ signed t n
below→signed false false m n h = record { le = le→leb m n h }
below→signed false true m zero h = record { le = le→leb m 0 h.0 }
below→signed false true m (suc n) h = absurd (not-suc-le-zero h.1)
below→signed true false zero n h = record { le = le→leb 0 n zero-le }
below→signed true false (suc m) n h = record { le = tt }
below→signed true true zero zero h = record { le = le→leb 0 0 h }
below→signed true true zero (suc n) h = absurd (not-suc-le-zero h)
below→signed true true (suc m) zero h = record { le = tt }
below→signed true true (suc m) (suc n) h = record { le = le→leb n m (le_of_suc-le-suc h) }

-- What sends m to m' and n to n' keeps their order as sizes, and 0 at 0.
pub record Keeps (m n m' n' : ℕ) : Type 0 where
  pub up : m ≤ n → m' ≤ n'
  pub down : n ≤ m → n' ≤ m'
  pub left : m ≤ 0 → m' ≤ 0
  pub right : n ≤ 0 → n' ≤ 0

-- Then it keeps their order with signs.
pub signed-order : (s t : Bool) (m n m' n' : ℕ) → Keeps m n m' n' → signed s m ≤ℤ signed t n → signed s m' ≤ℤ signed t n'
signed-order s t m n m' n' k h = below→signed s t m' n' (go s t (signed→below s t m n h))
  where
    go : (s t : Bool) → Below s m t n → Below s m' t n'
    go false false h = k.up h
    go false true h = (k.left h.0, k.right h.1)
    go true false h = tt
    go true true h = k.down h

-- ---- rounding a fraction keeps order, in each format

finite-above : (x : Float) → T (above x) → T (finite x) → T (positive x)
finite-above nan a f = absurd f
finite-above (inf s) a f = absurd f
finite-above (fin true m e) a f = absurd a
finite-above (fin false m e) a f = a

pub has-finite : (x : Float) (s : Bool) (a c : ℕ) → HasValue x s a c → T (finite x)
has-finite nan s a c h = h
has-finite (inf t) s a c h = h
has-finite (fin t m e) s a c h = tt

-- a / b ≤ c / d, with no division: both rounded, in units of the format's smallest value
pub grid-order : (f : Format) (a b c d : ℕ) → 0 < b → 0 < d → grid f a b < overflow f → grid f c d < overflow f → a * d ≤ c * b → grid f a b ≤ grid f c d
grid-order f a b c d B D A C h = elim (eq-zero-or-pos (grid f a b)) [
  | inl z ↦ subst (λ (k : ℕ). k ≤ grid f c d) (sym z) zero-le
  | inr p ↦
      let x = round f false a b in
      let y = round f false c d in
      let l = round_mono f a b c d B D h in
      let u = round_val f a b A in
      let v = round_val f c d C in
      let X = positive_of_value x (grid f a b) (2 ^ low f) u p in
      le_of_mul-le-mul_right (values_of_le x y (grid f a b) (2 ^ low f) (grid f c d) (2 ^ low f) X (finite-above y (above_of_le x y X l) (has-finite y false (grid f c d) (2 ^ low f) v)) u v l) (pow_pos (low f))
]

-- what rounds to at most a finite value does not overflow
pub under-of-le : (f : Format) (a c : ℕ) (y : Float) → T (finite y) → T (le (round f false a c) y) → grid f a c < overflow f
unfolding units le lt eq
under-of-le f a c y g h =
    go (ltb (grid f a c) (overflow f)) (ltb→lt (grid f a c) (overflow f)) y g
    (subst (λ (z : Float). T (le z y)) (round_is f false a c) h)
  where
    go : (t : Bool) → (T t → grid f a c < overflow f) → (y : Float) → T (finite y)
        → T (le (cond t (odd (suc (prec f)) false (kept (prec f) (a * 2 ^ low f) c) (drop (prec f) (a * 2 ^ low f) c) (low f)) (inf false)) y) → grid f a c < overflow f
    go true k y g h = k tt
    go false k nan g h = absurd g
    go false k (inf s) g h = absurd g
    go false k (fin s m e) g h = absurd h

-- and is finite with either sign
pub under-finite : (f : Format) (s : Bool) (a c : ℕ) → grid f a c < overflow f → T (finite (round f s a c))
under-finite f s a c h =
    let q = kept (prec f) (a * 2 ^ low f) c in
    let k = drop (prec f) (a * 2 ^ low f) c in
    subst (λ (z : Float). T (finite z)) (sym (round_is f s a c)) (has-finite (units f s q k) s (grid f a c) (2 ^ low f) (units_val f s q k h))

-- ---- the quotient

-- the fractions of two doubles, by their sizes
pub cross : (x y : Float) → T (fits binary64 x) → T (fits binary64 y) → size_of x ≤ size_of y → num x * den y ≤ num y * den x
cross x y X Y h = transfer (num x) (num y) (den x) (den y) (size_of x) (size_of y) unit unit (pow_pos 1074) (pow_pos 1074) (sym (exact x X)) (sym (exact y Y)) (mul-le-mul_right unit h)

pub no_size : (x : Float) → T (fits binary64 x) → size_of x ≤ 0 → num x ≤ 0
no_size x X h = le_of_mul-le-mul_right (le_trans (le_of_eq (sym (exact x X))) (le_trans (mul-le-mul_right (den x) h) (le_of_eq (zero-mul (den x) ∙ sym (zero-mul unit))))) (pow_pos 1074)

-- m / i ≤ n / j, both multiplied by l / k
times : (m n i j k l : ℕ) → m * j ≤ n * i → m * l * (k * j) ≤ n * l * (k * i)
times m n i j k l h = simp (mul_assoc, mul_comm, mul_left_comm) (simp mul_assoc at (mul-le-mul_right (k * l) h))

module _ (d : Float) (D : T (fits binary64 d)) (b : T (positive d)) where
  divisor-pos : (p : Float) → 0 < num d * den p
  divisor-pos p = mul-pos (value_pos d (num d) (den d) b (den_pos d) (own_value d b)) (den_pos p)

  under : (p : Float) → T (finite p) → T (finite (div binary64 p d)) → grid binary64 (num p * den d) (num d * den p) < overflow binary64
  under p f s = round_under binary64 (negative p) (num p * den d) (num d * den p) (subst (λ (x : Float). T (finite x)) (div_is binary64 p d f b) s)

  -- p / d is at most a / c, so its size is at most that of a / c rounded
  size-most : (p : Float) (a c : ℕ) → T (fits binary64 p) → T (finite p) → T (finite (div binary64 p d)) → 0 < c → grid binary64 a c < overflow binary64
      → num p * den d * c ≤ a * (num d * den p) → size_of (div binary64 p d) ≤ grid binary64 a c
  size-most p a c P f s C A h = le_trans (le_of_eq (quotient-size p d P D f b s)) (grid-order binary64 (num p * den d) (num d * den p) a c (divisor-pos p) C (under p f s) A h)

  size-order : (p q : Float) → T (fits binary64 p) → T (fits binary64 q) → T (finite p) → T (finite q)
      → T (finite (div binary64 p d)) → T (finite (div binary64 q d)) → size_of p ≤ size_of q → size_of (div binary64 p d) ≤ size_of (div binary64 q d)
  size-order p q P Q f g s t h =
      le_trans (size-most p (num q * den d) (num d * den q) P f s (divisor-pos q) (under q g t) (times (num p) (num q) (den p) (den q) (num d) (den d) (cross p q P Q h)))
      (le_of_eq (sym (quotient-size q d Q D g b t)))

  -- where q / d is finite, so is p / d for every p that is no larger in size
  pub quotient-finite : (p q : Float) → T (fits binary64 p) → T (fits binary64 q) → T (finite p) → T (finite q) → T (finite (div binary64 q d)) → size_of p ≤ size_of q → T (finite (div binary64 p d))
  quotient-finite p q P Q f g t h =
      let a = num p * den d in
      let c = num d * den p in
      let m = num q * den d in
      let n = num d * den q in
      let l = round_mono binary64 a c m n (divisor-pos p) (divisor-pos q) (times (num p) (num q) (den p) (den q) (num d) (den d) (cross p q P Q h)) in
      let y = under-finite binary64 false m n (under q g t) in
      subst (λ (x : Float). T (finite x)) (sym (div_is binary64 p d f b)) (under-finite binary64 (negative p) a c (under-of-le binary64 a c (round binary64 false m n) y l))

  size_none : (p : Float) → T (fits binary64 p) → T (finite p) → T (finite (div binary64 p d)) → size_of p ≤ 0 → size_of (div binary64 p d) ≤ 0
  unfolding size
  size_none p P f s h = size-most p 0 1 P f s (lit< tt) (lit< tt) (no-times (num p) (den d) (num d * den p) (no_size p P h))
    where
      no-times : (n l m : ℕ) → n ≤ 0 → n * l * 1 ≤ 0 * m
      no-times zero l m h = omega arith
      no-times (suc n) l m h = absurd (not-suc-le-zero h)

  pub quotient-order : (p q : Float) → T (fits binary64 p) → T (fits binary64 q) → T (finite p) → T (finite q)
      → T (finite (div binary64 p d)) → T (finite (div binary64 q d)) → scaled p ≤ℤ scaled q → scaled (div binary64 p d) ≤ℤ scaled (div binary64 q d)
  unfolding scaled
  quotient-order p q P Q f g s t h =
      let m = size_of (div binary64 p d) in
      let n = size_of (div binary64 q d) in
      let k : Keeps (size_of p) (size_of q) m n = record { up = size-order p q P Q f g s t; down = size-order q p Q P g f t s; left = size_none p P f s; right = size_none q Q g t } in
      subst (λ (x : Bool). signed x m ≤ℤ scaled (div binary64 q d)) (sym (quotient-sign p d P D f b s))
      (subst (λ (x : Bool). signed (negative p) m ≤ℤ signed x n) (sym (quotient-sign q d Q D g b t)) (signed-order (negative p) (negative q) (size_of p) (size_of q) m n k h))

-- ---- rounding to whole numbers

abbrev pub KeepsOrder : (Float → ℤ) → Type 0
KeepsOrder r = (x y : Float) → scaled x ≤ℤ scaled y → r x ≤ℤ r y

div_order : {m n : ℕ} (u : ℕ) → 0 < u → m ≤ n → m / u ≤ n / u
div_order {m} {n} u U h = div_mono m u n u U U (mul-le-mul_right u h)

floor-div-order : (a b : ℤ) (u : ℕ) → 0 < u → a ≤ℤ b → floor_div a u ≤ℤ floor_div b u
unfolding floor_div
floor-div-order (pos m) (pos n) u U h = record { le = le→leb (m / u) (n / u) (div_order u U (leb→le m n h.le)) }
floor-div-order (pos m) (negsuc n) u U h = absurd h.le
floor-div-order (negsuc m) (pos n) u U h = record { le = tt }
floor-div-order (negsuc m) (negsuc n) u U h = record { le = le→leb (n / u) (m / u) (div_order u U (leb→le n m h.le)) }

-- the nearest to a size, a half up
pub half-up-order : {m n : ℕ} → m ≤ n → half_up m ≤ half_up n
half-up-order {m} {n} h = div_order (2 * unit) (lit< tt) (more m n unit h)
  where
    more : (m n u : ℕ) → m ≤ n → 2 * m + u ≤ 2 * n + u
    more m n u h = omega arith

negation-order : (a b : ℤ) → a ≤ℤ b → neg_ℤ b ≤ℤ neg_ℤ a
negation-order (pos zero) (pos zero) h = h
negation-order (pos zero) (pos (suc n)) h = record { le = tt }
negation-order (pos (suc m)) (pos zero) h = absurd (not-suc-le-zero (leb→le (suc m) 0 h.le))
negation-order (pos (suc m)) (pos (suc n)) h = record { le = le→leb m n (le_of_suc-le-suc (leb→le (suc m) (suc n) h.le)) }
negation-order (pos m) (negsuc n) h = absurd h.le
negation-order (negsuc m) (pos zero) h = record { le = le→leb 0 (suc m) zero-le }
negation-order (negsuc m) (pos (suc n)) h = record { le = tt }
negation-order (negsuc m) (negsuc n) h = record { le = le→leb (suc n) (suc m) (suc-le-suc (leb→le n m h.le)) }

floor-order : KeepsOrder floor_of
unfolding floor_of
floor-order x y h = floor-div-order (scaled x) (scaled y) unit (pow_pos 1074) h

ceil-order : KeepsOrder ceil_of
unfolding ceil_of
ceil-order x y h =
    negation-order (floor_div (neg_ℤ (scaled y)) unit) (floor_div (neg_ℤ (scaled x)) unit)
    (floor-div-order (neg_ℤ (scaled y)) (neg_ℤ (scaled x)) unit (pow_pos 1074) (negation-order (scaled x) (scaled y) h))

nearest-order : KeepsOrder round_away
unfolding round_away scaled
nearest-order x y h =
    signed-order (negative x) (negative y) (size_of x) (size_of y) (half_up (size_of x)) (half_up (size_of y))
    (record { up = half-up-order; down = half-up-order; left = half-up-order {n = 0}; right = half-up-order {n = 0} }) h

-- each rounding to a whole number
pub rounded-order : (d : Direction) → KeepsOrder (rounded d)
rounded-order Nearest = nearest-order
rounded-order Down = floor-order
rounded-order Up = ceil-order
