-- Rounding after snapping to the whole number one step away keeps order too (`snapping-order`).
-- The bit patterns, as `ordered` turns them, stand in the order of the doubles (`ordered→scaled`, `scaled→ordered`): so nothing lies between x and what it snaps to. Assumes nothing.
use mathlib.Core.Path.{◌≡◌, refl, sym, ap, ap₂, ◌∙◌, subst}
use mathlib.Core.Logic.{◌⊎◌, inl, inr}
use mathlib.Core.Bool.{Bool, true, false, not, cond, true≢false}
use Prim.Native.Nat.{ℕ, ◌+◌, ◌*◌, ◌/◌, ◌%◌, ◌-◌, ◌^◌, ◌≤◌, ◌<◌, zero-le}
use native.Mathlib.Nat.{le_refl, le_trans, le_of_eq, le_of_lt, zero-add, add_comm, add-mul, add-le-add, add-mul-div_right, lt_of_lt_of_le, mul-one, lt_of_le_of_lt, mul_assoc, mul_left_comm, mul_right_comm, mul-le-mul_right, mul-le-mul_left, eq-or-lt_of_le, mul-div_cancel, div-eq_of_lt}
use native.Mathlib.Decide.{dec_le, ℕ_discrete}
use native.Mathlib.Omega.{arith}
use lib.Dec.{T, leb, leb→le, nleb→lt, lit<}
use lib.Pow.{pow_pos, pow-add, pow_mono, shl_lt}
use lib.IntN.{ℤ}
use lib.Signed.{◌≤ℤ◌}
use lib.Ieee.{Float, nan, inf, fin, binary64, up, down, round, fits, to_bits, of_bits}
use lib.Ieee.Bits.{of_bits-to_bits, to_bits-lt}
use lib.Ieee.Fits.{round-fits, and_l, and_r}
use lib.Ieee.Exact.{HasValue, round_exact}
use lib.Ieee.Scale.{finite}
use Rattle.binary64.specs.Value.{unit, size_of, half_up, cut_down, cut_up, negative, signed, scaled, round_away}
use Rattle.binary64.specs.declared.Direction.{Direction}
use Rattle.binary64.specs.declared.Direction.TheVariants.{Nearest, Down, Up}
use Rattle.binary64.specs.code.Whole.{rounded, size_toward}
use Rattle.binary64.specs.Step.{ordered_bits, ordered, one_step, nearest_double}
use Rattle.binary64.proofs.ValueLaws.{size-of-value, sign-of-value}
use Rattle.binary64.specs.code.Parts.{PartsOf}
use Rattle.binary64.proofs.PartsLaws.{parts-zero, parts-suc, toward-parts}
use Rattle.binary64.proofs.Order.{Below, signed→below, below→signed, signed-order, has-finite, half-up-order, rounded-order}

-- ---- bit patterns stand in the order of the doubles

-- e is 0 or 1: so the order is kept, and the strict order too
module _ (x y : Float) (s t : Bool) (m j n k : ℕ) (p : PartsOf x s m j) (q : PartsOf y t n k) (e : ℕ) (small : e ≤ 1) where
  parts-order : j ≤ k → (j ≡ k → m + e ≤ n) → size_of x + e ≤ size_of y
  parts-order h l = subst (λ (z : ℕ). z + e ≤ size_of y) (sym p.size) (subst (λ (z : ℕ). m * 2 ^ j + e ≤ z) (sym q.size) (le_trans spread (grows (eq-or-lt_of_le h))))
    where
      spread : m * 2 ^ j + e ≤ (m + e) * 2 ^ j
      spread = le_trans (add-le-add (le_refl (m * 2 ^ j)) (le_trans (le_of_eq (sym (mul-one e))) (mul-le-mul_left e (pow_pos j)))) (le_of_eq (sym (add-mul m e (2 ^ j))))

      most : (m e : ℕ) → m < 2 ^ 53 → e ≤ 1 → m + e ≤ 2 ^ 53
      most m e a b = omega arith

      over : (j k : ℕ) → j < k → 53 + j ≤ 52 + k
      over j k h = omega arith

      grows : (j ≡ k) ⊎ (j < k) → (m + e) * 2 ^ j ≤ n * 2 ^ k
      grows (inl z) = subst (λ (i : ℕ). (m + e) * 2 ^ j ≤ n * 2 ^ i) z (mul-le-mul_right (2 ^ j) (l z))
      grows (inr g) =
          le_trans (mul-le-mul_right (2 ^ j) (most m e p.digits small))
          (le_trans (le_of_eq (sym (pow-add 2 53 j)))
          (le_trans (pow_mono (over j k g))
          (le_trans (le_of_eq (pow-add 2 52 k)) (mul-le-mul_right (2 ^ k) (q.lead (lt_of_le_of_lt zero-le g))))))

-- a pattern without its sign
abbrev unsigned : Float → ℕ
unsigned x = to_bits binary64 x % 2 ^ 63

unsigned-order : (x y : Float) → T (fits binary64 x) → T (fits binary64 y) → T (finite x) → T (finite y) → (e : ℕ) → e ≤ 1 → unsigned x + e ≤ unsigned y → size_of x + e ≤ size_of y
unsigned-order x y X Y f g e small h = elim (ℕ_discrete (unsigned x / 2 ^ 52) 0) [
  | yes i ↦ elim (ℕ_discrete (unsigned y / 2 ^ 52) 0) [
    | yes k ↦ parts-order x y _ _ _ _ _ _ (parts-zero x X f i) (parts-zero y Y g k) e small zero-le (λ z. omega arith)
    | no k ↦ parts-order x y _ _ _ _ _ _ (parts-zero x X f i) (parts-suc y Y g k) e small zero-le (λ z. omega arith)
  ]
  | no i ↦ elim (ℕ_discrete (unsigned y / 2 ^ 52) 0) [
    | yes k ↦ absurd (omega arith)
    | no k ↦ parts-order x y _ _ _ _ _ _ (parts-suc x X f i) (parts-suc y Y g k) e small (omega arith) (λ z. omega arith)
  ]
]

-- whatever follows from a finite double's parts
pub by_parts : {A : Type 0} (x : Float) → T (fits binary64 x) → T (finite x) → ((s : Bool) (m j : ℕ) → PartsOf x s m j → A) → A
by_parts x X f k = elim (ℕ_discrete (unsigned x / 2 ^ 52) 0) [ yes i ↦ k _ _ _ (parts-zero x X f i) | no i ↦ k _ _ _ (parts-suc x X f i) ]

pattern-sign : (x : Float) → T (fits binary64 x) → T (finite x) → negative x ≡ leb (2 ^ 63) (to_bits binary64 x)
pattern-sign x X f = elim (ℕ_discrete (unsigned x / 2 ^ 52) 0) [ yes i ↦ (parts-zero x X f i).sign | no i ↦ (parts-suc x X f i).sign ]

-- a pattern b with the sign s
record Pattern (s : Bool) (b : ℕ) : Type 0 where
  small : b < 2 ^ 64
  side : cond s (2 ^ 63 ≤ b) (b < 2 ^ 63)
  place : ordered_bits b ≡ cond s (2 ^ 64 - 1 - b) (b + 2 ^ 63)

pattern-of : (x : Float) → T (fits binary64 x) → T (finite x) → Pattern (negative x) (to_bits binary64 x)
unfolding ordered_bits
pattern-of x X f = subst (λ (s : Bool). Pattern s b) (sym (pattern-sign x X f)) (record { small = to_bits-lt binary64 x X; side = go (leb (2 ^ 63) b) (leb→le (2 ^ 63) b) (nleb→lt (2 ^ 63) b); place = refl })
  where
    b : ℕ
    b = to_bits binary64 x

    go : (s : Bool) → (T s → 2 ^ 63 ≤ b) → (T (not s) → b < 2 ^ 63) → cond s (2 ^ 63 ≤ b) (b < 2 ^ 63)
    go true h k = h tt
    go false h k = k tt

module _ (x y : Float) (X : T (fits binary64 x)) (Y : T (fits binary64 y)) (f : T (finite x)) (g : T (finite y)) where
  unsigned→size : unsigned x ≤ unsigned y → size_of x ≤ size_of y
  unsigned→size h = omega (arith, unsigned-order x y X Y f g 0 (omega arith) (omega arith))

  size→unsigned : size_of x ≤ size_of y → unsigned x ≤ unsigned y
  size→unsigned h = elim (dec_le (unsigned x) (unsigned y)) [
    | yes l ↦ l
    | no l ↦ absurd (omega (arith, unsigned-order y x Y X g f 1 (omega arith) (omega arith)))
  ]

module _ (x y : Float) (X : T (fits binary64 x)) (Y : T (fits binary64 y)) (f : T (finite x)) (g : T (finite y)) where
  pub ordered→scaled : ordered x ≤ ordered y → scaled x ≤ℤ scaled y
  unfolding ordered scaled
  ordered→scaled h = below→signed (negative x) (negative y) (size_of x) (size_of y) (go (negative x) (negative y) (to_bits binary64 x) (to_bits binary64 y) (pattern-of x X f) (pattern-of y Y g) h (unsigned→size x y X Y f g) (unsigned→size y x Y X g f))
    where
      go : (s t : Bool) (b c : ℕ) → Pattern s b → Pattern t c → ordered_bits b ≤ ordered_bits c → (b % 2 ^ 63 ≤ c % 2 ^ 63 → size_of x ≤ size_of y) → (c % 2 ^ 63 ≤ b % 2 ^ 63 → size_of y ≤ size_of x) → Below s (size_of x) t (size_of y)
      go false false b c p q h u v = u (omega arith)
      go false true b c p q h u v = absurd (omega arith)
      go true false b c p q h u v = tt
      go true true b c p q h u v = v (omega arith)

  -- the other way round but for the two zeros, which are equal, and one step apart
  pub scaled→ordered : scaled x ≤ℤ scaled y → ordered x ≤ ordered y ⊎ ((size_of x ≤ 0) × (size_of y ≤ 0))
  unfolding ordered scaled
  scaled→ordered h = go (negative x) (negative y) (to_bits binary64 x) (to_bits binary64 y) (pattern-of x X f) (pattern-of y Y g) (signed→below (negative x) (negative y) (size_of x) (size_of y) h) (size→unsigned x y X Y f g) (size→unsigned y x Y X g f)
    where
      go : (s t : Bool) (b c : ℕ) → Pattern s b → Pattern t c → Below s (size_of x) t (size_of y) → (size_of x ≤ size_of y → b % 2 ^ 63 ≤ c % 2 ^ 63) → (size_of y ≤ size_of x → c % 2 ^ 63 ≤ b % 2 ^ 63)
          → ordered_bits b ≤ ordered_bits c ⊎ ((size_of x ≤ 0) × (size_of y ≤ 0))
      go false false b c p q h u v = inl (omega (arith, u h))
      go false true b c p q h u v = inr h
      go true false b c p q h u v = inl (omega arith)
      go true true b c p q h u v = inl (omega (arith, v h))

  pub ordered_same : ordered x ≡ ordered y → x ≡ y
  unfolding ordered
  ordered_same h = sym (of_bits-to_bits binary64 x X) ∙ ap (of_bits binary64) (go (negative x) (negative y) (to_bits binary64 x) (to_bits binary64 y) (pattern-of x X f) (pattern-of y Y g) h) ∙ of_bits-to_bits binary64 y Y
    where
      go : (s t : Bool) (b c : ℕ) → Pattern s b → Pattern t c → ordered_bits b ≡ ordered_bits c → b ≡ c
      go false false b c p q h = omega arith
      go false true b c p q h = absurd (omega arith)
      go true false b c p q h = absurd (omega arith)
      go true true b c p q h = omega arith

-- ---- `nearest_double x` is a whole number: rounding it changes nothing

-- n * u and a rest below u, divided by u
pub div-rest : (n u r a : ℕ) → r < u → a ≡ n * u + r → a / u ≡ n
div-rest n u r a h e = ap (λ (z : ℕ). z / u) (e ∙ add_comm (n * u) r) ∙ add-mul-div_right r n (lt_of_le_of_lt zero-le h) ∙ ap (λ (z : ℕ). z + n) (div-eq_of_lt h) ∙ zero-add n

pub half-up-whole : (n : ℕ) → half_up (n * unit) ≡ n
half-up-whole n = div-rest n (2 * unit) unit (2 * (n * unit) + unit) (lit< tt) (ap (λ (z : ℕ). z + unit) (mul_left_comm 2 n unit))

cut-whole : (n : ℕ) → cut_down (n * unit) ≡ n
cut-whole n = mul-div_cancel n (pow_pos 1074)

cut-up-whole : (n : ℕ) → cut_up (n * unit) ≡ n
cut-up-whole n = div-rest n unit (unit - 1) (n * unit + unit - 1) (lit< tt) (turn (n * unit) unit (pow_pos 1074))
  where
    turn : (a u : ℕ) → 0 < u → a + u - 1 ≡ a + (u - 1)
    turn a u h = omega arith

toward-whole : (d : Direction) (s : Bool) (n : ℕ) → size_toward d s (n * unit) ≡ n
toward-whole Nearest s n = half-up-whole n
toward-whole Down true n = cut-up-whole n
toward-whole Down false n = cut-whole n
toward-whole Up true n = cut-whole n
toward-whole Up false n = cut-up-whole n

whole-value : (x : Float) (s : Bool) (m j : ℕ) → PartsOf x s m j → HasValue (round binary64 (negative x) (half_up (size_of x)) 1) (negative x) (half_up (size_of x)) 1
whole-value x s m j p = elim (dec_le 1074 j) [
  | yes h ↦
      let N = m * 2 ^ (j - 1074) in
      let e : m * 2 ^ j ≡ N * unit = ap (λ (z : ℕ). m * 2 ^ z) (sym (back j h)) ∙ ap (λ (z : ℕ). m * z) (pow-add 2 (j - 1074) 1074) ∙ sym (mul_assoc m (2 ^ (j - 1074)) unit) in
      subst (λ (k : ℕ). HasValue (round binary64 (negative x) k 1) (negative x) k 1) (sym (ap half_up (p.size ∙ e) ∙ half-up-whole N))
      (round_exact binary64 (negative x) N 1 m j (lit< tt) p.digits (lt_of_lt_of_le (shl_lt 53 j p.digits) (pow_mono {i = 53 + j} {j = 2098} (top j p.power))) (sym e ∙ sym (mul-one (m * 2 ^ j))))
  | no h ↦
      let k = half_up (size_of x) in
      let l : k ≤ 2 ^ 52 = half-up-order {n = 2 ^ 52 * unit} (le_trans (le_of_eq p.size) (le_of_lt (lt_of_lt_of_le (shl_lt 53 j p.digits) (pow_mono {i = 53 + j} {j = 1126} (low-power j h))))) in
      round_exact binary64 (negative x) k 1 k 1074 (lit< tt) (lt_of_le_of_lt l (lit< tt)) (lt_of_le_of_lt (mul-le-mul_right unit l) (lit< tt)) (sym (mul-one (k * unit)))
]
  where
    back : (j : ℕ) → 1074 ≤ j → j - 1074 + 1074 ≡ j
    back j h = omega arith

    low-power : (j : ℕ) → (1074 ≤ j → ⊥) → 53 + j ≤ 1126
    low-power j h = omega arith

    top : (j : ℕ) → j < 2046 → 53 + j ≤ 2098
    top j h = omega arith

module _ (x : Float) (X : T (fits binary64 x)) (f : T (finite x)) where
  nearest-value : HasValue (nearest_double x) (negative x) (half_up (size_of x)) 1
  unfolding nearest_double
  nearest-value = by_parts x X f (whole-value x)

  nearest-fits : T (fits binary64 (nearest_double x))
  unfolding nearest_double
  nearest-fits = round-fits binary64 (negative x) (half_up (size_of x)) 1

  nearest_finite : T (finite (nearest_double x))
  nearest_finite = has-finite (nearest_double x) (negative x) (half_up (size_of x)) 1 nearest-value

  nearest-sign : negative (nearest_double x) ≡ negative x
  nearest-sign = sign-of-value (nearest_double x) (negative x) (half_up (size_of x)) 1 nearest-value

  nearest-size : size_of (nearest_double x) ≡ half_up (size_of x) * unit
  nearest-size = size-of-value (nearest_double x) (negative x) (half_up (size_of x) * unit) (widen (nearest_double x) (negative x) (half_up (size_of x)) nearest-value)
    where
      widen : (y : Float) (s : Bool) (k : ℕ) → HasValue y s k 1 → HasValue y s (k * unit) unit
      widen nan s k h = h
      widen (inf u) s k h = h
      widen (fin u m e) s k h = (h.0, ap (λ (z : ℕ). z * unit) (sym (mul-one (m * up e)) ∙ h.1) ∙ mul_right_comm k (down e) unit)

  nearest-scaled : scaled (nearest_double x) ≡ signed (negative x) (half_up (size_of x) * unit)
  unfolding scaled
  nearest-scaled = ap₂ signed nearest-sign nearest-size

  -- so rounding it again changes nothing
  nearest-rounded : (d : Direction) → rounded d (nearest_double x) ≡ round_away x
  unfolding round_away
  nearest-rounded d =
      let n = half_up (size_of x) in
      by_parts (nearest_double x) nearest-fits nearest_finite
      (λ s m j p.
      sym (toward-parts d (nearest_double x) s m j p n (sym (ap (size_toward d s) (sym p.size ∙ nearest-size) ∙ toward-whole d s n)))
      ∙ ap (λ (t : Bool). signed t n) (sym p.sign ∙ nearest-sign))

-- ---- snapping, and rounding after it

-- x, or the whole number nearest to it where that is one step away at most
abbrev pub snapped : Float → Float
snapped x = cond (one_step x (nearest_double x)) (nearest_double x) x

-- zeros of either sign
zeros-order : (x y : Float) → size_of x ≤ 0 → size_of y ≤ 0 → scaled x ≤ℤ scaled y
unfolding scaled
zeros-order x y h k = below→signed (negative x) (negative y) (size_of x) (size_of y) (go (negative x) (negative y))
  where
    go : (s t : Bool) → Below s (size_of x) t (size_of y)
    go false false = le_trans h zero-le
    go false true = (h, k)
    go true false = tt
    go true true = le_trans k zero-le

nearest-none : (x : Float) → T (fits binary64 x) → T (finite x) → size_of x ≤ 0 → size_of (nearest_double x) ≤ 0
nearest-none x X f h = le_trans (le_of_eq (nearest-size x X f)) (mul-le-mul_right unit (half-up-order {n = 0} h))

record Step (x y : Float) : Type 0 where
  right : ordered y ≤ ordered x + 1
  left : ordered x ≤ ordered y + 1

step_of : (x y : Float) → T (one_step x y) → Step x y
unfolding one_step
step_of x y t =
    let a = leb (ordered x) (ordered y + 1) in
    let b = leb (ordered y) (ordered x + 1) in
    record { right = leb→le (ordered y) (ordered x + 1) (and_r a b t); left = leb→le (ordered x) (ordered y + 1) (and_l a b t) }

module _ (x y : Float) (X : T (fits binary64 x)) (Y : T (fits binary64 y)) (f : T (finite x)) (g : T (finite y)) (h : scaled x ≤ℤ scaled y) where
  -- both snap
  nearest-order : scaled (nearest_double x) ≤ℤ scaled (nearest_double y)
  unfolding scaled
  nearest-order =
      let m = half_up (size_of x) * unit in
      let n = half_up (size_of y) * unit in
      subst (λ (z : ℤ). z ≤ℤ scaled (nearest_double y)) (sym (nearest-scaled x X f))
      (subst (λ (z : ℤ). signed (negative x) m ≤ℤ z) (sym (nearest-scaled y Y g)) (signed-order (negative x) (negative y) (size_of x) (size_of y) m n (record { up = more; down = more; left = more {n = 0}; right = more {n = 0} }) h))
    where
      more : {m n : ℕ} → m ≤ n → half_up m * unit ≤ half_up n * unit
      more l = mul-le-mul_right unit (half-up-order l)

  pub snapped-order : scaled (snapped x) ≤ℤ scaled (snapped y)
  snapped-order = go (one_step x (nearest_double x)) (one_step y (nearest_double y)) (step_of x (nearest_double x)) (step_of y (nearest_double y)) (λ e. ap (λ (z : Float). one_step z (nearest_double z)) e)
    where
      go : (a b : Bool) → (T a → Step x (nearest_double x)) → (T b → Step y (nearest_double y)) → (x ≡ y → a ≡ b) → scaled (cond a (nearest_double x) x) ≤ℤ scaled (cond b (nearest_double y) y)
      go true true u v e = nearest-order
      go true false u v e = elim (scaled→ordered x y X Y f g h) [
        | inl l ↦ elim (eq-or-lt_of_le l) [
          | inl z ↦ absurd (true≢false (e (ordered_same x y X Y f g z)))
          | inr k ↦ ordered→scaled (nearest_double x) y (nearest-fits x X f) Y (nearest_finite x X f) g (omega (arith, u tt))
        ]
        | inr z ↦ zeros-order (nearest_double x) y (nearest-none x X f z.0) z.1
      ]
      go false true u v e = elim (scaled→ordered x y X Y f g h) [
        | inl l ↦ elim (eq-or-lt_of_le l) [
          | inl z ↦ absurd (true≢false (sym (e (ordered_same x y X Y f g z))))
          | inr k ↦ ordered→scaled x (nearest_double y) X (nearest-fits y Y g) f (nearest_finite y Y g) (omega (arith, v tt))
        ]
        | inr z ↦ zeros-order x (nearest_double y) z.0 (nearest-none y Y g z.1)
      ]
      go false false u v e = h

-- rounding after snapping: document 01's floor and ceiling
abbrev pub snapping : Direction → Float → ℤ
snapping d x = cond (one_step x (nearest_double x)) (round_away x) (rounded d x)

snapping-is : (d : Direction) (x : Float) → T (fits binary64 x) → T (finite x) → snapping d x ≡ rounded d (snapped x)
snapping-is d x X f = go (one_step x (nearest_double x))
  where
    go : (b : Bool) → cond b (round_away x) (rounded d x) ≡ rounded d (cond b (nearest_double x) x)
    go true = sym (nearest-rounded x X f d)
    go false = refl

pub snapping-order : (d : Direction) (x y : Float) → T (fits binary64 x) → T (fits binary64 y) → T (finite x) → T (finite y) → scaled x ≤ℤ scaled y → snapping d x ≤ℤ snapping d y
snapping-order d x y X Y f g h =
    subst (λ (z : ℤ). z ≤ℤ snapping d y) (sym (snapping-is d x X f))
    (subst (λ (z : ℤ). rounded d (snapped x) ≤ℤ z) (sym (snapping-is d y Y g)) (rounded-order d (snapped x) (snapped y) (snapped-order x y X Y f g h)))
