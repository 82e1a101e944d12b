-- Each policy's rounding keeps order, also where it snaps; and what an accepted conversion is: in range, and close to its physical value. Assumes nothing.
use mathlib.Core.Path.{◌≡◌, refl, sym, ap, ◌∙◌, subst}
use mathlib.Core.Bool.{Bool, true, false, cond}
use mathlib.Core.Option.{none, some}
use Prim.Native.Nat.{ℕ, ◌+◌, ◌^◌, ◌≤◌}
use native.Mathlib.Nat.{le_trans, mul-le-mul_right}
use lib.Dec.{T, lit≤}
use lib.IntN.{ℤ, nat_abs}
use lib.Signed.{◌≤ℤ◌}
use lib.Ieee.{Float, binary64, fits, div, of_int}
use lib.Ieee.Fits.{div-fits, mul-fits}
use lib.Ieee.Bits.{is_true as on}
use lib.Ieee.Scale.{finite}
use lib.Ieee.Positive.{positive}
use Rattle.binary64.specs.Value.{scaled, round_away, floor_of, ceil_of}
use Rattle.binary64.specs.declared.Direction.TheVariants as Direction
use Rattle.binary64.proofs.Order.{rounded-order}
use Rattle.binary64.proofs.Snapping.{snapping-order}
use Rattle.refusal.specs.declared.Refusal.TheVariants as R
use Rattle.units.specs.declared.Unit.{Unit}
use Rattle.units.specs.declared.Unit.TheVariants as U
use Rattle.units.specs.Physical.{physical}
use Rattle.units.specs.Point.{endpoint}
use Rattle.conversion.specs.declared.GdsRoundingPolicy.{GdsRoundingPolicy}
use Rattle.conversion.specs.declared.GdsRoundingPolicy.TheVariants.{Nearest, Floor, Ceil, ErrorIfOffGrid}
use Rattle.conversion.specs.Made.{pure}
use Rattle.conversion.proofs.MadeLaws.{Yields, made_yields, steps, checked, need-on, then-pure}
use Rattle.conversion.specs.Convert.{Spot, on_grid, rounded, in_range, ranged, grid_value, database_value, convert_physical, physical_value, convert_by, array_endpoint}
use Rattle.conversion.specs.Close.{allowance, Close}
use Rattle.conversion.proofs.Bound.{Rounds, nearest-rounds, floor-rounds, ceil-rounds, snap-rounds, rounds-close}

-- ---- rounding keeps order (binary64's laws of order)

-- of what the two are
joined : {m n a b : ℤ} → m ≡ a → n ≡ b → m ≤ℤ n → a ≤ℤ b
joined {n = n} {a = a} e f h = subst (λ (z : ℤ). a ≤ℤ z) f (subst (λ (z : ℤ). z ≤ℤ n) e h)

pub policy-order : (policy : GdsRoundingPolicy) (s t : Float) (a b : ℤ) → T (fits binary64 s) → T (fits binary64 t) → T (finite s) → T (finite t) → scaled s ≤ℤ scaled t
    → Yields (rounded policy s) a → Yields (rounded policy t) b → a ≤ℤ b
unfolding rounded on_grid
policy-order Nearest s t a b S U f g h y z = joined (made_yields y) (made_yields z) (rounded-order Direction.Nearest s t h)
policy-order Floor s t a b S U f g h y z = joined (made_yields y) (made_yields z) (snapping-order Direction.Down s t S U f g h)
policy-order Ceil s t a b S U f g h y z = joined (made_yields y) (made_yields z) (snapping-order Direction.Up s t S U f g h)
policy-order ErrorIfOffGrid s t a b S U f g h y z = joined (made_yields (checked _ y).then) (made_yields (checked _ z).then) (rounded-order Direction.Nearest s t h)

-- ---- p / d, rounded by the policy

pub close-wider : (m n : ℕ) (d : Float) (P q : ℤ) → m ≤ n → Close m d P q → Close n d P q
close-wider m n d P q h c = le_trans c (mul-le-mul_right (nat_abs (scaled d)) h)

module _ (p d : Float) (P : T (fits binary64 p)) (D : T (fits binary64 d)) (a : T (finite p)) (b : T (positive d)) (c : T (finite (div binary64 p d))) where
  abbrev s : Float
  s = div binary64 p d

  snapped : (q : ℤ) (n : ℕ) → 3 ≤ n → T (on_grid s) → q ≡ round_away s → T (in_range q) → Close n d (scaled p) q
  snapped q n h g e r =
      close-wider 3 n d (scaled p) q h
      (rounds-close p d P D a b c 2 q (lit≤ tt) r
      (subst (λ (z : ℤ). Rounds s 2 z) (sym e) (snap-rounds s (div-fits binary64 p d) c g (subst (λ (z : ℤ). T (in_range z)) e r))))

  either : (t : Bool) (x : ℤ) (q : ℤ) → on_grid s ≡ t → Rounds s (2 ^ 22) x → cond t (round_away s) x ≡ q → T (in_range q) → Close (2 ^ 22 + 1) d (scaled p) q
  either true x q g z e r = snapped q (2 ^ 22 + 1) (lit≤ tt) (subst T (sym g) tt) (sym e) r
  either false x q g z e r = rounds-close p d P D a b c (2 ^ 22) q (lit≤ tt) r (subst (λ (y : ℤ). Rounds s (2 ^ 22) y) e z)

  pub rounded-close : (policy : GdsRoundingPolicy) (q : ℤ) → Yields (rounded policy s) q → T (in_range q) → Close (allowance policy) d (scaled p) q
  unfolding rounded
  rounded-close Nearest q y r =
      close-wider (2 ^ 21 + 1) (allowance Nearest) d (scaled p) q (lit≤ tt)
      (rounds-close p d P D a b c (2 ^ 21) q (lit≤ tt) r (subst (λ (z : ℤ). Rounds s (2 ^ 21) z) (made_yields y) (nearest-rounds s)))
  rounded-close Floor q y r = either (on_grid s) (floor_of s) q refl (floor-rounds s) (made_yields y) r
  rounded-close Ceil q y r = either (on_grid s) (ceil_of s) q refl (ceil-rounds s) (made_yields y) r
  rounded-close ErrorIfOffGrid q y r =
      let k = checked _ y in
      snapped q 4 (lit≤ tt) k.passed (sym (made_yields k.then)) r

-- ---- one conversion

-- q is accepted for p: it is the database value of p, p is finite, q is a signed 32-bit number, and q is close to p
pub record Converted (policy : GdsRoundingPolicy) (d p : Float) (q : ℤ) : Type 0 where
  pub value : database_value policy d p ≡ pure q
  pub physical : T (finite p)
  pub ranged : T (in_range q)
  pub close : Close (allowance policy) d (scaled p) q

pub ranged-is : (z q : ℤ) → Yields (ranged z) q → T (in_range q) × (z ≡ q)
unfolding ranged
ranged-is z q y =
    let k = checked _ y in
    let e : z ≡ q = made_yields k.then in
    (subst (λ (x : ℤ). T (in_range x)) e k.passed, e)

-- what an accepted physical value has passed
pub record Passed (policy : GdsRoundingPolicy) (d p : Float) (q : ℤ) : Type 0 where
  pub physical : T (finite p)
  pub quotient : T (finite (div binary64 p d))
  pub rounds : Yields (rounded policy (div binary64 p d)) q
  pub ranged : T (in_range q)

pub value-passed : (policy : GdsRoundingPolicy) (d p : Float) (q : ℤ) → Yields (database_value policy d p) q → Passed policy d p q
unfolding database_value grid_value
value-passed policy d p q y =
    let k1 = checked _ y in
    let k2 = checked _ k1.then in
    let k3 = steps k2.then in
    let k4 = ranged-is k3.value q k3.then in
    record {
      physical = k1.passed;
      quotient = k2.passed;
      rounds = subst (λ (z : ℤ). Yields (rounded policy (div binary64 p d)) z) k4.1 k3.first;
      ranged = k4.0;
    }

-- what passes every check is accepted, with nothing to report
pub accept : (policy : GdsRoundingPolicy) (d p : Float) (q : ℤ) → T (finite p) → T (finite (div binary64 p d)) → rounded policy (div binary64 p d) ≡ pure q → T (in_range q) → database_value policy d p ≡ pure q
unfolding database_value grid_value ranged
accept policy d p q f g e r =
    need-on (finite p) R.NotFinite _ (on (finite p) f)
    ∙ need-on (finite (div binary64 p d)) R.NotFinite _ (on (finite (div binary64 p d)) g)
    ∙ then-pure ranged e (need-on (in_range q) R.OutOfRange (pure q) (on (in_range q) r))

pub rounded-pure : (policy : GdsRoundingPolicy) (s : Float) (q : ℤ) → Yields (rounded policy s) q → rounded policy s ≡ pure q
unfolding rounded
rounded-pure Nearest s q y = ap (λ (z : ℤ). pure z) (made_yields y)
rounded-pure Floor s q y = ap (λ (z : ℤ). pure z) (made_yields y)
rounded-pure Ceil s q y = ap (λ (z : ℤ). pure z) (made_yields y)
rounded-pure ErrorIfOffGrid s q y =
    let k = checked _ y in
    need-on (on_grid s) R.OffGrid (pure (round_away s)) (on (on_grid s) k.passed) ∙ ap (λ (z : ℤ). pure z) (made_yields k.then)

-- THE BOUND OF ONE CONVERSION, for every policy, with the policy's allowance
pub value-converted : (policy : GdsRoundingPolicy) (d p : Float) (q : ℤ) → T (fits binary64 d) → T (positive d) → T (fits binary64 p)
    → Yields (database_value policy d p) q → Converted policy d p q
value-converted policy d p q D b P y =
    let k = value-passed policy d p q y in
    record { value = accept policy d p q k.physical k.quotient (rounded-pure policy (div binary64 p d) q k.rounds) k.ranged; physical = k.physical; ranged = k.ranged; close = rounded-close p d P D k.physical b k.quotient policy q k.rounds k.ranged }

pub physical-converted : (policy : GdsRoundingPolicy) (d : Float) (at : Spot) (p : Float) (q : ℤ) → T (fits binary64 d) → T (positive d) → T (fits binary64 p)
    → Yields (convert_physical policy d at p) q → Converted policy d p q
unfolding convert_physical
physical-converted policy d at p q D b P y =
    let k = steps y in
    value-converted policy d p q D b P (subst (λ (z : ℤ). Yields (database_value policy d p) z) (made_yields k.then) k.first)

pub physical-fits : (u : Unit) → T (fits binary64 (physical u))
unfolding physical
physical-fits (U.Integer v u) = mul-fits binary64 (of_int binary64 v) u
physical-fits (U.Float v u) = mul-fits binary64 v u

pub physical-value-is : (u : Unit) (p : Float) → Yields (physical_value u) p → physical u ≡ p
unfolding physical_value
physical-value-is u p y =
    let k1 = checked _ y in
    let k2 = checked _ k1.then in
    made_yields k2.then

-- a coordinate that does not pass unchanged
pub unit-converted : (policy : GdsRoundingPolicy) (d : Float) (at : Spot) (u : Unit) (q : ℤ) → T (fits binary64 d) → T (positive d)
    → Yields (convert_by policy d at u none) q → Converted policy d (physical u) q
unfolding convert_by
unit-converted policy d at u q D b y =
    let k = steps y in
    let e = physical-value-is u k.value k.first in
    physical-converted policy d at (physical u) q D b (physical-fits u) (subst (λ (p : Float). Yields (convert_physical policy d at p) q) (sym e) k.then)

pub unit-passed : (policy : GdsRoundingPolicy) (d : Float) (at : Spot) (u : Unit) (v q : ℤ) → Yields (convert_by policy d at u (some v)) q → v ≡ q
unfolding convert_by
unit-passed policy d at u v q y = made_yields y

-- ---- an endpoint

pub endpoint-in-range : (d : Float) (at : Spot) (o a : ℤ) (n : ℕ) (p : Float) (q : ℤ) → Yields (array_endpoint d at o a n p) q → T (in_range (endpoint o a n))
unfolding array_endpoint
endpoint-in-range d at o a n p q y =
    let k = steps (checked _ y).then in
    let r = ranged-is (endpoint o a n) k.value k.first in
    subst (λ (z : ℤ). T (in_range z)) (sym r.1) r.0
