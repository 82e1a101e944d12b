-- The answer of `range_of` spans its range: both ends are doubles of it, conversion keeps order, and nothing between two accepted ends is refused. What spans a range is one alone. Assumes nothing.
use mathlib.Core.Path.{◌≡◌, refl, sym, ap, ap₂, ◌∙◌, subst}
use mathlib.Core.Logic.{◌⊎◌, inl, inr}
use mathlib.Core.Bool.{Bool, true, false, ◌&&◌, cond}
use mathlib.Core.List.{[]}
use Prim.Native.Nat.{◌^◌, ◌≤◌, zero-le}
use native.Mathlib.Nat.{le_trans, lt_of_le_of_lt}
use lib.Dec.{T, leb→le, ltb→lt, lt→ltb}
use lib.IntN.{ℤ, pos, negsuc}
use lib.Signed.{◌≤ℤ◌}
use lib.Ieee.{Float, fin, binary64, fits, div, le}
use lib.Ieee as Ieee
use lib.Ieee.Fits.{div-fits}
use lib.Ieee.Bits.{is_true as on}
use lib.Ieee.Positive.{positive}
use lib.Ieee.Scale.{finite}
use Rattle.binary64.specs.Value.{size_of, negative, scaled, round_away, floor_of, ceil_of}
use Rattle.binary64.specs.Value as Value
use Rattle.binary64.specs.Step as Step
use Rattle.binary64.proofs.Order.{Below, both-orders, signed→below, quotient-order, quotient-finite}
use Rattle.binary64.proofs.Same.{same-or-zeros, zero_is}
use Rattle.binary64.proofs.Compare.{le-scaled, eq-le, le-self, between-finite}
use Rattle.binary64.proofs.Equal.{eq-scaled}
use Rattle.refusal.specs.declared.Refusal.TheVariants as R
use Rattle.conversion.specs.declared.GdsRoundingPolicy.{GdsRoundingPolicy}
use Rattle.conversion.specs.declared.GdsRoundingPolicy.TheVariants.{Nearest, Floor, Ceil, ErrorIfOffGrid}
use Rattle.conversion.specs.Made.{pure}
use Rattle.conversion.specs.Convert.{on_grid, rounded, in_range, database_value}
use Rattle.conversion.proofs.MadeLaws.{Yields, made_yields, steps, checked, need-on}
use Rattle.conversion.proofs.ConvertLaws.{Passed, value-passed, policy-order, accept, rounded-pure}
use Rattle.bounds.specs.Range.{Range, admitted, range_of, Reached, Between, Spans, SpansOne}

-- ---- what strict asks: on the grid

zero-on : (s : Bool) → on_grid (fin s 0 (pos 0)) ≡ true
unfolding on_grid Step.one_step Step.ordered Step.ordered_bits Step.nearest_double Value.size_of Value.negative Ieee.to_bits Ieee.round Ieee.size
zero-on true = refl
zero-on false = refl

-- two doubles that are one number are on the grid alike, also the two zeros
grid-alike : (s t : Float) → T (fits binary64 s) → T (fits binary64 t) → T (finite s) → T (finite t) → scaled s ≡ scaled t → on_grid s ≡ true → on_grid t ≡ true
grid-alike s t S U f g e h = elim (same-or-zeros s t S U f g e) [
  | inl q ↦ ap on_grid (sym q) ∙ h
  | inr z ↦ ap on_grid (zero_is t U g z.1) ∙ zero-on (negative t)
]

strict_on : (policy : GdsRoundingPolicy) (s : Float) (q : ℤ) → policy ≡ ErrorIfOffGrid → Yields (rounded policy s) q → on_grid s ≡ true
unfolding rounded
strict_on policy s q e y = on (on_grid s) (checked R.OffGrid {n = pure (round_away s)} (subst (λ (p : GdsRoundingPolicy). Yields (rounded p s) q) e y)).passed

-- every other policy rounds whatever there is
record Rounds (policy : GdsRoundingPolicy) (s : Float) : Type 0 where
  value : ℤ
  is : rounded policy s ≡ pure value

rounds : (policy : GdsRoundingPolicy) (s : Float) → (policy ≡ ErrorIfOffGrid → on_grid s ≡ true) → Rounds policy s
unfolding rounded
rounds Nearest s h = record { value = round_away s; is = refl }
rounds Floor s h = record { value = cond (on_grid s) (round_away s) (floor_of s); is = refl }
rounds Ceil s h = record { value = cond (on_grid s) (round_away s) (ceil_of s); is = refl }
rounds ErrorIfOffGrid s h = record { value = round_away s; is = need-on (on_grid s) R.OffGrid (pure (round_away s)) (h refl) }

-- ---- what lies between two numbers of 32 bits, and between two doubles

range-between : (a q b : ℤ) → T (in_range a) → T (in_range b) → a ≤ℤ q → q ≤ℤ b → T (in_range q)
range-between a (pos n) (pos b) A B h k = lt→ltb n (2 ^ 31) (lt_of_le_of_lt (leb→le n b k.le) (ltb→lt b (2 ^ 31) B))
range-between a (pos n) (negsuc b) A B h k = absurd k.le
range-between (pos a) (negsuc n) b A B h k = absurd h.le
range-between (negsuc a) (negsuc n) b A B h k = lt→ltb n (2 ^ 31) (lt_of_le_of_lt (leb→le n a h.le) (ltb→lt a (2 ^ 31) A))

-- one of the ends is at least as large in size as what lies between
size-between : (lo x hi : Float) → scaled lo ≤ℤ scaled x → scaled x ≤ℤ scaled hi → size_of x ≤ size_of lo ⊎ size_of x ≤ size_of hi
unfolding scaled
size-between lo x hi h k = go (negative lo) (negative x) (negative hi) (signed→below (negative lo) (negative x) (size_of lo) (size_of x) h) (signed→below (negative x) (negative hi) (size_of x) (size_of hi) k)
  where
    go : (r s t : Bool) → Below r (size_of lo) s (size_of x) → Below s (size_of x) t (size_of hi) → size_of x ≤ size_of lo ⊎ size_of x ≤ size_of hi
    go r false false h k = inr k
    go r false true h k = inr (le_trans k.0 zero-le)
    go true true t h k = inl h
    go false true t h k = inl (le_trans h.1 zero-le)

admitted-le : (policy : GdsRoundingPolicy) (lo hi : Float) → T (admitted policy lo hi) → T (le lo hi)
admitted-le Nearest lo hi h = h
admitted-le Floor lo hi h = h
admitted-le Ceil lo hi h = h
admitted-le ErrorIfOffGrid lo hi h = search eq-le

-- ---- the range of two accepted ends

module _ (policy : GdsRoundingPolicy) (d lo hi : Float) (a b : ℤ) (D : T (fits binary64 d)) (pd : T (positive d)) (L : T (fits binary64 lo)) (H : T (fits binary64 hi))
    (A : T (admitted policy lo hi)) (u : Passed policy d lo a) (v : Passed policy d hi b) where
  -- strict: the ends are equal, so what lies between them is the same number
  strict : (x : Float) → T (fits binary64 x) → T (finite x) → T (finite (div binary64 x d)) → scaled lo ≤ℤ scaled x → scaled x ≤ℤ scaled hi → policy ≡ ErrorIfOffGrid → on_grid (div binary64 x d) ≡ true
  strict x X f g h k e =
      let t = div binary64 lo d in
      let s = div binary64 x d in
      let same = eq-scaled lo hi (subst (λ (p : GdsRoundingPolicy). T (admitted p lo hi)) e A) in
      let back = subst (λ (z : ℤ). scaled x ≤ℤ z) (sym same) k in
      let over = quotient-order d D pd lo x L X u.physical f u.quotient g h in
      let under = quotient-order d D pd x lo X L f u.physical g u.quotient back in
      grid-alike t s (div-fits binary64 lo d) (div-fits binary64 x d) u.quotient g (both-orders (scaled t) (scaled s) over under) (strict_on policy t a e u.rounds)

  between : (x : Float) → T (fits binary64 x) → T (le lo x) → T (le x hi) → Between policy d x (record { least = a; greatest = b })
  between x X h k =
      let f = between-finite lo x hi u.physical v.physical h k in
      let p = le-scaled lo x L X u.physical f h in
      let q = le-scaled x hi X H f v.physical k in
      let s = div binary64 x d in
      let g : T (finite s) = elim (size-between lo x hi p q) [
        | inl l ↦ quotient-finite d D pd x lo X L f u.physical u.quotient l
        | inr l ↦ quotient-finite d D pd x hi X H f v.physical v.quotient l
      ] in
      let r = rounds policy s (strict x X f g p q) in
      let y : Yields (rounded policy s) r.value = record { log = []; is = r.is } in
      let m = policy-order policy (div binary64 lo d) s a r.value (div-fits binary64 lo d) (div-fits binary64 x d) u.quotient g (quotient-order d D pd lo x L X u.physical f u.quotient g p) u.rounds y in
      let n = policy-order policy s (div binary64 hi d) r.value b (div-fits binary64 x d) (div-fits binary64 hi d) g v.quotient (quotient-order d D pd x hi X H f v.physical g v.quotient q) y v.rounds in
      record { value = r.value; is = accept policy d x r.value f g r.is (range-between a r.value b u.ranged v.ranged m n); least = m; greatest = n }

  end_is : (x : Float) (q : ℤ) → Passed policy d x q → database_value policy d x ≡ pure q
  end_is x q w = accept policy d x q w.physical w.quotient (rounded-pure policy (div binary64 x d) q w.rounds) w.ranged

  ends-span : Spans policy d lo hi (record { least = a; greatest = b })
  ends-span = record {
    least = record { at = lo; fit = L; above = le-self lo u.physical; below = admitted-le policy lo hi A; is = end_is lo a u };
    greatest = record { at = hi; fit = H; above = admitted-le policy lo hi A; below = le-self hi v.physical; is = end_is hi b v };
    all = between;
  }

pub range-spans : (policy : GdsRoundingPolicy) (d lo hi : Float) (r : Range) → T (fits binary64 d) → T (positive d) → T (fits binary64 lo) → T (fits binary64 hi)
    → Yields (range_of policy d lo hi) r → Spans policy d lo hi r
unfolding range_of
range-spans policy d lo hi r D pd L H y =
    let k1 = checked {t = finite lo && finite hi} R.NotFinite y in
    let k2 = checked _ k1.then in
    let k3 = steps k2.then in
    let k4 = steps k3.then in
    let w : record { least = k3.value; greatest = k4.value } ≡ r = made_yields k4.then in
    subst (λ (z : Range). Spans policy d lo hi z) w
    (ends-span policy d lo hi k3.value k4.value D pd L H k2.passed (value-passed policy d lo k3.value k3.first) (value-passed policy d hi k4.value k4.first))

-- ---- `Spans` leaves no choice

module _ {policy : GdsRoundingPolicy} {d lo hi : Float} {r : Range} (h : Spans policy d lo hi r) {q : ℤ} (z : Reached policy d lo hi q) where
  within : Between policy d z.at r
  within = h.all z.at z.fit z.above z.below

  value-is : within.value ≡ q
  value-is = let e = within.is in let f = z.is in cc

  pub at_least : r.least ≤ℤ q
  at_least = subst (λ (v : ℤ). r.least ≤ℤ v) value-is within.least

  pub at_most : q ≤ℤ r.greatest
  at_most = subst (λ (v : ℤ). v ≤ℤ r.greatest) value-is within.greatest

pub spans-one : SpansOne
spans-one policy d lo hi r s h k =
    ap₂ (λ (a b : ℤ). record { least = a; greatest = b })
    (both-orders r.least s.least (at_least h k.least) (at_least k h.least))
    (both-orders r.greatest s.greatest (at_most k h.greatest) (at_most h k.greatest))
