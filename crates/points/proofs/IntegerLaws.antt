-- Points that pass unchanged: their integers, with nothing refused and nothing to report. Assumes nothing.
use mathlib.Core.Path.{◌≡◌, refl, sym, ap, ap₂, ◌∙◌, subst}
use mathlib.Core.Bool.{Bool, true, false, not}
use mathlib.Core.Option.{some}
use mathlib.Core.List.{List, [], ◌∷◌, ◌++◌, append-nil}
use Prim.Native.Nat.{ℕ, zero, suc, ◌+◌, ◌-◌, ◌*◌, ◌≤◌, ◌<◌}
use native.Mathlib.Nat.{add-zero, zero-add, suc-add}
use native.Mathlib.Numerals.{add-one}
use native.Mathlib.Omega.{arith}
use lib.Dec.{T}
use lib.ListN.{length}
use lib.IntN.{ℤ}
use lib.Ieee.{Float, binary64, fits, eq, ne, is_nan, to_bits, of_bits}
use lib.Ieee.Compare.{differs_from_itself}
use lib.Ieee.Bits.{of_bits-to_bits}
use Rattle.std.specs.Prelude.{Ok}
use Rattle.refusal.specs.declared.Refusal.{Refusal}
use Rattle.units.specs.declared.Unit.{Unit}
use Rattle.units.specs.Point.{Point}
use Rattle.units.specs.Physical.{passed}
use Rattle.big_endian.specs.Buffer.{WroteAt}
use Rattle.big_endian.proofs.BufferLaws.{nothing-at, then_at, same_bytes}
use Rattle.big_endian.proofs.BytesLaws.{joined-append}
use Rattle.conversion.specs.declared.DatabasePoint.{DatabasePoint}
use Rattle.conversion.specs.declared.Entry.{Entry}
use Rattle.conversion.specs.declared.GdsRoundingPolicy.{GdsRoundingPolicy}
use Rattle.conversion.specs.Convert.{Spot, convert_by, convert_unit}
use Rattle.conversion.specs.Made.{Made, pure, ◌>>=◌}
use Rattle.conversion.specs.code.Answer.{grid_point_of}
use Rattle.conversion.specs.code.Fold.{run}
use Rattle.conversion.specs.Points.{write_point, write_points}
use Rattle.conversion.proofs.FoldLaws.{run-pure}
use Rattle.stream.specs.Records.{point_bytes, points_bytes}
use Rattle.cell.specs.Write.{last_of}
use Rattle.block_places.specs.code.Place.{values_from, double_at, unit_at, point_at, points_from}
use Rattle.block_places.proofs.UnitLaws.{unit-integer}
use Rattle.coordinate.specs.code.Coordinate.{at_point}
use Rattle.coordinate.proofs.TurnLaws.{turn, others}
use Rattle.points.specs.code.Walk.{through, walked}
use Rattle.points.proofs.ChunkLaws.{Part, in-unit-part}
use Rattle.points.specs.code.Integers.{integers_at, integers_from, InUnit, Passes, AllPass}

-- ---- k points further: the place in the block, and the place in the list

place_none : (at : ℕ) → at ≡ at + 34 * 0
place_none at = omega arith

pub place-next : (at k : ℕ) → at + 34 + 34 * k ≡ at + 34 * suc k
place-next at k = omega arith

number-next : (p k : ℕ) → suc p + k ≡ p + suc k
number-next p k = omega arith

-- ---- a coordinate, by the bits of its unit

-- only a NaN differs from itself
same-equal : (d : Float) → T (not (is_nan d)) → eq d d ≡ true
unfolding ne is_nan
same-equal d h = go (eq d d) refl
  where
    go : (t : Bool) → eq d d ≡ t → eq d d ≡ true
    go true e = e
    go false e = absurd (subst (λ (x : Float). T (not (is_nan x))) (differs_from_itself d (subst (λ (t : Bool). T (not t)) (sym e) tt)) h)

module _ (d : Float) (F : T (fits binary64 d)) (N : T (not (is_nan d))) (b : List ℕ) where
  pub bits-pass : (at : ℕ) → InUnit (to_bits binary64 d) b at → Passes d b at
  unfolding passed
  bits-pass at i =
      let u : d ≡ double_at b (at + 9) = sym (ap (of_bits binary64) i.1 ∙ of_bits-to_bits binary64 d F) in
      ap (passed d) (sym (unit-integer b at {u = d} u i.0 refl)) ∙ rw (same-equal d N)

  -- a point that is a part of the list's bytes
  pub part-passes : (x : List ℕ) (i : ℕ) → Part 34 x b (34 * i) → InUnit (to_bits binary64 d) x 0 × InUnit (to_bits binary64 d) x 17 → Passes d b (34 * i) × Passes d b (34 * i + 17)
  part-passes x i p u = (
    bits-pass (34 * i) (in-unit-part p (to_bits binary64 d) 0 (34 * i) (omega arith) (omega arith) u.0),
    bits-pass (34 * i + 17) (in-unit-part p (to_bits binary64 d) 17 (34 * i + 17) (omega arith) (omega arith) u.1),
  )

-- each of the first n
pub all-pass : (d : Float) (b : List ℕ) (n at : ℕ) → ((k : ℕ) → k < n → Passes d b (at + 34 * k) × Passes d b (at + 34 * k + 17)) → AllPass d b n at
all-pass d b zero at h = tt
all-pass d b (suc n) at h =
    let f = h 0 (omega arith) in
    let e : at + 34 * 0 ≡ at = omega arith in (
      subst (Passes d b) e f.0,
      subst (λ (j : ℕ). Passes d b (j + 17)) e f.1,
      all-pass d b n (at + 34) (λ k l.
          let g = h (suc k) (omega arith) in
          let e : at + 34 * suc k ≡ at + 34 + 34 * k = omega arith in
          (subst (Passes d b) e g.0, subst (λ (j : ℕ). Passes d b (j + 17)) e g.1)),
    )

-- ---- one point more that passes

module _ (b : List ℕ) where
  all_more : (d : Float) (i from at : ℕ) → at ≡ from + 34 * i → AllPass d b i from → Passes d b at → Passes d b (at + 17) → AllPass d b (suc i) from
  all_more d zero from at e h x y =
      let f : at ≡ from = omega arith in
      (subst (Passes d b) f x, subst (λ (k : ℕ). Passes d b (k + 17)) f y, tt)
  all_more d (suc i) from at e h x y = (h.0, h.1, all_more d i (from + 34) at (omega arith) h.2 x y)

  integers-more : (i from at : ℕ) → at ≡ from + 34 * i → integers_from (suc i) b from ≡ integers_from i b from ++ (integers_at b at ∷ [])
  unfolding values_from
  integers-more zero from at e = ap (λ (k : ℕ). integers_at b k ∷ []) same
    where
      same : from ≡ at
      same = omega arith
  integers-more (suc i) from at e = ap (λ (ps : List (Point ℤ)). integers_at b from ∷ ps) (integers-more i (from + 34) at (omega arith))

  -- none yet
  pub none-put : (from : ℕ) (out : List ℕ) (start to : ℕ) → start ≡ to → start ≤ length out → WroteAt (points_bytes (integers_from 0 b from)) out out start to
  unfolding values_from
  none-put from out start to e l = subst (WroteAt [] out out start) e (nothing-at out start l)

  -- after i points, in the words of code
  pub pass-more : (d : Float) (i from at : ℕ) → at ≡ from + 34 * i → AllPass d b i from → Passes d b at → Passes d b (at + 17) → AllPass d b (i + 1) from
  pass-more d i from at e h x y = subst (λ (k : ℕ). AllPass d b k from) (sym (add-one i)) (all_more d i from at e h x y)

  pub put-more : (i from at : ℕ) → at ≡ from + 34 * i → {start to r : ℕ} {before cur after : List ℕ} → WroteAt (points_bytes (integers_from i b from)) before cur start to
      → WroteAt (point_bytes (integers_at b at)) cur after to r → WroteAt (points_bytes (integers_from (i + 1) b from)) before after start r
  put-more i from at e u v = same_bytes (sym whole) (then_at u v)
    where
      whole : points_bytes (integers_from (i + 1) b from) ≡ points_bytes (integers_from i b from) ++ point_bytes (integers_at b at)
      whole =
          ap (λ (k : ℕ). points_bytes (integers_from k b from)) (add-one i)
          ∙ ap points_bytes (integers-more i from at e)
          ∙ joined-append point_bytes (integers_from i b from) (integers_at b at ∷ [])
          ∙ ap (λ (bs : List ℕ). points_bytes (integers_from i b from) ++ bs) (append-nil (point_bytes (integers_at b at)))

-- ---- what they are converted to

module _ (policy : GdsRoundingPolicy) (d : Float) (b : List ℕ) where
  unit-pure : (s : Spot) (u : Unit) (v : ℤ) → passed d u ≡ some v → convert_unit policy d s u ≡ pure v
  unfolding convert_unit convert_by
  unit-pure s u v h = ap (convert_by policy d s u) h

  point-pure : (f k at : ℕ) → Passes d b at → Passes d b (at + 17) → write_point policy d f k (point_at b at) ≡ pure (integers_at b at)
  unfolding write_point point_at ◌>>=◌
  point-pure f k at x y = rw (unit-pure _ (unit_at b at) _ x, unit-pure _ (unit_at b (at + 17)) _ y)

  module _ {R : Type 0} (stop : Refusal → R) (e : Entry) where
    -- k points that pass, in front of m others, whatever is to follow: the others come next, from place p + k on
    pub run-passing : (k m p at : ℕ) (g : List (Point ℤ) → Entry → R) → AllPass d b k at
        → run stop e (write_points policy d p (points_from (k + m) b at)) g
        ≡ run stop e (write_points policy d (p + k) (points_from m b (at + 34 * k))) (λ qs e'. g (integers_from k b at ++ qs) e')
    unfolding values_from
    run-passing zero m p at g h = ap₂ (λ (j : ℕ) (ps : List (Point Unit)). run stop e (write_points policy d j ps) g) (sym (add-zero p)) (ap₂ (λ (j k : ℕ). points_from j b k) (zero-add m) (place_none at))
    run-passing (suc k) m p at g h =
        ap (λ (j : ℕ). run stop e (write_points policy d p (points_from j b at)) g) (suc-add k m)
        ∙ turn stop policy d e p (point_at b at) (points_from (k + m) b (at + 34)) g
        ∙ ap (λ (w : Made (Point ℤ)). run stop e w (others stop policy d e p (point_at b at) (points_from (k + m) b (at + 34)) g)) (point-pure 0 p at h.0 h.1)
        ∙ run-pure stop e (integers_at b at) (others stop policy d e p (point_at b at) (points_from (k + m) b (at + 34)) g)
        ∙ run-passing k m (suc p) (at + 34) (λ qs e'. g (integers_at b at ∷ qs) e') h.2
        ∙ ap₂ (λ (j l : ℕ). run stop e (write_points policy d j (points_from m b l)) (λ qs e'. g (integers_at b at ∷ (integers_from k b (at + 34) ++ qs)) e')) (number-next p k) (place-next at k)

-- ---- the ends

last-is : (b : List ℕ) (m at : ℕ) → last_of (integers_at b at) (integers_from m b (at + 34)) ≡ integers_at b (at + 34 * m)
unfolding values_from
last-is b zero at = ap (integers_at b) (place_none at)
last-is b (suc m) at = last-is b m (at + 34) ∙ ap (integers_at b) (place-next at m)

pub ends-are : (b : List ℕ) (n from last : ℕ) (e : Entry) (p q : DatabasePoint) → 1 ≤ n → last ≡ from + 34 * (n - 1)
    → grid_point_of p ≡ integers_at b from → grid_point_of q ≡ integers_at b last → Ok (record { first = p; last = q; entry = e }) ≡ walked (integers_from n b from) e
unfolding values_from walked through
ends-are b zero from last e p q l g h k = absurd (omega arith)
ends-are b (suc m) from last e p q l g h k =
    let z : last ≡ from + 34 * m = omega arith in
    let k' : grid_point_of q ≡ last_of (integers_at b from) (integers_from m b (from + 34)) = k ∙ ap (integers_at b) z ∙ sym (last-is b m from) in
    ap₂ (λ (f t : Point ℤ). Ok (record { first = at_point f; last = at_point t; entry = e })) h k'
