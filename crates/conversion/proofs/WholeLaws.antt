-- A physical value whose quotient by d lies within one step of a whole number, and is nearest to it, is converted to it under every policy, with nothing to report (`convert-beside`); so is one whose quotient is that number (`convert-whole`).
-- In the database unit 1, integers in the unit 1 are converted to themselves, with nothing to report: outside arrays, where they pass, and in an array that is not turned (`array-exact`), where they
-- are converted by doubles that are whole numbers. Assumes nothing.
use mathlib.Core.Path.{◌≡◌, refl, sym, ap, ap₂, ◌∙◌}
use mathlib.Core.Bool.{true}
use mathlib.Core.Option.{some}
use Prim.Native.Nat.{ℕ, ◌+◌, ◌*◌, ◌^◌, ◌≤◌, zero-le}
use native.Mathlib.Nat.{le_trans, le_of_eq, mul-one, mul-le-mul_right, mul-le-mul_left}
use native.Mathlib.Omega.{arith}
use lib.Dec.{T, ltb→lt, lit≤}
use lib.IntN.{ℤ, pos, negsuc, neg_ℤ, nat_abs, one, *ℤ-one, *ℤ-zero, +ℤ_idl, +ℤ_idr, +ℤ_comm, ◌+ℤ◌, ◌*ℤ◌}
use lib.Ieee.{Float, binary64, eq, div, of_int}
use lib.Ieee.Bits.{is_true as on}
use lib.Ieee.Scale.{finite}
use Rattle.binary64.specs.Value.{round_away, abs, zero64, one64}
use Rattle.binary64.specs.Step.{one_step}
use Rattle.binary64.proofs.Exact.{Is, is_finite, is_same, one-is, none_is, int_is, neg_is, mul_is, div_is, fma-is, is-round, nearest-is, is-beside}
use Rattle.refusal.specs.declared.Refusal.TheVariants as R
use Rattle.units.specs.Physical.{physical, passed}
use Rattle.units.specs.Point.{Point, endpoint}
use Rattle.units.specs.Integer.{integer, integer_point}
use Rattle.conversion.specs.declared.GdsRoundingPolicy.{GdsRoundingPolicy}
use Rattle.conversion.specs.declared.GdsRoundingPolicy.TheVariants.{Nearest}
use Rattle.conversion.specs.Made.{made, pure, ◌>>◌}
use Rattle.conversion.specs.Convert.{Spot, on_grid, in_range, ranged, difference, deviations, convert_physical, physical_value, convert_by, convert_unit, array_endpoint}
use Rattle.conversion.specs.Points.{write_point, write_length}
use Rattle.conversion.specs.Array.{physical_point, physical_spacing, physical_at, turned, endpoint_physical, write_physical, write_endpoint, convert_array}
use Rattle.conversion.proofs.MadeLaws.{need-on, then-pure}
use Rattle.conversion.proofs.ConvertLaws.{accept}
use Rattle.conversion.proofs.GridLaws.{on-rounded}
use Rattle.conversion.proofs.DeviationLaws.{counts-beside}

-- ---- outside arrays: they pass

passes-one : (v : ℤ) → passed one64 (integer v) ≡ some v
unfolding passed eq
passes-one v = refl

module _ (policy : GdsRoundingPolicy) where
  unit-one : (at : Spot) (v : ℤ) → convert_unit policy one64 at (integer v) ≡ pure v
  unfolding convert_unit convert_by
  unit-one at v = ap (convert_by policy one64 at (integer v)) (passes-one v)

  pub point-one : (f k : ℕ) (p : Point ℤ) → write_point policy one64 f k (integer_point p) ≡ pure p
  unfolding write_point
  point-one f k p = then-pure _ (unit-one _ p.x) (then-pure _ (unit-one _ p.y) refl)

  pub length-one : (f : ℕ) (q : ℤ) → write_length policy one64 f (some (integer q)) ≡ pure (some q)
  unfolding write_length
  length-one f q = then-pure _ (unit-one _ q) refl

-- ---- a physical value that is a whole number

range-abs : (z : ℤ) → T (in_range z) → nat_abs z ≤ 2 ^ 31
range-abs (pos n) h = let k = ltb→lt n (2 ^ 31) h in omega arith
range-abs (negsuc n) h = ltb→lt n (2 ^ 31) h

pub small : (z : ℤ) → T (in_range z) → nat_abs z ≤ 2 ^ 53
small z h = le_trans (range-abs z h) (lit≤ tt)

module _ (d p : Float) (z : ℤ) (r : T (in_range z)) (at : Spot) where
  module _ (k : one_step (div binary64 p d) (of_int binary64 z) ≡ true) where
    unreported : pure z ≡ made z (deviations d at p z)
    unreported = counts-beside d p z (difference d p z) refl (abs (difference d p z)) refl k at z refl

    pub convert-beside : (policy : GdsRoundingPolicy) → T (finite p) → T (finite (div binary64 p d)) → on_grid (div binary64 p d) ≡ true → round_away (div binary64 p d) ≡ z → convert_physical policy d at p ≡ pure z
    unfolding convert_physical
    convert-beside policy f g h e = then-pure _ (accept policy d p z f g (on-rounded policy (div binary64 p d) h ∙ ap (λ (q : ℤ). pure q) e) r) (sym unreported)

  pub convert-whole : (policy : GdsRoundingPolicy) → T (finite p) → Is (div binary64 p d) z → convert_physical policy d at p ≡ pure z
  unfolding on_grid
  convert-whole policy f s = convert-beside (is-beside s (int_is z (small z r))) policy f (is_finite s) (is-beside s (nearest-is s (small z r))) (is-round s)

module _ (at : Spot) (p : Float) (z : ℤ) (h : Is p z) (r : T (in_range z)) where
  unreported-one : pure z ≡ made z (deviations one64 at p z)
  unreported-one = unreported one64 p z r at (is-beside (div_is h (small z r)) (int_is z (small z r)))

  convert-one : convert_physical Nearest one64 at p ≡ pure z
  convert-one = convert-whole one64 p z r at Nearest (is_finite h) (div_is h (small z r))

endpoint-one : (at : Spot) (o a : ℤ) (n : ℕ) (p : Float) → Is p (endpoint o a n) → T (in_range (endpoint o a n)) → array_endpoint one64 at o a n p ≡ pure (endpoint o a n)
unfolding array_endpoint ranged
endpoint-one at o a n p h r =
    need-on (finite p) R.NotFinite _ (on (finite p) (is_finite h))
    ∙ then-pure _ (need-on (in_range (endpoint o a n)) R.OutOfRange (pure (endpoint o a n)) (on (in_range (endpoint o a n)) r)) (sym (unreported-one at p (endpoint o a n) h r))

times-one : (z : ℤ) → z *ℤ pos 1 ≡ z
unfolding one
times-one z = *ℤ-one z

physical-is : (v : ℤ) → T (in_range v) → Is (physical (integer v)) v
unfolding physical
physical-is v r = is_same (times-one v) (mul_is (int_is v (small v r)) one-is (le_trans (le_of_eq (mul-one (nat_abs v))) (small v r)))

physical-one : (v : ℤ) → T (in_range v) → physical_value (integer v) ≡ pure (physical (integer v))
unfolding physical_value
physical-one v r = need-on true R.SourceUnit _ refl ∙ need-on (finite (physical (integer v))) R.NotFinite _ (on _ (is_finite (physical-is v r)))

-- ---- points of an array

pub record InRange (q : Point ℤ) : Type 0 where
  pub x : T (in_range q.x)
  pub y : T (in_range q.y)

record IsPoint (p : Point Float) (q : Point ℤ) : Type 0 where
  x : Is p.x q.x
  y : Is p.y q.y

physical-point-is : (q : Point ℤ) → InRange q → IsPoint (physical_at (integer_point q)) q
physical-point-is q r = record { x = physical-is q.x r.x; y = physical-is q.y r.y }

physical-point-one : (q : Point ℤ) → InRange q → physical_point (integer_point q) ≡ pure (physical_at (integer_point q))
unfolding physical_point
physical-point-one q r = then-pure _ (physical-one q.x r.x) (then-pure _ (physical-one q.y r.y) refl)

-- sine 0 and cosine 1 leave a spacing as it is
turned-is : (p : Point Float) (q : Point ℤ) → IsPoint p q → InRange q → IsPoint (turned zero64 one64 p) q
unfolding turned
turned-is p q h r =
    let X = small q.x r.x in
    let Y = small q.y r.y in
    record {
      x = is_same (ap₂ ◌+ℤ◌ (times-one q.x) refl ∙ +ℤ_idr q.x)
          (fma-is h.x one-is (is_same (ap neg_ℤ (*ℤ-zero q.y)) (neg_is (mul_is h.y none_is (le_trans (le_of_eq (by-none (nat_abs q.y))) zero-le)))) (le_trans (le_of_eq (by_one (nat_abs q.x))) X));
      y = is_same (ap₂ ◌+ℤ◌ (*ℤ-zero q.x) refl ∙ +ℤ_idl q.y)
          (fma-is h.x none_is (is_same (times-one q.y) (mul_is h.y one-is (le_trans (le_of_eq (mul-one (nat_abs q.y))) Y))) (le_trans (le_of_eq (alone (nat_abs q.x) (nat_abs q.y))) Y));
    }
  where
    by-none : (n : ℕ) → n * 0 ≡ 0
    by-none n = omega arith

    by_one : (n : ℕ) → n * 1 + 0 ≡ n
    by_one n = omega arith

    alone : (m n : ℕ) → m * 0 + n ≡ n
    alone m n = omega arith

physical-write-one : (f : ℕ) (p : Point Float) (q : Point ℤ) → IsPoint p q → InRange q → write_physical Nearest one64 f p ≡ pure q
unfolding write_physical
physical-write-one f p q h r = then-pure _ (convert-one _ p.x q.x h.x r.x) (then-pure _ (convert-one _ p.y q.y h.y r.y) refl)

-- ---- endpoints

-- so few columns or rows that a count times a spacing, and the origin, is exact
abbrev pub Few : ℕ → Type 0
Few n = n ≤ 2 ^ 21

pub record EndInRange (o a : Point ℤ) (n : ℕ) : Type 0 where
  pub x : T (in_range (endpoint o.x a.x n))
  pub y : T (in_range (endpoint o.y a.y n))

end_is : (a : ℤ) (n : ℕ) (o : ℤ) (pa po : Float) → Is pa a → Is po o → T (in_range a) → T (in_range o) → Few n → Is (endpoint_physical pa n po) (endpoint o a n)
end_is a n o pa po h k r t l =
    is_same (+ℤ_comm (a *ℤ pos n) o)
    (fma-is h (int_is (pos n) (le_trans l (lit≤ tt))) k
    (le_trans (room (nat_abs a * n) (nat_abs o) (le_trans (mul-le-mul_right n (range-abs a r)) (mul-le-mul_left (2 ^ 31) l)) (range-abs o t)) (lit≤ tt)))
  where
    room : (m k : ℕ) → m ≤ 2 ^ 31 * 2 ^ 21 → k ≤ 2 ^ 31 → m + k ≤ 2 ^ 31 * 2 ^ 21 + 2 ^ 31
    room m k h l = omega arith

module _ (o a : Point ℤ) (n : ℕ) (ro : InRange o) (ra : InRange a) (few : Few n) where
  end-write-one : (f : ℕ) (po pa : Point Float) → IsPoint po o → IsPoint pa a → EndInRange o a n → write_endpoint Nearest one64 f o a n po pa ≡ pure tt
  unfolding write_endpoint
  end-write-one f po pa h k r =
      then-pure _ (endpoint-one _ o.x a.x n _ (end_is a.x n o.x pa.x po.x k.x h.x ra.x ro.x few) r.x)
      (then-pure _ (endpoint-one _ o.y a.y n _ (end_is a.y n o.y pa.y po.y k.y h.y ra.y ro.y few) r.y) refl)

-- AN ARRAY OF INTEGERS IN THE UNIT 1, not turned, is converted to itself, with nothing to report.
pub array-exact : (columns rows : ℕ) (o a b : Point ℤ) → InRange o → InRange a → InRange b → Few columns → Few rows → EndInRange o a columns → EndInRange o b rows
    → convert_array Nearest one64 zero64 one64 columns rows (integer_point o) (some (integer_point a)) (some (integer_point b)) ≡ pure (record { origin = o; column_step = a; row_step = b })
unfolding convert_array physical_spacing ◌>>◌
array-exact columns rows o a b ro ra rb fc fr ea eb =
    let po = physical-point-is o ro in
    let pa = turned-is _ a (physical-point-is a ra) ra in
    let pb = turned-is _ b (physical-point-is b rb) rb in
    then-pure _ (physical-point-one o ro) (then-pure _ (physical-write-one _ _ o po ro) (then-pure _ (physical-point-one a ra) (then-pure _ (physical-point-one b rb)
    (then-pure _ (physical-write-one _ _ a pa ra) (then-pure _ (physical-write-one _ _ b pb rb)
    (then-pure _ (end-write-one o a columns ro ra fc _ _ _ po pa ea) (then-pure _ (end-write-one o b rows ro rb fr _ _ _ po pb eb) refl)))))))
