-- A value's answer is its step's, and so is a point's: each way out of the code; and a point's bytes. Assumes nothing.
use mathlib.Core.Path.{◌≡◌, refl, sym, ap, ap₂, ◌∙◌, subst}
use mathlib.Core.List.{List, ◌++◌}
use Prim.Native.Nat.{ℕ, ◌+◌, ◌≤◌}
use native.Mathlib.Omega.{arith}
use lib.IntN.{ℤ}
use lib.Ieee.{Float}
use Rattle.std.specs.Prelude.{Result, Ok, Err, Some}
use Rattle.big_endian.specs.Buffer.{WroteAt}
use Rattle.big_endian.proofs.BufferLaws.{same_bytes}
use Rattle.refusal.specs.declared.Refusal.{Refusal}
use Rattle.units.specs.declared.Unit.{Unit}
use Rattle.units.specs.Point.{Point}
use Rattle.conversion.specs.declared.Conversion.{Conversion}
use Rattle.conversion.specs.declared.Conversion.TheVariants as C
use Rattle.conversion.specs.declared.DatabasePoint.{DatabasePoint}
use Rattle.conversion.specs.declared.Deviation.{Deviation}
use Rattle.conversion.specs.declared.Entry.{Entry}
use Rattle.conversion.specs.declared.GdsRoundingPolicy.{GdsRoundingPolicy}
use Rattle.conversion.specs.code.Answer.{outcome}
use Rattle.conversion.specs.Convert.{Spot, convert_unit}
use Rattle.conversion.specs.Field.{x_axis, y_axis}
use Rattle.conversion.specs.code.Fold.{noted, noted_all, run}
use Rattle.conversion.specs.Made.{Made, pure, ◌>>=◌}
use Rattle.conversion.specs.Points.{spot, write_point}
use Rattle.conversion.proofs.FoldLaws.{noted-count, run_bind, run-pure}
use Rattle.stream.specs.Records.{long_bytes}
use Rattle.steps.proofs.StepLaws.{run-through}
use Rattle.coordinate.specs.declared.Valued.{Valued}
use Rattle.coordinate.specs.declared.Pointed.{Pointed}
use Rattle.coordinate.specs.code.Coordinate.{valued, GivesValue, pointed, GivesPoint, both, plain_of}

-- ---- a conversion's answer. z is what the machine reads back of the value q.

module _ (e : Entry) (at : Spot) (c : Result Conversion Refusal) where
  abbrev answer : Result Conversion Refusal → Result Valued Refusal
  answer y = run Err e (outcome at y) valued

  pub value-refused : (x : Refusal) → c ≡ Err x → GivesValue e (outcome at c) (Err x)
  unfolding run
  value-refused x g = record { is = ap answer (sym g); grown = tt }

  pub value-exact : (q z : ℤ) → c ≡ Ok (C.Converted q) → z ≡ q → GivesValue e (outcome at c) (valued z e)
  unfolding run noted_all
  value-exact q z g i = record { is = ap (λ (y : ℤ). valued y e) i ∙ ap answer (sym g); grown = omega arith }

  pub value-quantized : (q z : ℤ) (p x : Float) (r : Entry) → c ≡ Ok (C.Quantized q p x) → z ≡ q
      → r ≡ noted e (record { field = at.field; axis = at.axis; place = at.place; physical = p; database = z; error = x }) → GivesValue e (outcome at c) (valued z r)
  unfolding run noted_all
  value-quantized q z p x r g i h =
      record {
        is = ap₂ valued i (h ∙ ap (λ (y : ℤ). noted e (deviation y)) i) ∙ ap answer (sym g);
        grown = go r.count e.count (ap (λ (y : Entry). y.count) h ∙ noted-count e (deviation z));
      }
    where
      deviation : ℤ → Deviation
      deviation y = record { field = at.field; axis = at.axis; place = at.place; physical = p; database = y; error = x }

      go : (a b : ℕ) → a ≡ b + 1 → a ≤ b + 1
      go a b h = omega arith

-- the step in other words
pub same-values : {e : Entry} {m n : Made ℤ} {r : Result Valued Refusal} → m ≡ n → GivesValue e m r → GivesValue e n r
same-values {e} {m} {n} {r} g v = subst (λ (o : Made ℤ). GivesValue e o r) g v

-- ---- a value, then what is left

module _ {R : Type 0} (stop : Refusal → R) {B : Type 0} (e : Entry) (m : Made ℤ) (f : ℤ → Made B) (k : B → Entry → R) where
  abbrev spread : Result Valued Refusal → R
  spread (Err x) = stop x
  spread (Ok v) = run stop v.entry (f v.value) k

  left : (r : Result Valued Refusal) → GivesValue e m r → spread r ≡ run stop e (m >>= f) k
  left r h = ap spread h.is ∙ run-through Err valued spread stop (λ q e'. run stop e' (f q) k) (λ x. refl) (λ q e'. refl) e m ∙ sym (run_bind stop e m f k)

  pub value-stops : (x : Refusal) → GivesValue e m (Err x) → stop x ≡ run stop e (m >>= f) k
  value-stops x h = left (Err x) h

  pub value-goes-on : (v : Valued) → GivesValue e m (Ok v) → run stop v.entry (f v.value) k ≡ run stop e (m >>= f) k
  value-goes-on v h = left (Ok v) h

-- ---- a point: each way out. a and b are what the machine reads back of the values.

module _ (f k : ℕ) (cx cy : Result Conversion Refusal) (e : Entry) where
  abbrev after : ℤ → Made (Point ℤ)
  after x = outcome (spot f y_axis k) cy >>= λ y. pure (record { x = x; y = y })

  pub point-stops : (x : Refusal) → GivesValue e (outcome (spot f x_axis k) cx) (Err x) → GivesPoint e (both f k cx cy) (Err x)
  unfolding both
  point-stops x h = record { is = value-stops Err e (outcome (spot f x_axis k) cx) after pointed x h; grown = tt }

  module _ (v : Valued) (h : GivesValue e (outcome (spot f x_axis k) cx) (Ok v)) where
    first : run Err v.entry (after v.value) pointed ≡ run Err e (both f k cx cy) pointed
    unfolding both
    first = value-goes-on Err e (outcome (spot f x_axis k) cx) after pointed v h

    pub point-stops-at-y : (y : Refusal) → GivesValue v.entry (outcome (spot f y_axis k) cy) (Err y) → GivesPoint e (both f k cx cy) (Err y)
    point-stops-at-y y j =
        record { is = value-stops Err v.entry (outcome (spot f y_axis k) cy) (λ y. pure (record { x = v.value; y = y })) pointed y j ∙ first; grown = tt }

    pub point-made : (w : Valued) (a b : ℤ) → GivesValue v.entry (outcome (spot f y_axis k) cy) (Ok w) → a ≡ v.value → b ≡ w.value
        → GivesPoint e (both f k cx cy) (pointed (record { x = a; y = b }) w.entry)
    point-made w a b j ha hb =
        record {
          is = ap₂ (λ (x y : ℤ). pointed (record { x = x; y = y }) w.entry) ha hb
              ∙ sym (run-pure Err w.entry (record { x = v.value; y = w.value }) pointed)
              ∙ value-goes-on Err v.entry (outcome (spot f y_axis k) cy) (λ y. pure (record { x = v.value; y = y })) pointed w j
              ∙ first;
          grown = go e.count v.entry.count w.entry.count h.grown j.grown;
        }
      where
        go : (a b c : ℕ) → b ≤ a + 1 → c ≤ b + 1 → c ≤ a + 2
        go a b c h k = omega arith

-- ---- a point with no deviation that counts leaves the entry as it is

pub plain-made : (f k : ℕ) (e : Entry) (cx cy : Result Conversion Refusal) (p : DatabasePoint) → Some p ≡ plain_of cx cy → GivesPoint e (both f k cx cy) (Ok (record { point = p; entry = e }))
unfolding both ◌>>=◌ run noted_all
plain-made f k e (Ok (C.Converted a)) (Ok (C.Converted b)) p g = record { is = cc; grown = omega arith }
plain-made f k e (Ok (C.Converted a)) (Err r) p g = cc
plain-made f k e (Ok (C.Converted a)) (Ok (C.Quantized q v i)) p g = cc
plain-made f k e (Err r) cy p g = cc
plain-made f k e (Ok (C.Quantized q v i)) cy p g = cc

-- ---- the point at a place, by the conversions of its coordinates

module _ (policy : GdsRoundingPolicy) (d : Float) (p : Point Unit) (cx cy : Result Conversion Refusal)
    (hx : (s : Spot) → outcome s cx ≡ convert_unit policy d s p.x) (hy : (s : Spot) → outcome s cy ≡ convert_unit policy d s p.y) (f k : ℕ) (e : Entry) where
  both_is : both f k cx cy ≡ write_point policy d f k p
  unfolding both write_point
  both_is = ap₂ (λ (m n : Made ℤ). m >>= λ x. n >>= λ y. pure (record { x = x; y = y })) (hx (spot f x_axis k)) (hy (spot f y_axis k))

  pub point-recorded : (r : Result Pointed Refusal) → GivesPoint e (both f k cx cy) r → GivesPoint e (write_point policy d f k p) r
  point-recorded r c = subst (λ (m : Made (Point ℤ)). GivesPoint e m r) both_is c

  pub point-plain : (q : DatabasePoint) → Some q ≡ plain_of cx cy → GivesPoint e (write_point policy d f k p) (Ok (record { point = q; entry = e }))
  point-plain q g = point-recorded _ (plain-made f k e cx cy q g)

-- ---- its bytes. z and w are what the machine reads back of x and y.

pub same_point : {x y z w : ℤ} {d cur : List ℕ} {at to : ℕ} → z ≡ x → w ≡ y → WroteAt (long_bytes z ++ long_bytes w) d cur at to → WroteAt (long_bytes x ++ long_bytes y) d cur at to
same_point i j v = same_bytes (ap₂ (λ (x y : ℤ). long_bytes x ++ long_bytes y) i j) v
