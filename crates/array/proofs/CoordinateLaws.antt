-- Two coordinates in a row: physical values, values on the grid, and endpoints. Assumes nothing.
use mathlib.Core.Path.{◌≡◌, refl, ap, ap₂, ◌∙◌}
use mathlib.Core.Bool.{Bool, true, false}
use mathlib.Core.List.{[], ◌++◌}
use Prim.Native.Nat.{ℕ}
use lib.IntN.{ℤ}
use lib.Ieee.{Float}
use lib.Ieee.Scale.{finite}
use Rattle.std.specs.Prelude.{Result, Ok, Err}
use Rattle.refusal.specs.declared.Refusal.{Refusal}
use Rattle.refusal.specs.declared.Refusal.TheVariants as R
use Rattle.units.specs.declared.Unit as U
use Rattle.units.specs.Point.{Point, endpoint}
use Rattle.conversion.specs.declared.Conversion.{Conversion}
use Rattle.conversion.specs.declared.Conversion.TheVariants as C
use Rattle.conversion.specs.declared.Entry.{Entry}
use Rattle.conversion.specs.declared.GdsRoundingPolicy.{GdsRoundingPolicy}
use Rattle.conversion.specs.Array.{physical_point, endpoint_physical, write_physical, write_endpoint}
use Rattle.conversion.specs.Convert.{Spot, in_range, ranged, deviations, physical_value, convert_physical, array_endpoint}
use Rattle.conversion.specs.Field.{x_axis, y_axis}
use Rattle.conversion.specs.code.Answer.{outcome}
use Rattle.conversion.specs.code.Fold.{noted_all, run}
use Rattle.conversion.specs.Made.{Made, Done, refused, made, pure, need, ◌>>=◌, ◌>>◌}
use Rattle.conversion.specs.Points.{spot}
use Rattle.conversion.proofs.MadeLaws.{refused-on, pure-on}
use Rattle.steps.proofs.StepLaws.{run-through}
use Rattle.coordinate.specs.declared.Pointed.{Pointed}
use Rattle.coordinate.specs.code.Coordinate.{pointed, GivesPoint, both}
use Rattle.array.specs.declared.Converted.{Converted}
use Rattle.array.specs.code.Corners.{at_physical, converted, GivesArrayPoint, end_of, Ends}

-- ---- physical values

module _ (p : Point U.Unit) where
  abbrev with-y : Float → Made (Point Float)
  with-y x = physical_value p.y >>= λ y. pure (record { x = x; y = y })

  pub physical-x-refused : (r : Refusal) → refused r ≡ physical_value p.x → refused r ≡ physical_point p
  unfolding physical_point
  physical-x-refused r h = refused-on (physical_value p.x) with-y r h

  module _ (x : Float) (h : pure x ≡ physical_value p.x) where
    first : with-y x ≡ physical_point p
    unfolding physical_point
    first = pure-on (physical_value p.x) with-y x h

    pub physical-y-refused : (r : Refusal) → refused r ≡ physical_value p.y → refused r ≡ physical_point p
    physical-y-refused r i = refused-on (physical_value p.y) (λ y. pure (record { x = x; y = y })) r i ∙ first

    pub physical-both : (y : Float) → pure y ≡ physical_value p.y → pure (record { x = x; y = y }) ≡ physical_point p
    physical-both y i = pure-on (physical_value p.y) (λ y. pure (record { x = x; y = y })) y i ∙ first

-- ---- two coordinates, the first of which may stop before the second is asked, and the second after it

module _ {A : Type 0} (g : ℤ → ℤ → A) (at : Spot) (m n : Made ℤ) (r : Refusal) where
  pub x-stops : refused r ≡ m → refused r ≡ (m >>= λ x. n >>= λ y. pure (g x y))
  x-stops h = refused-on m (λ x. n >>= λ y. pure (g x y)) r h

  pub y-stops : (c : Conversion) → outcome at (Ok c) ≡ m → refused r ≡ n → refused r ≡ (m >>= λ x. n >>= λ y. pure (g x y))
  unfolding ◌>>=◌
  y-stops (C.Converted q) h k = ap₂ (λ (m n : Made ℤ). m >>= λ x. n >>= λ y. pure (g x y)) h k
  y-stops (C.Quantized q p t) h k = ap₂ (λ (m n : Made ℤ). m >>= λ x. n >>= λ y. pure (g x y)) h k

-- ---- a point on the grid, by the conversions of its coordinates

module _ (policy : GdsRoundingPolicy) (d : Float) (f : ℕ) (p : Point Float) (e : Entry) (r : Refusal) where
  stopped : refused r ≡ write_physical policy d f p → GivesArrayPoint e p (write_physical policy d f p) (Err r)
  unfolding run
  stopped h = record { is = ap (λ (m : Made (Point ℤ)). run Err e m (converted p)) h; grown = tt }

  pub physical-x-stops : refused r ≡ convert_physical policy d (spot f x_axis 0) p.x → GivesArrayPoint e p (write_physical policy d f p) (Err r)
  unfolding write_physical
  physical-x-stops h = stopped (x-stops (λ x y. record { x = x; y = y }) (spot f x_axis 0) _ _ r h)

  pub physical-y-stops : (c : Conversion) → outcome (spot f x_axis 0) (Ok c) ≡ convert_physical policy d (spot f x_axis 0) p.x
      → refused r ≡ convert_physical policy d (spot f y_axis 0) p.y → GivesArrayPoint e p (write_physical policy d f p) (Err r)
  unfolding write_physical
  physical-y-stops c h k = stopped (y-stops (λ x y. record { x = x; y = y }) (spot f x_axis 0) _ _ r c h k)

module _ (policy : GdsRoundingPolicy) (d : Float) (f : ℕ) (p : Point Float) (e : Entry) (cx cy : Result Conversion Refusal)
    (hx : (s : Spot) → outcome s cx ≡ convert_physical policy d s p.x) (hy : (s : Spot) → outcome s cy ≡ convert_physical policy d s p.y) where
  both-physical : both f 0 cx cy ≡ write_physical policy d f p
  unfolding both write_physical
  both-physical = ap₂ (λ (m n : Made ℤ). m >>= λ x. n >>= λ y. pure (record { x = x; y = y })) (hx (spot f x_axis 0)) (hy (spot f y_axis 0))

  abbrev with-physical : Result Pointed Refusal → Result Converted Refusal
  with-physical (Err x) = Err x
  with-physical (Ok v) = Ok (record { point = record { physical = at_physical p; database = v.point }; entry = v.entry })

  through : (r : Result Pointed Refusal) → GivesPoint e (both f 0 cx cy) r → with-physical r ≡ run Err e (write_physical policy d f p) (converted p)
  through r h =
      ap with-physical (h.is ∙ ap (λ (m : Made (Point ℤ)). run Err e m pointed) both-physical)
      ∙ run-through Err pointed with-physical Err (converted p) (λ x. refl) (λ q e'. refl) e (write_physical policy d f p)

  pub point-stops : (x : Refusal) → GivesPoint e (both f 0 cx cy) (Err x) → GivesArrayPoint e p (write_physical policy d f p) (Err x)
  point-stops x h = record { is = through (Err x) h; grown = tt }

  pub point-made : (v : Pointed) → GivesPoint e (both f 0 cx cy) (Ok v) → GivesArrayPoint e p (write_physical policy d f p) (with-physical (Ok v))
  point-made v h = record { is = through (Ok v) h; grown = h.grown }

-- ---- an endpoint: where it is not refused, it is n steps a from the origin o

module _ (d : Float) (at : Spot) (o a : ℤ) (n : ℕ) (p : Float) (e : Entry) where
  answers : (t u : Bool)
      → run (λ (x : Refusal). endpoint o a n) e (need t R.NotFinite >> ((need u R.OutOfRange >> pure (endpoint o a n)) >>= λ q. made q (deviations d at p q))) (λ q e'. q) ≡ endpoint o a n
  unfolding run need ◌>>◌ ◌>>=◌
  answers true true = refl
  answers true false = refl
  answers false u = refl

  endpoint-answers : run (λ (x : Refusal). endpoint o a n) e (array_endpoint d at o a n p) (λ q e'. q) ≡ endpoint o a n
  unfolding array_endpoint ranged
  endpoint-answers = answers (finite p) (in_range (endpoint o a n))

-- z and w are what the machine reads back of the origin and the step, p is the physical value
pub same-endpoint : (d : Float) (at : Spot) (n : ℕ) (z o w a : ℤ) (p q : Float) → z ≡ o → w ≡ a → p ≡ q → array_endpoint d at z w n p ≡ array_endpoint d at o a n q
same-endpoint d at n z o w a p q f g h = ap₂ (λ (z w : ℤ). array_endpoint d at z w n p) f g ∙ ap (array_endpoint d at o a n) h

-- two steps that make the values of one point only
only : (e : Entry) (m n : Made ℤ) (q : Point ℤ) → run (λ (x : Refusal). q.x) e m (λ z e'. z) ≡ q.x → run (λ (x : Refusal). q.y) e n (λ z e'. z) ≡ q.y
    → run Err e (m >>= λ x. n >>= λ y. pure (record { x = x; y = y })) pointed ≡ run Err e (m >>= λ x. n >>= λ y. pure tt) (λ (t : Done) e'. pointed q e')
unfolding run ◌>>=◌
only e (refused r) n q h k = refl
only e (made a vs) (refused r) q h k = refl
only e (made a vs) (made b ws) q h k = ap₂ (λ (x y : ℤ). pointed (record { x = x; y = y }) (noted_all e (vs ++ (ws ++ [])))) h k

module _ (policy : GdsRoundingPolicy) (d : Float) (f : ℕ) (o a : Point ℤ) (n : ℕ) (po pa : Point Float) (e : Entry) where
  abbrev end-x : Made ℤ
  end-x = array_endpoint d (spot f x_axis 0) o.x a.x n (endpoint_physical pa.x n po.x)

  abbrev end-y : Made ℤ
  end-y = array_endpoint d (spot f y_axis 0) o.y a.y n (endpoint_physical pa.y n po.y)

  pub end-x-stops : (r : Refusal) → refused r ≡ end-x → Ends e (end_of o a n) (write_endpoint policy d f o a n po pa) (Err r)
  unfolding run write_endpoint
  end-x-stops r h = record { is = ap (λ (m : Made Done). run Err e m (λ t e'. pointed (end_of o a n) e')) (x-stops (λ x y. tt) (spot f x_axis 0) end-x end-y r h); grown = tt }

  pub end-y-stops : (r : Refusal) (c : Conversion) → outcome (spot f x_axis 0) (Ok c) ≡ end-x → refused r ≡ end-y → Ends e (end_of o a n) (write_endpoint policy d f o a n po pa) (Err r)
  unfolding run write_endpoint
  end-y-stops r c h k = record { is = ap (λ (m : Made Done). run Err e m (λ t e'. pointed (end_of o a n) e')) (y-stops (λ x y. tt) (spot f x_axis 0) end-x end-y r c h k); grown = tt }

  module _ (cx cy : Result Conversion Refusal) where
    pub end-recorded : outcome (spot f x_axis 0) cx ≡ end-x → outcome (spot f y_axis 0) cy ≡ end-y
        → (r : Result Pointed Refusal) → GivesPoint e (both f 0 cx cy) r → Ends e (end_of o a n) (write_endpoint policy d f o a n po pa) r
    unfolding both write_endpoint
    end-recorded hx hy r h =
        record {
          is = h.is
              ∙ ap₂ (λ (m n : Made ℤ). run Err e (m >>= λ x. n >>= λ y. pure (record { x = x; y = y })) pointed) hx hy
              ∙ only e end-x end-y (end_of o a n)
              (endpoint-answers d (spot f x_axis 0) o.x a.x n (endpoint_physical pa.x n po.x) e)
              (endpoint-answers d (spot f y_axis 0) o.y a.y n (endpoint_physical pa.y n po.y) e);
          grown = h.grown;
        }
