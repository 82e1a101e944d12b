-- A conversion put together from its parts, each way out of the code. Assumes nothing.
use mathlib.Core.Path.{◌≡◌, refl, sym, ap, ◌∙◌}
use mathlib.Core.Bool.{Bool, true, false, cond}
use mathlib.Core.Option.{none, some}
use Prim.Native.Nat.{ℕ}
use lib.IntN.{ℤ}
use lib.Ieee.{Float, nan, inf, fin, binary64, eq, div}
use lib.Ieee.Scale.{finite}
use lib.Ieee.Positive.{positive}
use Rattle.refusal.specs.declared.Refusal.{Refusal}
use Rattle.refusal.specs.declared.Refusal.TheVariants as R
use Rattle.units.specs.declared.Unit.{Unit}
use Rattle.units.specs.declared.Unit.TheVariants as U
use Rattle.units.specs.Point.{endpoint}
use Rattle.units.specs.Physical.{units_of, physical, passed}
use Rattle.conversion.specs.declared.GdsRoundingPolicy.{GdsRoundingPolicy}
use Rattle.conversion.specs.Made.{refused, made, pure, ◌>>=◌}
use Rattle.conversion.specs.Convert.{Spot, deviations, ranged, grid_value, database_value, convert_physical, physical_value, convert_by, convert_unit, array_endpoint}
use Rattle.conversion.proofs.MadeLaws.{need-on, need-off, refused-on, pure-on}

-- ---- the database value

-- p is finite where p / d is
finite-quotient : (d p : Float) → finite (div binary64 p d) ≡ true → finite p ≡ true
unfolding div
finite-quotient d nan h = h
finite-quotient nan (inf s) h = h
finite-quotient (inf t) (inf s) h = h
finite-quotient (fin t m e) (inf s) h = h
finite-quotient d (fin s m e) h = refl

pub value-finite : (policy : GdsRoundingPolicy) (d p : Float) → finite (div binary64 p d) ≡ true → grid_value policy (div binary64 p d) ≡ database_value policy d p
unfolding database_value
value-finite policy d p h = sym (need-on (finite p) R.NotFinite _ (finite-quotient d p h) ∙ need-on (finite (div binary64 p d)) R.NotFinite _ h)

value-not-finite : (policy : GdsRoundingPolicy) (d p : Float) → finite p ≡ false → refused R.NotFinite ≡ database_value policy d p
unfolding database_value
value-not-finite policy d p h = sym (need-off (finite p) R.NotFinite _ h)

pub value-infinite : (policy : GdsRoundingPolicy) (d p : Float) → finite (div binary64 p d) ≡ false → refused R.NotFinite ≡ database_value policy d p
unfolding database_value
value-infinite policy d p h = go (finite p) refl
  where
    go : (t : Bool) → finite p ≡ t → refused R.NotFinite ≡ database_value policy d p
    go true e = sym (need-on (finite p) R.NotFinite _ e ∙ need-off (finite (div binary64 p d)) R.NotFinite _ h)
    go false e = value-not-finite policy d p e

-- ---- a value and then its deviation

module _ (policy : GdsRoundingPolicy) (d p : Float) (at : Spot) where
  pub physical-refused : (r : Refusal) → refused r ≡ database_value policy d p → refused r ≡ convert_physical policy d at p
  unfolding convert_physical
  physical-refused r h = refused-on (database_value policy d p) _ r h

  pub physical-made : (q : ℤ) → pure q ≡ database_value policy d p → made q (deviations d at p q) ≡ convert_physical policy d at p
  unfolding convert_physical
  physical-made q h = pure-on (database_value policy d p) (λ q. made q (deviations d at p q)) q h

-- ---- a coordinate

module _ (u : Unit) where
  pub physical-source : positive (units_of u) ≡ false → refused R.SourceUnit ≡ physical_value u
  unfolding physical_value
  physical-source h = sym (need-off (positive (units_of u)) R.SourceUnit _ h)

  pub physical-finite : positive (units_of u) ≡ true → (p : Float) → p ≡ physical u → finite p ≡ true → pure p ≡ physical_value u
  unfolding physical_value
  physical-finite h p e k =
      ap (λ (x : Float). pure x) e ∙ sym (need-on (positive (units_of u)) R.SourceUnit _ h ∙ need-on (finite (physical u)) R.NotFinite _ (ap finite (sym e) ∙ k))

  pub physical-infinite : positive (units_of u) ≡ true → (p : Float) → p ≡ physical u → finite p ≡ false → refused R.NotFinite ≡ physical_value u
  unfolding physical_value
  physical-infinite h p e k = sym (need-on (positive (units_of u)) R.SourceUnit _ h ∙ need-off (finite (physical u)) R.NotFinite _ (ap finite (sym e) ∙ k))

-- what does not pass unchanged
module _ (d : Float) (u : Unit) where
  pub integer-stays : (v : ℤ) (w : Float) → u ≡ U.Integer v w → eq w d ≡ false → passed d u ≡ none
  unfolding passed
  integer-stays v w e h = ap (passed d) e ∙ rw h

  pub float-stays : (v w : Float) → u ≡ U.Float v w → passed d u ≡ none
  unfolding passed
  float-stays v w e = ap (passed d) e

module _ (policy : GdsRoundingPolicy) (d : Float) (at : Spot) (u : Unit) where
  -- z is what the machine reads of v
  pub unit-passes : (v z : ℤ) (w : Float) → u ≡ U.Integer v w → z ≡ v → eq w d ≡ true → pure z ≡ convert_unit policy d at u
  unfolding convert_unit convert_by passed
  unit-passes v z w e f h =
      ap (λ (y : ℤ). pure y) f
      ∙ ap (λ (t : Bool). convert_by policy d at (U.Integer v w) (cond t (some v) none)) (sym h)
      ∙ ap (convert_unit policy d at) (sym e)

  by-none : passed d u ≡ none → convert_by policy d at u none ≡ convert_unit policy d at u
  unfolding convert_unit
  by-none h = ap (convert_by policy d at u) (sym h)

  pub by-source : passed d u ≡ none → positive (units_of u) ≡ false → refused R.SourceUnit ≡ convert_unit policy d at u
  unfolding convert_by
  by-source n h = refused-on (physical_value u) (convert_physical policy d at) R.SourceUnit (physical-source u h) ∙ by-none n

  -- one test refuses what is not finite: where p is not, its quotient is not
  pub by-positive : passed d u ≡ none → positive (units_of u) ≡ true → convert_physical policy d at (physical u) ≡ convert_unit policy d at u
  unfolding convert_by
  by-positive n h = go (finite (physical u)) refl ∙ by-none n
    where
      go : (t : Bool) → finite (physical u) ≡ t → convert_physical policy d at (physical u) ≡ convert_by policy d at u none
      go true e = pure-on (physical_value u) (convert_physical policy d at) (physical u) (physical-finite u h (physical u) refl e)
      go false e =
          sym (physical-refused policy d (physical u) at R.NotFinite (value-not-finite policy d (physical u) e))
          ∙ refused-on (physical_value u) (convert_physical policy d at) R.NotFinite (physical-infinite u h (physical u) refl e)

-- ---- an endpoint; z is its whole number

module _ (d : Float) (at : Spot) (o a : ℤ) (n : ℕ) (p : Float) where
  pub endpoint-infinite : finite p ≡ false → refused R.NotFinite ≡ array_endpoint d at o a n p
  unfolding array_endpoint
  endpoint-infinite h = sym (need-off (finite p) R.NotFinite _ h)

  module _ (h : finite p ≡ true) (z : ℤ) (e : z ≡ endpoint o a n) where
    on : (ranged (endpoint o a n) >>= λ q. made q (deviations d at p q)) ≡ array_endpoint d at o a n p
    unfolding array_endpoint
    on = sym (need-on (finite p) R.NotFinite _ h)

    pub endpoint-refused : (r : Refusal) → refused r ≡ ranged z → refused r ≡ array_endpoint d at o a n p
    endpoint-refused r k = refused-on (ranged (endpoint o a n)) _ r (k ∙ ap ranged e) ∙ on

    pub endpoint-made : (q : ℤ) → pure q ≡ ranged z → made q (deviations d at p q) ≡ array_endpoint d at o a n p
    endpoint-made q k = pure-on (ranged (endpoint o a n)) (λ q. made q (deviations d at p q)) q (k ∙ ap ranged e) ∙ on
