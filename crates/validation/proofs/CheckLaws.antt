-- The checks before the points: each way out, what they say of a shape that passes them, and what is left of a step after them. Assumes nothing.
use mathlib.Core.Path.{◌≡◌, refl, sym, ◌∙◌}
use mathlib.Core.Bool.{Bool, true, false, ◌&&◌}
use Prim.Native.Nat.{ℕ, ◌≤◌}
use native.Mathlib.Omega.{arith}
use lib.Dec.{leb}
use lib.Ieee.Bits.{is_true}
use borrow.Author.Tests.{leb-true}
use Rattle.refusal.specs.declared.Refusal.{Refusal}
use Rattle.refusal.specs.declared.Refusal.TheVariants as R
use Rattle.conversion.specs.Made.{Made, Done, refused, pure, need, ◌>>=◌, ◌>>◌}
use Rattle.conversion.proofs.MadeLaws.{Yields, checked, then-steps, need-on, need-off, refused-on, pure-on, then-assoc, both-passed}
use Rattle.cell.specs.Limits.{within, max_layer, max_data_type}
use Rattle.cell.specs.Write.{layer_and_type}
use Rattle.validation.specs.code.Check.{shape_checks}

-- layer and type that are not refused have passed
pub both-yield : (layer datatype : ℕ) {u : Done} → Yields (layer_and_type layer datatype) u → pure tt ≡ layer_and_type layer datatype
unfolding layer_and_type
both-yield layer datatype y = both-passed (leb layer max_layer) (leb datatype max_data_type) R.LayerOrType R.LayerOrType y

-- ---- and before them the number of points

module _ (least n most layer datatype : ℕ) where
  pub count-stops : within least n most ≡ false → refused R.PointCount ≡ shape_checks least n most layer datatype
  unfolding shape_checks
  count-stops h = sym (need-off (within least n most) R.PointCount _ h)

  pub counted : within least n most ≡ true → shape_checks least n most layer datatype ≡ layer_and_type layer datatype
  unfolding shape_checks
  counted h = need-on (within least n most) R.PointCount _ h

  -- passed, the points are as many as they may be
  pub passed-within : pure tt ≡ shape_checks least n most layer datatype → (least ≤ n) × (n ≤ most)
  unfolding shape_checks need ◌>>◌ ◌>>=◌
  passed-within h = go (leb least n) (leb n most) refl refl h
    where
      go : (s t : Bool) → leb least n ≡ s → leb n most ≡ t → pure tt ≡ (need (s && t) R.PointCount >> layer_and_type layer datatype) → (least ≤ n) × (n ≤ most)
      go true true a b e = (leb-true least n a, leb-true n most b)
      go true false a b e = let z : ◌≡◌ {A = ℕ} 0 1 = cc in absurd (omega arith)
      go false t a b e = let z : ◌≡◌ {A = ℕ} 0 1 = cc in absurd (omega arith)

  -- the checks in front of a step, as they stand in the definitions
  module _ {A : Type 0} (m : Made A) where
    abbrev pub behind : Made A
    behind = need (within least n most) R.PointCount >> (layer_and_type layer datatype >> m)

    -- and as one
    regroup : shape_checks least n most layer datatype >> m ≡ behind
    unfolding shape_checks
    regroup = then-assoc (need (within least n most) R.PointCount) (layer_and_type layer datatype) m

    pub behind-refused : (x : Refusal) → refused x ≡ shape_checks least n most layer datatype → refused x ≡ behind
    unfolding ◌>>◌
    behind-refused x h = refused-on (shape_checks least n most layer datatype) (λ u. m) x h ∙ regroup

    pub behind-passed : pure tt ≡ shape_checks least n most layer datatype → m ≡ behind
    unfolding ◌>>◌
    behind-passed h = pure-on (shape_checks least n most layer datatype) (λ u. m) tt h ∙ regroup

    -- a step that is not refused behind them has passed them
    pub behind-yields : {a : A} → Yields behind a → pure tt ≡ shape_checks least n most layer datatype
    behind-yields y =
        let count = checked R.PointCount y in
        both-yield layer datatype (then-steps count.then).first ∙ sym (counted (is_true _ count.passed))
