-- A coordinate by its place: one law for each way out of its check. Assumes nothing.
use mathlib.Core.Path.{◌≡◌, refl, ap, ◌∙◌}
use mathlib.Core.Bool.{Bool, true, false, cond, ◌&&◌}
use mathlib.Core.Option.{Option, none, some}
use mathlib.Core.List.{List}
use Prim.Native.Nat.{ℕ, ◌+◌, ◌*◌, ◌≤◌, ◌<◌}
use native.Mathlib.Omega.{arith}
use lib.Dec.{ltb, eqb}
use lib.ListN.{length, drop}
use mir.Val.{to_z}
use mir.Syntax.{w32}
use borrow.Author.Tests.{ltb-true, eqb-true, ne_eqb}
use Rattle.big_endian.specs.Big.{number_at}
use Rattle.big_endian.proofs.PlaceLaws.{number-eight}
use Rattle.units.specs.declared.Unit.{Unit}
use Rattle.units.specs.declared.Unit.TheVariants as U
use Rattle.parsing.specs.Parse.{Part, ill, part, IllFormed, ill_formed, pure, fail, follow, when, present}
use Rattle.sheet.specs.Form.{integer_kind, double_kind, absent_kind, coordinate_of, coordinate}
use Rattle.block_places.specs.code.Place.{double_at, unit_at, coordinate_at}
use Rattle.forms.specs.code.Checks.{given, Checked}
use Rattle.forms.proofs.Step.{on, num-at, when-is}

-- ---- a coordinate

module _ (b : List ℕ) (at : ℕ) (h : at + 17 ≤ length b) where
  coordinate-by : coordinate (drop at b) ≡ coordinate_of (number_at 1 b at) (number_at 8 b (at + 1)) (number_at 8 b (at + 9)) (drop (at + 17) b)
  unfolding coordinate
  coordinate-by =
      on _ _ (num-at 1 b at (at + 1) refl (omega arith))
      (on _ _ (num-at 8 b (at + 1) (at + 9) (omega arith) (omega arith))
      (on _ _ (num-at 8 b (at + 9) (at + 17) (omega arith) h) refl))

  -- "four zeros, then a signed 32-bit value": the value is that of the lower four bytes
  lower : number_at 8 b (at + 1) < 4294967296 → number_at 4 b (at + 5) ≡ number_at 8 b (at + 1)
  lower l = go (number_at 4 b (at + 1)) (number_at 4 b (at + 1 + 4)) (number_at 4 b (at + 5)) (number-eight b (at + 1) (omega arith)) (ap (number_at 4 b) five)
    where
      five : at + 1 + 4 ≡ at + 5
      five = omega arith

      go : (x y z : ℕ) → number_at 8 b (at + 1) ≡ x * 4294967296 + y → y ≡ z → z ≡ number_at 8 b (at + 1)
      go x y z e f = omega arith

  pub coordinate-integer : number_at 1 b at ≡ integer_kind → Checked coordinate b at (coordinate_at b at) (at + 17) (ltb (number_at 8 b (at + 1)) 4294967296)
  unfolding coordinate_of coordinate_at unit_at
  coordinate-integer e = record { is = coordinate-by ∙ rw e (go (ltb (number_at 8 b (at + 1)) 4294967296) refl) }
    where
      go : (t : Bool) → ltb (number_at 8 b (at + 1)) 4294967296 ≡ t
          → when ill_formed t (pure (some (U.Integer (to_z w32 (number_at 8 b (at + 1))) (double_at b (at + 9))))) (drop (at + 17) b)
          ≡ cond t (part (some (U.Integer (to_z w32 (number_at 4 b (at + 5))) (double_at b (at + 9)))) (drop (at + 17) b)) (ill ill_formed)
      go true q = rw (lower (ltb-true (number_at 8 b (at + 1)) 4294967296 q))
      go false q = refl

  -- "absent means 16 zero bytes follow"
  pub coordinate-absent : number_at 1 b at ≡ absent_kind → number_at 8 b (at + 1) ≡ 0 → Checked coordinate b at (coordinate_at b at) (at + 17) (eqb (number_at 8 b (at + 9)) 0)
  unfolding coordinate_of coordinate_at
  coordinate-absent e f = record { is = coordinate-by ∙ rw (e, f) (when-is (eqb (number_at 8 b (at + 9)) 0) none (drop (at + 17) b)) }

  pub coordinate-valued : number_at 1 b at ≡ absent_kind → (number_at 8 b (at + 1) ≡ 0 → ⊥) → Checked coordinate b at (coordinate_at b at) (at + 17) false
  unfolding coordinate_of
  coordinate-valued e f = record { is = coordinate-by ∙ rw (e, ne_eqb (number_at 8 b (at + 1)) 0 f) }

  pub coordinate-other : (number_at 1 b at ≡ integer_kind → ⊥) → (number_at 1 b at ≡ absent_kind → ⊥)
      → Checked coordinate b at (coordinate_at b at) (at + 17) (eqb (number_at 1 b at) double_kind)
  unfolding coordinate_of coordinate_at unit_at
  coordinate-other x y =
      record { is = coordinate-by ∙ rw (ne_eqb (number_at 1 b at) integer_kind x, ne_eqb (number_at 1 b at) absent_kind y) (go (eqb (number_at 1 b at) double_kind)) }
    where
      go : (t : Bool) → cond t (pure (some (U.Float (double_at b (at + 1)) (double_at b (at + 9))))) (fail ill_formed) (drop (at + 17) b)
          ≡ cond t (part (some (U.Float (double_at b (at + 1)) (double_at b (at + 9)))) (drop (at + 17) b)) (ill ill_formed)
      go true = refl
      go false = refl

  pub given-absent : eqb (number_at 1 b at) absent_kind ≡ true → Checked given b at (unit_at b at) (at + 17) false
  unfolding coordinate_of
  given-absent e =
      record {
        is =
            ap (λ (z : Part IllFormed ℕ (Option Unit)). follow z (present ill_formed)) coordinate-by
            ∙ rw (eqb-true (number_at 1 b at) absent_kind e) (go (eqb (number_at 8 b (at + 1)) 0 && eqb (number_at 8 b (at + 9)) 0));
      }
    where
      go : (t : Bool) → follow (when ill_formed t (pure {A = Option Unit} none) (drop (at + 17) b)) (present ill_formed) ≡ ill ill_formed
      go true = refl
      go false = refl
