-- Clauses of cell/specs/Draws that no structure of the writer's comes near: what is not finite, a reference of one as an array, an array as one reference. Each is broken alone. Assumes nothing.
use mathlib.Core.Path.{◌≡◌}
use mathlib.Core.Bool.{Bool, not}
use mathlib.Core.Option.{none}
use Prim.Native.Nat.{ℕ}
use lib.Dec.{T, T_not}
use lib.IntN.{ℤ}
use lib.Ieee.{Float}
use lib.Ieee.Scale.{finite}
use Rattle.conversion.specs.declared.GdsRoundingPolicy.{GdsRoundingPolicy}
use Rattle.sheet.specs.Element.{Reference}
use Rattle.stream.specs.Structure.{Sref, Aref}
use Rattle.stream.specs.Drawn.{Transform}
use Rattle.cell.specs.Draws.{AlikeBy, AlikeTransform, AlikeInstances, AlikeSref, AlikeAref}

-- ---- what is not finite is alike to nothing

pub magnification-finite : (r : Bool) (m a : Float) (t : Transform) → T (not (finite m)) → AlikeTransform r m a t → ⊥
magnification-finite r m a t n h = T_not (finite m) n h.magnification_finite

pub degrees-finite : (r : Bool) (m a : Float) (t : Transform) → T (not (finite a)) → AlikeTransform r m a t → ⊥
degrees-finite r m a t n h = T_not (finite a) n h.degrees_finite

module _ (r : GdsRoundingPolicy) (d : Float) where
  -- a coordinate that does not pass unchanged
  pub coordinate-finite : (p : Float) (q : ℤ) → T (not (finite p)) → AlikeBy r d none p q → ⊥
  coordinate-finite p q n h = T_not (finite p) n h.0

  module _ (columns rows : ℕ) (po pa pb : Float) (o a b : ℤ) where
    pub origin-finite : T (not (finite po)) → AlikeInstances r d columns rows po pa pb o a b → ⊥
    origin-finite n h = T_not (finite po) n h.origin_finite

    pub column-finite : T (not (finite pa)) → AlikeInstances r d columns rows po pa pb o a b → ⊥
    column-finite n h = T_not (finite pa) n h.column_finite

    pub row-finite : T (not (finite pb)) → AlikeInstances r d columns rows po pa pb o a b → ⊥
    row-finite n h = T_not (finite pb) n h.row_finite

  -- ---- "An SREF is 1 × 1"; "a reference not 1 × 1 is an array"

  module _ (e : Reference) where
    pub no-array : (w : Aref Transform) → e.columns ≡ 1 → e.rows ≡ 1 → AlikeAref r d e w → ⊥
    no-array w c k h = h.array (c, k)

    pub several-columns : (w : Sref Transform) → (e.columns ≡ 1 → ⊥) → AlikeSref r d e w → ⊥
    several-columns w n h = n h.columns

    pub several-rows : (w : Sref Transform) → (e.rows ≡ 1 → ⊥) → AlikeSref r d e w → ⊥
    several-rows w n h = n h.rows
