-- A coordinate's value is the same in every place of an element, so that a box's five points are those of two corners, and closed. Assumes nothing.
use mathlib.Core.Path.{◌≡◌, refl, sym, ap₂, ◌∙◌, subst}
use mathlib.Core.Bool.{Bool, true, ◌&&◌}
use mathlib.Core.Option.{Option, none, some}
use mathlib.Core.List.{List, [], ◌∷◌}
use Prim.Native.Nat.{ℕ, suc}
use lib.Dec.{T}
use lib.IntN.{ℤ}
use lib.Ieee.{Float}
use Rattle.gds_format.proofs.DecodeLaws.{same-own}
use Rattle.units.specs.declared.Unit.{Unit}
use Rattle.units.specs.Point.{Point}
use Rattle.units.specs.Physical.{passed}
use Rattle.conversion.specs.declared.GdsRoundingPolicy.{GdsRoundingPolicy}
use Rattle.conversion.specs.Made.{Made}
use Rattle.conversion.specs.Convert.{Spot, convert_physical, convert_by, convert_unit}
use Rattle.conversion.specs.Points.{write_point, write_points}
use Rattle.conversion.proofs.MadeLaws.{Yields, made_yields, steps}
use Rattle.cell.specs.Write.{same_point, closed, box_points}
use Rattle.cell.specs.Draws.{Each, done, more, outline}
use Rattle.cell.specs.Boxes.{BoxCloses}

pub own-point : (p : Point ℤ) → same_point p p ≡ true
own-point p = ap₂ (λ (s t : Bool). s && t) (same-own p.x) (same-own p.y)

-- a step yields one value
one_value : {A : Type 0} {m : Made A} {a b : A} → Yields m a → Yields m b → a ≡ b
one_value {A} {m} {a} {b} y z = made_yields (subst (λ (n : Made A). Yields n b) y.is z)

module _ (policy : GdsRoundingPolicy) (d : Float) where
  -- ---- one coordinate

  physical-same : (s t : Spot) (p : Float) (a b : ℤ) → Yields (convert_physical policy d s p) a → Yields (convert_physical policy d t p) b → a ≡ b
  unfolding convert_physical
  physical-same s t p a b y z =
      let k = steps y in
      let l = steps z in
      sym (made_yields k.then) ∙ one_value k.first l.first ∙ made_yields l.then

  value_same : (s t : Spot) (u : Unit) (a b : ℤ) → Yields (convert_unit policy d s u) a → Yields (convert_unit policy d t u) b → a ≡ b
  unfolding convert_unit convert_by
  value_same s t u a b y z = go (passed d u) y z
    where
      go : (v : Option ℤ) → Yields (convert_by policy d s u v) a → Yields (convert_by policy d t u v) b → a ≡ b
      go (some v) y z = sym (made_yields y) ∙ made_yields z
      go none y z =
          let k = steps y in
          let l = steps z in
          physical-same s t k.value a b k.then (subst (λ (p : Float). Yields (convert_physical policy d t p) b) (one_value l.first k.first) l.then)

  -- a coordinate and its value, which it has in some spot and so in all
  record Valued (u : Unit) (q : ℤ) : Type 0 where
    spot : Spot
    yields : Yields (convert_unit policy d spot u) q

  valued_same : {u : Unit} {a b : ℤ} → Valued u a → Valued u b → a ≡ b
  valued_same {u} {a} {b} v w = value_same v.spot w.spot u a b v.yields w.yields

  -- ---- points

  pub record Converted (p : Point Unit) (q : Point ℤ) : Type 0 where
    x : Valued p.x q.x
    y : Valued p.y q.y

  point-converted : (f k : ℕ) (p : Point Unit) (q : Point ℤ) → Yields (write_point policy d f k p) q → Converted p q
  unfolding write_point
  point-converted f k p q y =
      let k1 = steps y in
      let k2 = steps k1.then in
      subst (Converted p) (made_yields k2.then) (record { x = record { spot = _; yields = k1.first }; y = record { spot = _; yields = k2.first } })

  points-converted : (k : ℕ) (ps : List (Point Unit)) (qs : List (Point ℤ)) → Yields (write_points policy d k ps) qs → Each Converted ps qs
  unfolding write_points
  points-converted k [] qs y = subst (λ (z : List (Point ℤ)). Each Converted [] z) (made_yields y) done
  points-converted k (p ∷ ps) qs y =
      let k1 = steps y in
      let k2 = steps k1.then in
      subst (λ (z : List (Point ℤ)). Each Converted (p ∷ ps) z) (made_yields k2.then) (more (point-converted _ k p k1.value k1.first) (points-converted (suc k) ps k2.value k2.first))

  -- points are converted in one way
  points-same : {ps : List (Point Unit)} {qs rs : List (Point ℤ)} → Each Converted ps qs → Each Converted ps rs → qs ≡ rs
  points-same done done = refl
  points-same (more c cs) (more e es) =
      ap₂ (λ (q : Point ℤ) (s : List (Point ℤ)). q ∷ s) (ap₂ (λ (x y : ℤ). record { x = x; y = y }) (valued_same c.x e.x) (valued_same c.y e.y)) (points-same cs es)

  -- ---- a box

  -- the points ps are those of two corners of the grid
  pub record Cornered (ps : List (Point ℤ)) : Type 0 where
    pub corner : Point ℤ
    pub opposite : Point ℤ
    pub points : ps ≡ outline corner opposite

  -- its points are those that its corners' values give
  cornered : (p q : Point Unit) (a b : Point ℤ) (ps : List (Point ℤ)) → Converted p a → Converted q b → Each Converted (box_points p q) ps → Cornered ps
  cornered p q a b ps c e h = record {
    corner = a;
    opposite = b;
    points = points-same h (more c (more (record { x = e.x; y = c.y }) (more e (more (record { x = c.x; y = e.y }) (more c done)))));
  }

  box-converted : (p q : Point Unit) (ps : List (Point ℤ)) → Each Converted (box_points p q) ps → Cornered ps
  box-converted p q ps (more c (more m (more e h))) = cornered p q _ _ ps c e (more c (more m (more e h)))

  pub box-cornered : (p q : Point Unit) (ps : List (Point ℤ)) → Yields (write_points policy d 0 (box_points p q)) ps → Cornered ps
  box-cornered p q ps y = box-converted p q ps (points-converted 0 (box_points p q) ps y)

pub box_closes : BoxCloses
unfolding closed
box_closes policy d first second ps vs e =
    let c = box-cornered policy d first second ps (record { log = vs; is = e }) in
    subst (λ (s : List (Point ℤ)). T (closed s)) (sym c.points) (subst T (sym (own-point c.corner)) tt)
