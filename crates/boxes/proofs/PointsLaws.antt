-- The five points of a box, by the conversions of its corners' coordinates: each way out. Assumes nothing.
use mathlib.Core.Path.{◌≡◌, refl, sym, ap, ◌∙◌}
use mathlib.Core.List.{List, [], ◌∷◌}
use Prim.Native.Nat.{ℕ, suc}
use lib.IntN.{ℤ, pos}
use lib.Ieee.{Float}
use Rattle.std.specs.Prelude.{Result, Ok, Err, Some}
use Rattle.refusal.specs.declared.Refusal.{Refusal}
use Rattle.units.specs.declared.Unit.{Unit}
use Rattle.units.specs.Point.{Point}
use Rattle.conversion.specs.declared.Conversion.{Conversion}
use Rattle.conversion.specs.declared.Conversion.TheVariants as C
use Rattle.conversion.specs.declared.DatabasePoint.{DatabasePoint}
use Rattle.conversion.specs.declared.Entry.{Entry}
use Rattle.conversion.specs.declared.GdsRoundingPolicy.{GdsRoundingPolicy}
use Rattle.conversion.specs.Convert.{Spot, convert_unit}
use Rattle.conversion.specs.Field.{point_field}
use Rattle.conversion.specs.Made.{◌>>=◌}
use Rattle.conversion.specs.Points.{write_points}
use Rattle.conversion.specs.code.Answer.{outcome, grid_point_of}
use Rattle.conversion.specs.code.Fold.{run}
use Rattle.conversion.proofs.FoldLaws.{run-pure}
use Rattle.cell.specs.Write.{box_points}
use Rattle.coordinate.specs.declared.Pointed.{Pointed}
use Rattle.coordinate.specs.code.Coordinate.{GivesPoint, both, plain_of}
use Rattle.coordinate.proofs.ValueLaws.{point-recorded, plain-made}
use Rattle.coordinate.proofs.TurnLaws.{spread, others, first-met}
use Rattle.steps.specs.code.Ready.{Ready, stopped, ready}
use Rattle.boxes.specs.declared.Corners.{Corners}
use Rattle.boxes.specs.code.Box.{corners_of, Converted}

-- ---- one point

-- a coordinate's value, in every point where it stands
abbrev value_in : Result Conversion Refusal → ℤ
value_in (Err r) = pos 0
value_in (Ok (C.Converted q)) = q
value_in (Ok (C.Quantized q p e)) = q

abbrev point_in : Result Pointed Refusal → Point ℤ
point_in (Err r) = record { x = pos 0; y = pos 0 }
point_in (Ok v) = grid_point_of v.point

-- a point that is recorded has these
values : (place : ℕ) (e : Entry) (cx cy : Result Conversion Refusal) (v : Pointed) → GivesPoint e (both point_field place cx cy) (Ok v) → grid_point_of v.point ≡ record { x = value_in cx; y = value_in cy }
unfolding both ◌>>=◌ run
values k e (Err r) cy v g = let i = g.is in cc
values k e (Ok (C.Converted x)) (Err r) v g = let i = g.is in cc
values k e (Ok (C.Converted x)) (Ok (C.Converted y)) v g = ap point_in g.is
values k e (Ok (C.Converted x)) (Ok (C.Quantized y p t)) v g = ap point_in g.is
values k e (Ok (C.Quantized x p t)) (Err r) v g = let i = g.is in cc
values k e (Ok (C.Quantized x p t)) (Ok (C.Converted y)) v g = ap point_in g.is
values k e (Ok (C.Quantized x p t)) (Ok (C.Quantized y q u)) v g = ap point_in g.is

-- ---- the points in turn

-- of two coordinates each way
row : {p0 p1 p2 p3 p4 : Point ℤ} {x1 y1 x2 y2 : ℤ} → p0 ≡ record { x = x1; y = y1 } → p1 ≡ record { x = x2; y = y1 } → p2 ≡ record { x = x2; y = y2 } → p3 ≡ record { x = x1; y = y2 } → p4 ≡ record { x = x1; y = y1 }
    → (p0 ∷ p1 ∷ p2 ∷ p3 ∷ p4 ∷ []) ≡ box_points p0 p2
row h0 h1 h2 h3 h4 = rw (h0, h1, h2, h3, h4)

-- where neither coordinate of two points deviates, neither does that of one's x and the other's y
crossed : (cx cy dx dy : Result Conversion Refusal) (a b : DatabasePoint) → Some a ≡ plain_of cx cy → Some b ≡ plain_of dx dy → Some (record { x = a.x; y = b.y }) ≡ plain_of cx dy
crossed (Ok (C.Converted x)) (Ok (C.Converted y)) (Ok (C.Converted z)) (Ok (C.Converted w)) a b g h = cc
crossed (Ok (C.Converted x)) (Ok (C.Converted y)) (Ok (C.Converted z)) (Ok (C.Quantized w p t)) a b g h = cc
crossed (Ok (C.Converted x)) (Ok (C.Converted y)) (Ok (C.Converted z)) (Err r) a b g h = cc
crossed (Ok (C.Converted x)) (Ok (C.Converted y)) (Ok (C.Quantized z p t)) dy a b g h = cc
crossed (Ok (C.Converted x)) (Ok (C.Converted y)) (Err r) dy a b g h = cc
crossed (Ok (C.Converted x)) (Ok (C.Quantized y p t)) dx dy a b g h = cc
crossed (Ok (C.Converted x)) (Err r) dx dy a b g h = cc
crossed (Ok (C.Quantized x p t)) cy dx dy a b g h = cc
crossed (Err r) cy dx dy a b g h = cc

-- what is left of the whole: the points from place i on, after those that f puts before them
record Left (policy : GdsRoundingPolicy) (d : Float) (whole : Ready (List (Point ℤ))) (i : ℕ) (us : List (Point Unit)) (f : List (Point ℤ) → List (Point ℤ)) (e : Entry) : Type 0 where
  is : whole ≡ run stopped e (write_points policy d i us) (λ qs e'. ready (f qs) e')

-- one more of them
module _ {policy : GdsRoundingPolicy} {d : Float} {whole : Ready (List (Point ℤ))} {i : ℕ} {u : Point Unit} {us : List (Point Unit)} {f : List (Point ℤ) → List (Point ℤ)} {e : Entry}
    (l : Left policy d whole i (u ∷ us) f e) (cx cy : Result Conversion Refusal)
    (hx : (s : Spot) → outcome s cx ≡ convert_unit policy d s u.x) (hy : (s : Spot) → outcome s cy ≡ convert_unit policy d s u.y) where
  met : (r : Result Pointed Refusal) → GivesPoint e (both point_field i cx cy) r → whole ≡ spread stopped (others stopped policy d e i u us (λ qs e'. ready (f qs) e')) r
  met r g = l.is ∙ first-met stopped policy d e i u us (λ qs e'. ready (f qs) e') r (point-recorded policy d u cx cy hx hy point_field i e r g)

  stops : (x : Refusal) → GivesPoint e (both point_field i cx cy) (Err x) → stopped x ≡ whole
  stops x g = sym (met (Err x) g)

  goes_on : (v : Pointed) → GivesPoint e (both point_field i cx cy) (Ok v) → Left policy d whole (suc i) us (λ qs. f (grid_point_of v.point ∷ qs)) v.entry
  goes_on v g = record { is = met (Ok v) g }

-- of a box
module _ (policy : GdsRoundingPolicy) (d : Float) (p q : Point Unit) (c : Corners) (h : Converted policy d p q c) (e : Entry) where
  abbrev walk : Ready (List (Point ℤ))
  walk = run stopped e (write_points policy d 0 (box_points p q)) ready

  all : Left policy d walk 0 (box_points p q) (λ qs. qs) e
  all = record { is = refl }

  pub first-refused : (x : Refusal) → GivesPoint e (both point_field 0 c.x1 c.y1) (Err x) → stopped x ≡ walk
  first-refused = stops all c.x1 c.y1 h.x1 h.y1

  module _ (v0 : Pointed) (g0 : GivesPoint e (both point_field 0 c.x1 c.y1) (Ok v0)) where
    after-first : Left policy d walk 1 (record { x = q.x; y = p.y } ∷ q ∷ record { x = p.x; y = q.y } ∷ p ∷ []) (λ qs. grid_point_of v0.point ∷ qs) v0.entry
    after-first = goes_on all c.x1 c.y1 h.x1 h.y1 v0 g0

    pub second-refused : (x : Refusal) → GivesPoint v0.entry (both point_field 1 c.x2 c.y1) (Err x) → stopped x ≡ walk
    second-refused = stops after-first c.x2 c.y1 h.x2 h.y1

    module _ (v1 : Pointed) (g1 : GivesPoint v0.entry (both point_field 1 c.x2 c.y1) (Ok v1)) where
      after-second : Left policy d walk 2 (q ∷ record { x = p.x; y = q.y } ∷ p ∷ []) (λ qs. grid_point_of v0.point ∷ grid_point_of v1.point ∷ qs) v1.entry
      after-second = goes_on after-first c.x2 c.y1 h.x2 h.y1 v1 g1

      pub third-refused : (x : Refusal) → GivesPoint v1.entry (both point_field 2 c.x2 c.y2) (Err x) → stopped x ≡ walk
      third-refused = stops after-second c.x2 c.y2 h.x2 h.y2

      module _ (v2 : Pointed) (g2 : GivesPoint v1.entry (both point_field 2 c.x2 c.y2) (Ok v2)) where
        after-third : Left policy d walk 3 (record { x = p.x; y = q.y } ∷ p ∷ []) (λ qs. grid_point_of v0.point ∷ grid_point_of v1.point ∷ grid_point_of v2.point ∷ qs) v2.entry
        after-third = goes_on after-second c.x2 c.y2 h.x2 h.y2 v2 g2

        pub fourth-refused : (x : Refusal) → GivesPoint v2.entry (both point_field 3 c.x1 c.y2) (Err x) → stopped x ≡ walk
        fourth-refused = stops after-third c.x1 c.y2 h.x1 h.y2

        module _ (v3 : Pointed) (g3 : GivesPoint v2.entry (both point_field 3 c.x1 c.y2) (Ok v3)) where
          after-fourth : Left policy d walk 4 (p ∷ []) (λ qs. grid_point_of v0.point ∷ grid_point_of v1.point ∷ grid_point_of v2.point ∷ grid_point_of v3.point ∷ qs) v3.entry
          after-fourth = goes_on after-third c.x1 c.y2 h.x1 h.y2 v3 g3

          pub fifth-refused : (x : Refusal) → GivesPoint v3.entry (both point_field 4 c.x1 c.y1) (Err x) → stopped x ≡ walk
          fifth-refused = stops after-fourth c.x1 c.y1 h.x1 h.y1

          pub all-counted : (v4 : Pointed) → GivesPoint v3.entry (both point_field 4 c.x1 c.y1) (Ok v4) → ready (corners_of v0.point v2.point) v4.entry ≡ walk
          unfolding write_points
          all-counted v4 g4 =
              let l = goes_on after-fourth c.x1 c.y1 h.x1 h.y1 v4 g4 in
              let w = l.is ∙ run-pure stopped v4.entry [] (λ qs e'. ready (grid_point_of v0.point ∷ grid_point_of v1.point ∷ grid_point_of v2.point ∷ grid_point_of v3.point ∷ grid_point_of v4.point ∷ qs) e') in
              let r = row (values 0 e c.x1 c.y1 v0 g0) (values 1 v0.entry c.x2 c.y1 v1 g1) (values 2 v1.entry c.x2 c.y2 v2 g2) (values 3 v2.entry c.x1 c.y2 v3 g3) (values 4 v3.entry c.x1 c.y1 v4 g4) in
              sym (w ∙ ap (λ (qs : List (Point ℤ)). ready qs v4.entry) r)

  -- and where neither corner deviates
  pub plain-counted : (a b : DatabasePoint) → Some a ≡ plain_of c.x1 c.y1 → Some b ≡ plain_of c.x2 c.y2 → ready (corners_of a b) e ≡ walk
  plain-counted a b g h =
      all-counted
      (record { point = a; entry = e }) (plain-made point_field 0 e c.x1 c.y1 a g)
      (record { point = record { x = b.x; y = a.y }; entry = e }) (plain-made point_field 1 e c.x2 c.y1 _ (crossed c.x2 c.y2 c.x1 c.y1 b a h g))
      (record { point = b; entry = e }) (plain-made point_field 2 e c.x2 c.y2 b h)
      (record { point = record { x = a.x; y = b.y }; entry = e }) (plain-made point_field 3 e c.x1 c.y2 _ (crossed c.x1 c.y1 c.x2 c.y2 a b g h))
      (record { point = a; entry = e }) (plain-made point_field 4 e c.x1 c.y1 a g)
