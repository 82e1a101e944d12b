-- Boxes that were read are canonical. Assumes nothing.
use mathlib.Core.Path.{◌≡◌, refl, sym, ap, ap₂, ◌∙◌}
use mathlib.Core.Bool.{true}
use mathlib.Core.List.{List, [], ◌∷◌}
use Prim.Native.Nat.{ℕ, zero, suc}
use lib.Dec.{T, lit<}
use lib.IntN.{ℤ}
use lib.Ieee.Fits.{and_l, and_r}
use Rattle.binary64.specs.Value.{same_int}
use Rattle.refusal.specs.declared.Refusal.TheVariants as R
use Rattle.parsing.specs.All.{All, done, more}
use Rattle.units.specs.Point.{Point}
use Rattle.gds_format.proofs.DecodeLaws.{same-is}
use Rattle.conversion.specs.Made.{pure, ◌>>◌}
use Rattle.conversion.proofs.MadeLaws.{need-on, then-pure}
use Rattle.sheet.proofs.Fine as F
use Rattle.stream.specs.Record.{BOX}
use Rattle.stream.specs.Records.{shape_records}
use Rattle.stream.specs.Structure.{Shape}
use Rattle.stream.specs.Structure as D
use Rattle.stream.proofs.Fit.{FitPoint}
use Rattle.cell.specs.Write.{same_point, closed, box_points, write_box, write_body}
use Rattle.cell.proofs.BoxLaws.{own-point}
use Rattle.reading.specs.Box.{nth_point, first_point, third_point, same_points, is_box}
use Rattle.reading.proofs.Kept.{KeptShape}
use Rattle.reading.proofs.ItemLaws.{box-limit}
use Rattle.reading.proofs.ItemLaws as I
use Rattle.reading.proofs.Canon.{CanonBody}
use Rattle.reading.proofs.BodyLaws.{limited-passes, xy-passes, layered, point-fine, points-write}

-- ---- points that two corners give

point-is : (p q : Point ℤ) → T (same_point p q) → p ≡ q
point-is p q t =
    ap₂ (λ (x y : ℤ). record { x = x; y = y }) (same-is p.x q.x (and_l (same_int p.x q.x) (same_int p.y q.y) t)) (same-is p.y q.y (and_r (same_int p.x q.x) (same_int p.y q.y) t))

points-are : (ps qs : List (Point ℤ)) → T (same_points ps qs) → ps ≡ qs
points-are [] [] t = refl
points-are [] (q ∷ qs) t = absurd t
points-are (p ∷ ps) [] t = absurd t
points-are (p ∷ ps) (q ∷ qs) t = ap₂ (λ (a : Point ℤ) (s : List (Point ℤ)). a ∷ s) (point-is p q (and_l (same_point p q) (same_points ps qs) t)) (points-are ps qs (and_r (same_point p q) (same_points ps qs) t))

-- the points of an accepted BOX
given_by : (ps : List (Point ℤ)) → T (is_box ps) → ps ≡ box_points (first_point ps) (third_point ps)
unfolding is_box
given_by ps t = points-are ps (box_points (first_point ps) (third_point ps)) t

-- whatever two corners give is a box
pub gives-box : (p q : Point ℤ) → is_box (box_points p q) ≡ true
unfolding is_box nth_point
gives-box p q = rw (own-point p, own-point q, own-point (record { x = q.x; y = p.y }), own-point (record { x = p.x; y = q.y }))

-- a point of the list, or (0, 0)
place-fit : (n : ℕ) (ps : List (Point ℤ)) → All FitPoint ps → FitPoint (nth_point n ps)
unfolding nth_point
place-fit n [] h = record { x = record { sfits = lit< tt }; y = record { sfits = lit< tt } }
place-fit zero (p ∷ ps) (more h hs) = h
place-fit (suc n) (p ∷ ps) (more h hs) = place-fit n ps hs

-- ---- a BOX

pub box-canon : (e : Shape) → KeptShape BOX e → CanonBody (D.box e)
unfolding write_body write_box closed shape_records ◌>>◌
box-canon e h =
    let p = first_point e.points in
    let q = third_point e.points in
    let given = given_by e.points (box-limit e.points h.limit) in
    record {
      put = D.box e;
      writes =
          then-pure _
          (then-pure _ (layered e.layer e.datatype h.layer.most h.datatype.most) (then-pure _ (points-write 0 (box_points p q))
          (need-on (same_point p p) R.NotClosed _ (own-point p) ∙ ap (λ (ps : List (Point ℤ)). pure (record { layer = e.layer; datatype = e.datatype; points = ps })) (sym given))))
          refl;
      drawn = refl;
      again = refl;
      admitted = more (limited-passes I.layer BOX e.layer h.layer) (more (limited-passes I.boxtype BOX e.datatype h.datatype) (more (xy-passes BOX e.points h.points h.limit) done));
      steps = tt;
      fine = F.box (record { layer = h.layer.word; boxtype = h.datatype.word; first = point-fine _ (place-fit _ e.points h.points); second = point-fine _ (place-fit _ e.points h.points) });
    }
