-- `forms::path` meets its contract: each part in turn. Assumes nothing.
use mathlib.Core.Path.{◌≡◌, refl, ap}
use mathlib.Core.Option.{none, some}
use mathlib.Core.List.{List}
use Prim.Native.Nat.{ℕ, ◌*◌, ◌≤◌}
use native.Mathlib.Omega.{arith}
use lib.Dec.{leb, eqb}
use lib.ListN.{length, drop, length-drop}
use Rattle.big_endian.specs.Big.{number_at}
use Rattle.parsing.specs.Parse.{ill, ill_formed, pure, times, ◌>>=◌}
use Rattle.sheet.specs.Form.{Form, num, counted, coordinate, point}
use Rattle.sheet.specs.Element.{Path, path_type_form, path_form, body_form}
use Rattle.block_places.specs.declared.PathPlaces.{PathPlaces}
use Rattle.block_places.specs.code.Place.{coordinate_at}
use Rattle.block_places.specs.code.Places.{path_type_of, path_at, path_places, PathIn}
use Rattle.forms.proofs.Step.{layer-at, type-at}
use Rattle.forms.proofs.Sized.{Sized, sized-bind, sized-cond, sized-when, sized-pure, sized-num, sized-coordinate, sized-times, sized-point, sized-within, Needs, needs-bind, needs-front, counted-needs}
use Rattle.forms.proofs.PropertyLaws.{counted-at}
use Rattle.forms.proofs.path.Goals as goal
use Rattle.forms.proofs.path.Goals.{Else-not-lengths}

sized-path-type : Sized 1 path_type_form
unfolding path_type_form
sized-path-type = sized-bind 1 0 1 (num 1) _ refl (sized-num 1) (λ k. sized-cond 0 (eqb k 255) _ _ (sized-pure none) (sized-when 0 (leb k 2) _ (sized-pure (some k))))

path-needs : Needs 58 path_form
unfolding path_form
path-needs =
    needs-bind 2 56 58 (num 2) _ refl (sized-num 2) (λ l. needs-bind 2 54 56 (num 2) _ refl (sized-num 2) (λ t. needs-bind 1 53 54 path_type_form _ refl sized-path-type (λ k.
    needs-bind 17 36 53 coordinate _ refl sized-coordinate (λ w. needs-bind 17 19 36 coordinate _ refl sized-coordinate (λ g. needs-bind 17 2 19 coordinate _ refl sized-coordinate (λ e.
    needs-front 2 (counted point) _ (counted-needs point)))))))

pub returns-then-b-lt-PATH_POINTS : goal.returns-then-b-lt-PATH_POINTS
unfolding body_form
returns-then-b-lt-PATH_POINTS c = record { form = rw (path-needs (drop 1 c.args.b.now) (simp length-drop (omega arith))); places = tt }

pub returns-then-not-path_type : goal.returns-then-not-path_type
unfolding body_form path_form
returns-then-not-path_type c =
    let h : 5 ≤ length c.args.b.now = omega arith in
    record { form = rw (layer-at, type-at, c.if-not-path_type.ensures.is); places = tt }

pub returns-then-not-lengths : goal.returns-then-not-lengths
unfolding body_form path_form
returns-then-not-lengths c =
    let h : 5 ≤ length c.args.b.now = omega arith in
    let ill : path_form (drop 1 c.args.b.now) ≡ ill ill_formed = rw (layer-at, type-at, c.if-not-path_type.ensures.is) (c.if-not-lengths.ensures.is _) in
    record { form = rw ill; places = tt }

-- from the points on
abbrev points_on : List ℕ → Form Path
points_on b = do
  ps ← counted point
  pure
      (record {
        layer = number_at 2 b 1;
        datatype = number_at 2 b 3;
        path_type = path_type_of (number_at 1 b 5);
        width = coordinate_at b 6;
        begin = coordinate_at b 23;
        end = coordinate_at b 40;
        points = ps;
      })

front : (c : Else-not-lengths) → path_form (drop 1 c.args.b.now) ≡ points_on c.args.b.now (drop 57 c.args.b.now)
unfolding path_form
front c =
    let h : 5 ≤ length c.args.b.now = omega arith in
    rw (layer-at, type-at, c.if-not-path_type.ensures.is) (c.if-not-lengths.ensures.is _)

pub returns-then-not-points : goal.returns-then-not-points
unfolding body_form path_places
returns-then-not-points c =
    let e = ap (λ (s : PathPlaces). s.points.count) c.path_places-path.ensures.0 in
    let ill = counted-at point c.args.b.now 57 c.path_places-path.result.points.count (omega arith) e c.if-not-points.ensures.is in
    record { form = rw (front (goal.at.returns-then-not-points c).Else-not-lengths, ill); places = tt }

pub returns : goal.returns
unfolding body_form path_at path_places
returns c =
    let n = c.path_places-path.result.points.count in
    let e = ap (λ (s : PathPlaces). s.points.count) c.path_places-path.ensures.0 in
    let points = counted-at point c.args.b.now 57 n (omega arith) e c.if-not-points.ensures.is in
    let within = sized-within (34 * n) (times n point) c.args.b.now 59 (sized-times 34 n point sized-point) (omega arith) c.if-not-points.ensures.is in
    let inside : PathIn c.args.b.now c.path_places-path.result = rw c.path_places-path.ensures.0 (record { width-in = omega arith; begin-in = omega arith; end-in = omega arith; points-in = omega arith }) in
    record {
      form = rw (front (goal.at.returns c).Else-not-lengths, points, c.path_places-path.ensures.0);
      places = record { body-in = inside; end-in = within };
    }
