-- Shapes, paths and texts that were read are canonical. Assumes nothing.
use mathlib.Core.Path.{◌≡◌, refl, sym, ap, ap₂, ◌∙◌}
use mathlib.Core.Bool.{Bool, true}
use mathlib.Core.Option.{Option, none, some}
use mathlib.Core.List.{List, [], ◌∷◌}
use Prim.Native.Nat.{ℕ, suc, ◌+◌, ◌*◌, ◌/◌, ◌%◌, ◌≤◌}
use native.Mathlib.Nat.{le_trans}
use native.Mathlib.Omega.{arith}
use borrow.Author.Tests.{le-leb}
use lib.Dec.{T, leb, leb→le, lit≤}
use lib.ListN.{length}
use lib.IntN.{ℤ}
use lib.Ieee.Bits.{is_true as on}
use lib.Ieee.Fits.{and_l, and_r}
use Rattle.big_endian.specs.Big.{bytes_of}
use Rattle.binary64.specs.Value.{one64}
use Rattle.refusal.specs.declared.Refusal.{Refusal}
use Rattle.refusal.specs.declared.Refusal.TheVariants as R
use Rattle.parsing.specs.All.{All, done, more, Opt, absent, present}
use Rattle.units.specs.Point.{Point}
use Rattle.units.specs.Integer.{integer_point}
use Rattle.conversion.specs.declared.GdsRoundingPolicy.TheVariants.{Nearest}
use Rattle.conversion.specs.Made.{pure, need, ◌>>◌}
use Rattle.conversion.specs.Points.{write_points, write_length}
use Rattle.conversion.proofs.MadeLaws.{need-on, then-pure, both-pass}
use Rattle.conversion.proofs.WholeLaws.{point-one, length-one}
use Rattle.sheet.specs.Element as S
use Rattle.sheet.proofs.Fine.{FineString, Counted, FineUnit, FinePoint, FineShape, integer}
use Rattle.sheet.proofs.Fine as F
use Rattle.stream.specs.Record.{BOUNDARY, PATH, TEXT, NODE, PRESENTATION, STRING, PATHTYPE, WIDTH, BGNEXTN, ENDEXTN}
use Rattle.stream.specs.Records.{word_record, bits_record, long_record, string_record, xy_record, opt, shape_records, path_records, text_records}
use Rattle.stream.specs.Strings.{unpadded, trimmed}
use Rattle.stream.specs.Structure.{Strans, Shape, Path, Text}
use Rattle.stream.specs.Structure as D
use Rattle.stream.specs.Drawn.{presentation_of}
use Rattle.stream.proofs.Fit.{Even, Word, Long, FitPoint}
use Rattle.stream.proofs.StringLaws.{unpadded-short, unpadded-bytes, padded-unpadded}
use Rattle.stream.proofs.ReadLaws.{word_back, points-back}
use Rattle.cell.specs.Limits.{within, min_polygon_points, min_path_points, min_node_points, max_points, max_node_points, max_layer, max_data_type, max_string_length}
use Rattle.cell.specs.Write.{layer_and_type, closed, write_shape, write_polygon, write_node, write_path, write_text, write_body}
use Rattle.cell.proofs.ElementLaws.{within-hi}
use Rattle.reading.specs.Limits.{is_presentation, points_limit, record_limit, refusal_in}
use Rattle.reading.specs.Cell.{length_read, points_read, Placing, shape_read, text_read}
use Rattle.reading.proofs.Kept.{Limited, KeptShape, KeptPath, KeptText}
use Rattle.reading.proofs.ItemLaws.{Coded, coded-limit, polygon-limit, node-limit}
use Rattle.reading.proofs.ItemLaws as I
use Rattle.reading.proofs.RealLaws.{one-fits, opt-all, opt-at, Passes, turned}
use Rattle.reading.proofs.Canon.{CanonBody}

-- ---- checks that pass

pub need-none : (t : Bool) (r : Refusal) → t ≡ true → refusal_in (need t r) ≡ none
unfolding need
need-none t r e = ap (λ (b : Bool). refusal_in (need b r)) e

-- one number of a record, with its limit
pub limited-passes : {c k m : ℕ} {r : Refusal} → Coded c k m r → (kind n : ℕ) → Limited m n → Passes kind 0 (record { code = c; data_type = k; content = bytes_of 2 n })
limited-passes {k = k} {m = m} {r = r} l kind n h = ap refusal_in (coded-limit l kind 0 k _) ∙ need-none _ r (ap (λ (j : ℕ). leb j m) (word_back n h.word) ∙ le-leb n m h.most)

pub xy-passes : (kind : ℕ) (ps : List (Point ℤ)) → All FitPoint ps → refusal_in (points_limit kind ps) ≡ none → Passes kind 0 (xy_record ps)
unfolding record_limit
xy-passes kind ps h e = ap (λ (qs : List (Point ℤ)). refusal_in (points_limit kind qs)) (points-back ps h) ∙ e

pub layered : (l t : ℕ) → l ≤ max_layer → t ≤ max_data_type → layer_and_type l t ≡ pure tt
unfolding layer_and_type
layered l t h k = sym (both-pass _ _ R.LayerOrType R.LayerOrType (le-leb l max_layer h) (le-leb t max_data_type k))

-- ---- coordinates and strings on a sheet

pub point-fine : (p : Point ℤ) → FitPoint p → FinePoint (integer_point p)
point-fine p h = record { x = integer h.x one-fits; y = integer h.y one-fits }

points-each : (ps : List (Point ℤ)) → All FitPoint ps → All FinePoint (points_read ps)
points-each [] done = done
points-each (p ∷ ps) (more h hs) = more (point-fine p h) (points-each ps hs)

points-count : (ps : List (Point ℤ)) → length (points_read ps) ≡ length ps
points-count [] = refl
points-count (p ∷ ps) = ap suc (points-count ps)

points-fine : (ps : List (Point ℤ)) → All FitPoint ps → length ps ≤ max_points → Counted FinePoint (points_read ps)
points-fine ps h l = record { each = points-each ps h; count = omega (arith, points-count ps) }

pub points-write : (k : ℕ) (ps : List (Point ℤ)) → write_points Nearest one64 k (points_read ps) ≡ pure ps
unfolding write_points
points-write k [] = refl
points-write k (p ∷ ps) = then-pure _ (point-one Nearest _ k p) (then-pure _ (points-write (suc k) ps) refl)

length-fine : (o : Option ℤ) → Opt Long o → Opt FineUnit (length_read o)
length-fine none absent = absent
length-fine (some q) (present h) = present (integer h one-fits)

length-write : (f : ℕ) (o : Option ℤ) → write_length Nearest one64 f (length_read o) ≡ pure o
unfolding write_length
length-write f none = refl
length-write f (some q) = length-one Nearest f q

pub string-fine : (s : List ℕ) → Even s → FineString (unpadded s)
string-fine s h = record { bytes = unpadded-bytes s h.bytes; short = omega (arith, unpadded-short s, h.short) }

-- ---- shapes

record ShapeCanon (least most : ℕ) (e : Shape) : Type 0 where
  writes : write_shape Nearest one64 least most (shape_read e) ≡ pure e
  fine : FineShape (shape_read e)

shape-canon : (kind least most : ℕ) (e : Shape) → most ≤ max_points → KeptShape kind e → T (within least (length e.points) most) → ShapeCanon least most e
unfolding write_shape ◌>>◌
shape-canon kind least most e l h t = record {
  writes =
      need-on _ R.PointCount _ (ap (λ (n : ℕ). within least n most) (points-count e.points) ∙ on _ t)
      ∙ then-pure _ (layered e.layer e.datatype h.layer.most h.datatype.most) (then-pure _ (points-write 0 e.points) refl);
  fine = record { layer = h.layer.word; datatype = h.datatype.word; points = points-fine e.points h.points (le_trans (within-hi least (length e.points) most t) l) };
}

pub boundary-canon : (e : Shape) → KeptShape BOUNDARY e → CanonBody (D.boundary e)
unfolding write_body write_polygon shape_records
boundary-canon e h =
    let p = polygon-limit e.points h.limit in
    let s = shape-canon BOUNDARY min_polygon_points max_points e (lit≤ tt) h p.count in
    record {
      put = D.boundary e;
      writes = then-pure _ (then-pure _ s.writes (need-on (closed e.points) R.NotClosed (pure e) (on _ p.ends))) refl;
      drawn = refl;
      again = refl;
      admitted = more (limited-passes I.layer _ e.layer h.layer) (more (limited-passes I.datatype _ e.datatype h.datatype) (more (xy-passes _ e.points h.points h.limit) done));
      steps = tt;
      fine = F.polygon s.fine;
    }

pub node-canon : (e : Shape) → KeptShape NODE e → CanonBody (D.node e)
unfolding write_body write_node shape_records
node-canon e h =
    let s = shape-canon NODE min_node_points max_node_points e (lit≤ tt) h (node-limit e.points h.limit) in
    record {
      put = D.node e;
      writes = then-pure _ s.writes refl;
      drawn = refl;
      again = refl;
      admitted = more (limited-passes I.layer _ e.layer h.layer) (more (limited-passes I.nodetype _ e.datatype h.datatype) (more (xy-passes _ e.points h.points h.limit) done));
      steps = tt;
      fine = F.node s.fine;
    }

-- ---- paths

pub path-canon : (e : Path) → KeptPath e → CanonBody (D.path e)
unfolding write_body write_path path_records record_limit points_limit ◌>>◌
path-canon e h =
    let count : within min_path_points (length e.points) max_points ≡ true = on _ h.count in
    record {
      put = D.path e;
      writes =
          then-pure _
          (need-on _ R.PointCount _ (ap (λ (n : ℕ). within min_path_points n max_points) (points-count e.points) ∙ count)
          ∙ then-pure _ (layered e.layer e.datatype h.layer.most h.datatype.most)
          (then-pure _ (length-write _ e.width) (then-pure _ (length-write _ e.begin) (then-pure _ (length-write _ e.end) (then-pure _ (points-write 0 e.points) refl)))))
          refl;
      drawn = refl;
      again = refl;
      admitted =
          more (limited-passes I.layer PATH e.layer h.layer) (more (limited-passes I.datatype PATH e.datatype h.datatype)
          (opt-all (word_record PATHTYPE) e.path_type _ (λ n q. let l = opt-at h.path_type q in limited-passes I.pathtype PATH n (record { word = omega (arith, l); most = l }))
          (opt-all (long_record WIDTH) e.width _ (λ n q. refl) (opt-all (long_record BGNEXTN) e.begin _ (λ n q. refl) (opt-all (long_record ENDEXTN) e.end _ (λ n q. refl)
          (more (xy-passes PATH e.points h.points (need-none _ R.PointCount count)) done))))));
      steps = tt;
      fine = F.path (record {
        layer = h.layer.word;
        datatype = h.datatype.word;
        path_type = h.path_type;
        width = length-fine e.width h.width;
        begin = length-fine e.begin h.begin;
        end = length-fine e.end h.end;
        points = points-fine e.points h.points (within-hi min_path_points (length e.points) max_points h.count);
      });
    }

-- ---- texts

-- one of the nine pairs
presentation-two : (n : ℕ) → T (is_presentation n) → (n / 4 ≤ 2) × (n % 4 ≤ 2)
presentation-two n t = (leb→le (n / 4) 2 (and_l (leb (n / 4) 2) (leb (n % 4) 2) t), leb→le (n % 4) 2 (and_r (leb (n / 4) 2) (leb (n % 4) 2) t))

presentation-kept : (o : Option ℕ) → Opt (λ n. T (is_presentation n)) o → T (is_presentation (presentation_of o))
presentation-kept none absent = tt
presentation-kept (some n) (present h) = h

presentation-passes : (n : ℕ) → T (is_presentation n) → Passes TEXT 0 (bits_record PRESENTATION n)
unfolding record_limit
presentation-passes n t = need-none _ R.NotStructure (ap is_presentation (word_back n (small n (presentation-two n t).0)) ∙ on _ t)
  where
    small : (n : ℕ) → n / 4 ≤ 2 → Word n
    small n h = omega arith

string-passes : (s : List ℕ) → length (unpadded s) ≤ max_string_length → Passes TEXT 0 (string_record STRING s)
unfolding record_limit
string-passes s h = need-none _ R.StringLength (le-leb (length (unpadded s)) max_string_length h)

-- PRESENTATION is there, and the transform as it is written
text-put : Text (Option ℕ) (Option Strans) → Option Strans → Text (Option ℕ) (Option Strans)
text-put e u = record { layer = e.layer; texttype = e.texttype; presentation = some (presentation_of e.presentation); transform = u; origin = e.origin; string = e.string }

pub text-canon : (e : Text (Option ℕ) (Option Strans)) → KeptText e → CanonBody (D.text e)
unfolding write_body write_text text_records opt record_limit points_limit text-put ◌>>◌
text-canon e h =
    let u = turned e.transform h.transform in
    let n = presentation_of e.presentation in
    let two = presentation-two n (presentation-kept e.presentation h.presentation) in
    let four : 4 * (n / 4) + n % 4 ≡ n = omega arith in
    record {
      put = D.text (text-put e u.put);
      writes =
          then-pure _
          (then-pure _ (layered e.layer e.texttype h.layer.most h.texttype.most)
          (need-on (leb (length (unpadded e.string)) max_string_length) R.StringLength _ (le-leb _ max_string_length h.string.short)
          ∙ then-pure _ u.writes (then-pure _ (point-one Nearest _ 0 e.origin)
          (ap₂ (λ (i : ℕ) (s : List ℕ). pure (record { layer = e.layer; texttype = e.texttype; presentation = some i; transform = u.put; origin = e.origin; string = s })) four
          (padded-unpadded e.string h.string.even.even)))))
          refl;
      drawn = ap (λ (t : _). D.text (record { layer = e.layer; texttype = e.texttype; presentation = n; transform = t; origin = e.origin; string = trimmed e.string })) u.drawn;
      again = ap (λ (p : Placing). S.text (record { layer = e.layer; texttype = e.texttype; vertical = n / 4; horizontal = n % 4; reflection = p.reflection; magnification = p.magnification; degrees = p.degrees; origin = integer_point e.origin; string = unpadded e.string })) u.again;
      admitted =
          more (limited-passes I.layer TEXT e.layer h.layer) (more (limited-passes I.texttype TEXT e.texttype h.texttype) (more (presentation-passes n (presentation-kept e.presentation h.presentation))
          (u.admitted TEXT _ (more (xy-passes TEXT (e.origin ∷ []) (more h.origin done) refl) (more (string-passes e.string h.string.short) done)))));
      steps = tt;
      fine = F.text {e = text_read e} (record {
        layer = h.layer.word;
        texttype = h.texttype.word;
        vertical = two.0;
        horizontal = two.1;
        magnification = u.magnification;
        degrees = u.degrees;
        origin = point-fine e.origin h.origin;
        string = string-fine e.string h.string.even;
      });
    }
