-- An element that was written is alike to what it draws, its points are conversions of the sheet's, and it fits its records. Assumes nothing.
use mathlib.Core.Path.{◌≡◌, refl, sym, ap, subst}
use mathlib.Core.Bool.{Bool, true, false, ◌&&◌, cond}
use mathlib.Core.Option.{Option, none, some}
use mathlib.Core.List.{List, [], ◌∷◌}
use Prim.Native.Nat.{ℕ, ◌+◌, ◌*◌, ◌≤◌, ◌<◌}
use native.Mathlib.Nat.{le_trans}
use native.Mathlib.Omega.{arith}
use lib.Dec.{T, leb, eqb, leb→le, eqb→eq, lit<, lit≤}
use lib.ListN.{length}
use lib.IntN.{ℤ}
use lib.Ieee.{Float, binary64, fits}
use lib.Ieee.Fits.{eq→eqb, and_l, and_r, and_i}
use lib.Ieee.Positive.{positive}
use Rattle.big_endian.specs.Big.{Bytes}
use Rattle.parsing.specs.All.{All, done, more, Opt, absent, present}
use Rattle.units.specs.declared.Unit.{Unit}
use Rattle.units.specs.Point.{Point}
use Rattle.conversion.specs.declared.GdsRoundingPolicy.{GdsRoundingPolicy}
use Rattle.conversion.specs.Made.{Made, pure, ◌>>=◌}
use Rattle.conversion.specs.Field.{width_field, begin_field, end_field, origin_field}
use Rattle.conversion.proofs.MadeLaws.{Yields, made_yields, steps, then-steps, checked, needed}
use Rattle.conversion.proofs.ConvertLaws.{physical-fits}
use Rattle.conversion.proofs.ArrayLaws.{AxisConverted, array-converted, instances-close, EndpointInRange}
use Rattle.sheet.specs.Element.{max_path_type}
use Rattle.sheet.specs.Element as S
use Rattle.sheet.proofs.Fine.{FinePoint, FineShape, FinePath, FineText, FineReference, FineBox, FineBody, FineElement}
use Rattle.sheet.proofs.Fine as F
use Rattle.stream.specs.Strings.{padded}
use Rattle.stream.specs.Structure as D
use Rattle.stream.specs.Drawn.{Transform, text_drawn, sref_drawn, only_instance, reference_drawn, body_drawn, element_drawn}
use Rattle.stream.specs.Records.{endpoint_of}
use Rattle.stream.proofs.Fit.{Even, Word, FitPoint, FitShape, FitPath, FitText, FitSref, FitAref, FitBody, FitElement}
use Rattle.stream.proofs.Fit as Fit
use Rattle.stream.proofs.StringLaws.{trimmed-padded, padded-even}
use Rattle.cell.specs.Limits.{within, min_polygon_points, min_path_points, min_node_points, max_points, max_node_points, max_layer, max_data_type, max_string_length, max_name_length, max_col_row}
use Rattle.cell.specs.Names.{is_name, name_bytes}
use Rattle.cell.specs.Write.{layer_and_type, box_points, single, write_shape, write_polygon, write_node, write_path, write_text, write_sref, write_aref, write_reference, write_box, write_body, write_element}
use Rattle.cell.specs.Draws.{AlikePoint, AlikeInstances, AlikeShape, AlikePath, AlikeText, AlikeSref, AlikeBox, AlikeBody, AlikeElement}
use Rattle.cell.specs.Draws as W
use Rattle.cell.specs.Draws.{Each}
use Rattle.cell.specs.Edges.{edges_at, array_edges, point_edges, body_edges, body_points}
use Rattle.cell.proofs.Taken.{each-length, TakenPoint}
use Rattle.cell.proofs.BoxLaws.{box-cornered}
use Rattle.cell.proofs.PartLaws.{properties-alike, TransformFor, transform-alike, range-long, point-alike, points-alike, length-alike}

-- ---- limits

pub within-hi : (lo n hi : ℕ) → T (within lo n hi) → n ≤ hi
within-hi lo n hi t = leb→le n hi (and_r (leb lo n) (leb n hi) t)

within-lo : (lo n hi : ℕ) → T (within lo n hi) → lo ≤ n
within-lo lo n hi t = leb→le lo n (and_l (leb lo n) (leb n hi) t)

-- what is at most a 2-byte number is one
pub word_below : (hi n : ℕ) → hi < 65536 → n ≤ hi → Word n
word_below hi n l h = omega arith

opt-word : (x : Option ℕ) → Opt (λ n. n ≤ max_path_type) x → Opt Word x
opt-word none h = absent
opt-word (some n) (present h) = present (word_below max_path_type n (lit< tt) h)

pub name-even : (s : List ℕ) → T (is_name s) → Bytes s → Even (padded s)
unfolding is_name
name-even s t h = padded-even s max_name_length (within-hi 1 (length s) max_name_length (and_l (within 1 (length s) max_name_length) (name_bytes s) t)) (lit< tt) h

-- layer and type are 2-byte numbers
record Layered (l t : ℕ) : Type 0 where
  layer : Word l
  datatype : Word t

layered : (l t : ℕ) (u : _) → Yields (layer_and_type l t) u → Layered l t
unfolding layer_and_type
layered l t u y =
    let k = checked _ y in
    record {
      layer = word_below max_layer l (lit< tt) (leb→le l max_layer k.passed);
      datatype = word_below max_data_type t (lit< tt) (leb→le t max_data_type (needed _ _ k.then));
    }

-- ---- arrays

endpoint-fit : (o a : Point ℤ) (n : ℕ) → EndpointInRange o a n → FitPoint (endpoint_of o a n)
endpoint-fit o a n h = record { x = range-long _ h.x; y = range-long _ h.y }

-- an AREF that is not 1 × 1 is drawn as it is
drawn-array : (w : D.Aref Transform) → (eqb w.columns 1 && eqb w.rows 1) ≡ false → D.aref w ≡ reference_drawn w
unfolding reference_drawn
drawn-array w h = sym (ap (λ (c : Bool). cond c (D.sref (only_instance w)) (D.aref w)) h)

-- ---- bodies, under a policy and a database unit

module _ (policy : GdsRoundingPolicy) (d : Float) (fd : T (fits binary64 d)) (pd : T (positive d)) where
  -- the points of the one are the conversions of the other's
  abbrev Takes : List (Point (Option Float)) → List (Point ℤ) → Type 0
  Takes s t = Each (TakenPoint policy d) s t

  record ShapeWritten (e : S.Shape) (w : D.Shape) : Type 0 where
    alike : AlikeShape policy d e w
    taken : Takes (point_edges d e.points) w.points
    fit : FitShape w

  shape-written : (least most : ℕ) (e : S.Shape) (w : D.Shape) → most ≤ max_points → FineShape e → Yields (write_shape policy d least most e) w → ShapeWritten e w
  unfolding write_shape
  shape-written least most e w m h y =
      let k1 = checked _ y in
      let k2 = then-steps k1.then in
      let k3 = steps k2.then in
      let lt = layered e.layer e.datatype k2.value k2.first in
      let ps = points-alike policy d fd pd 0 e.points k3.value h.points.each k3.first in
      let c : length k3.value ≤ max_points = subst (λ (n : ℕ). n ≤ max_points) (each-length ps.alike) (le_trans (within-hi least (length e.points) most k1.passed) m) in
      subst (λ (z : D.Shape). ShapeWritten e z) (made_yields k3.then)
      (record {
        alike = record { layer = refl; datatype = refl; points = ps.alike };
        taken = ps.taken;
        fit = record { layer = lt.layer; datatype = lt.datatype; points = record { each = ps.fit; count = c } };
      })

  polygon-written : (e : S.Shape) (w : D.Shape) → FineShape e → Yields (write_polygon policy d e) w → ShapeWritten e w
  unfolding write_polygon
  polygon-written e w h y =
      let k1 = steps y in
      let k2 = checked _ k1.then in
      subst (λ (z : D.Shape). ShapeWritten e z) (made_yields k2.then) (shape-written min_polygon_points max_points e k1.value (lit≤ tt) h k1.first)

  node-written : (e : S.Shape) (w : D.Shape) → FineShape e → Yields (write_node policy d e) w → ShapeWritten e w
  unfolding write_node
  node-written e w h y = shape-written min_node_points max_node_points e w (lit≤ tt) h y

  record PathWritten (e : S.Path) (w : D.Path) : Type 0 where
    alike : AlikePath policy d e w
    taken : Takes (point_edges d e.points) w.points
    fit : FitPath w

  path-written : (e : S.Path) (w : D.Path) → FinePath e → Yields (write_path policy d e) w → PathWritten e w
  unfolding write_path
  path-written e w h y =
      let k1 = checked _ y in
      let k2 = then-steps k1.then in
      let kw = steps k2.then in
      let kb = steps kw.then in
      let ke = steps kb.then in
      let kp = steps ke.then in
      let lt = layered e.layer e.datatype k2.value k2.first in
      let lw = length-alike policy d fd pd width_field e.width kw.value h.width kw.first in
      let lb = length-alike policy d fd pd begin_field e.begin kb.value h.begin kb.first in
      let le = length-alike policy d fd pd end_field e.end ke.value h.end ke.first in
      let ps = points-alike policy d fd pd 0 e.points kp.value h.points.each kp.first in
      let c : length kp.value ≤ max_points = subst (λ (n : ℕ). n ≤ max_points) (each-length ps.alike) (within-hi min_path_points (length e.points) max_points k1.passed) in
      subst (λ (z : D.Path). PathWritten e z) (made_yields kp.then)
      (record {
        alike = record { layer = refl; datatype = refl; path_type = refl; width = lw.alike; begin = lb.alike; end = le.alike; points = ps.alike };
        taken = ps.taken;
        fit = record { layer = lt.layer; datatype = lt.datatype; path_type = opt-word e.path_type h.path_type; width = lw.fit; begin = lb.fit; end = le.fit; points = record { each = ps.fit; count = c } };
      })

  record TextWritten (e : S.Text) (w : D.Text (Option ℕ) (Option D.Strans)) : Type 0 where
    alike : AlikeText policy d e (text_drawn w)
    taken : TakenPoint policy d (edges_at d e.origin) w.origin
    fit : FitText w

  text-written : (e : S.Text) (w : D.Text (Option ℕ) (Option D.Strans)) → FineText e → Yields (write_text policy d e) w → TextWritten e w
  unfolding write_text
  text-written e w h y =
      let k1 = then-steps y in
      let k2 = checked _ k1.then in
      let k3 = steps k2.then in
      let k4 = steps k3.then in
      let lt = layered e.layer e.texttype _ k1.first in
      let t = transform-alike e.degrees e.magnification e.reflection k3.value h.magnification h.degrees k3.first in
      let o = point-alike policy d fd pd origin_field 0 e.origin k4.value h.origin k4.first in
      subst (λ (z : D.Text (Option ℕ) (Option D.Strans)). TextWritten e z) (made_yields k4.then)
      (record {
        alike = record { layer = refl; texttype = refl; presentation = refl; transform = t.alike; origin = o.alike; string = trimmed-padded e.string };
        taken = o.taken;
        fit = record {
          layer = lt.layer;
          texttype = lt.datatype;
          presentation = present (small e.vertical e.horizontal h.vertical h.horizontal);
          transform = t.fit;
          origin = o.fit;
          string = padded-even e.string max_string_length (leb→le (length e.string) max_string_length k2.passed) (lit< tt) h.string.bytes;
        };
      })
    where
      small : (v h : ℕ) → v ≤ 2 → h ≤ 2 → Word (4 * v + h)
      small v h x y = omega arith

  -- ---- references

  record SrefWritten (e : S.Reference) (w : D.Sref (Option D.Strans)) : Type 0 where
    alike : AlikeSref policy d e (sref_drawn w)
    taken : TakenPoint policy d (edges_at d e.origin) w.origin
    fit : FitSref w

  sref-written : (e : S.Reference) (t : Option D.Strans) (w : D.Sref (Option D.Strans)) → FineReference e → T (single e) → T (is_name e.name)
      → TransformFor e.reflection e.magnification e.degrees t → Yields (write_sref policy d e t) w → SrefWritten e w
  unfolding write_sref
  sref-written e t w h s n u y =
      let k = steps y in
      let o = point-alike policy d fd pd origin_field 0 e.origin k.value h.origin k.first in
      subst (λ (z : D.Sref (Option D.Strans)). SrefWritten e z) (made_yields k.then)
      (record {
        alike = record {
          columns = eqb→eq e.columns 1 (and_l (eqb e.columns 1) (eqb e.rows 1) s);
          rows = eqb→eq e.rows 1 (and_r (eqb e.columns 1) (eqb e.rows 1) s);
          name = trimmed-padded e.name;
          transform = u.alike;
          origin = o.alike;
        };
        taken = o.taken;
        fit = record { name = name-even e.name n h.name.bytes; transform = u.fit; origin = o.fit };
      })

  -- on one axis
  instances-alike : (c r : ℕ) (po pa pb : Float) (o a b : ℤ) → AxisConverted policy d po pa pb o a b → AlikeInstances policy d c r po pa pb o a b
  instances-alike c r po pa pb o a b k = record {
    origin_finite = k.origin.physical;
    column_finite = k.column.physical;
    row_finite = k.row.physical;
    instances = λ i j hi hj. instances-close policy d po pa pb o a b k i j;
  }

  record ArefWritten (e : S.Reference) (w : D.Aref (Option D.Strans)) : Type 0 where
    alike : AlikeBody policy d (S.reference e) (body_drawn (D.aref w))
    taken : Takes (array_edges e.origin ∷ []) (body_points (body_drawn (D.aref w)))
    fit : FitAref w

  aref-written : (e : S.Reference) (t : Option D.Strans) (w : D.Aref (Option D.Strans)) → FineReference e → single e ≡ false → T (is_name e.name)
      → T (within 1 e.columns max_col_row) → T (within 1 e.rows max_col_row)
      → TransformFor e.reflection e.magnification e.degrees t → Yields (write_aref policy d e t) w → ArefWritten e w
  unfolding write_aref
  aref-written e t w h s n hc hr u y =
      let k1 = checked _ y in
      let k2 = steps k1.then in
      let c = k2.value in
      let a = array-converted policy d fd pd e.sine e.cosine e.columns e.rows e.origin e.column_spacing e.row_spacing c k2.first in
      subst (λ (z : D.Aref (Option D.Strans)). ArefWritten e z) (made_yields k2.then)
      (record {
        alike = subst (λ (z : D.Body ℕ Transform). AlikeBody policy d (S.reference e) z) (drawn-array _ s)
            (W.aref (record {
              array = λ q. subst T s (both e.columns e.rows q.0 q.1);
              name = trimmed-padded e.name;
              transform = u.alike;
              columns = refl;
              rows = refl;
              x = instances-alike e.columns e.rows _ _ _ _ _ _ a.x;
              y = instances-alike e.columns e.rows _ _ _ _ _ _ a.y;
            }));
        taken = subst (λ (z : D.Body ℕ Transform). Takes (array_edges e.origin ∷ []) (body_points z)) (drawn-array _ s)
            (W.more (record { x = (physical-fits e.origin.x, a.x.origin.value); y = (physical-fits e.origin.y, a.y.origin.value) }) W.done);
        fit = record {
          name = name-even e.name n h.name.bytes;
          transform = u.fit;
          columns = word_below max_col_row e.columns (lit< tt) (within-hi 1 e.columns max_col_row hc);
          rows = word_below max_col_row e.rows (lit< tt) (within-hi 1 e.rows max_col_row hr);
          some_column = within-lo 1 e.columns max_col_row hc;
          some_row = within-lo 1 e.rows max_col_row hr;
          origin = record { x = range-long c.origin.x a.x.origin.ranged; y = range-long c.origin.y a.y.origin.ranged };
          column_end = endpoint-fit c.origin c.column_step e.columns a.column_end;
          row_end = endpoint-fit c.origin c.row_step e.rows a.row_end;
        };
      })
    where
      both : (c r : ℕ) → c ≡ 1 → r ≡ 1 → T (eqb c 1 && eqb r 1)
      both c r x y = and_i (eqb c 1) (eqb r 1) (eq→eqb x) (eq→eqb y)

  -- ---- boxes

  -- of the first point and the third
  corners : {p m q : Point Unit} {s : List (Point Unit)} {a b c : Point ℤ} {t : List (Point ℤ)} → Each (AlikePoint policy d) (p ∷ m ∷ q ∷ s) (a ∷ b ∷ c ∷ t) → AlikePoint policy d p a × AlikePoint policy d q c
  corners (W.more x (W.more y (W.more z h))) = (x, z)

  record BoxWritten (e : S.Box) (w : D.Shape) : Type 0 where
    alike : AlikeBox policy d e w
    taken : Takes (point_edges d (box_points e.first e.second)) w.points
    fit : FitShape w

  box-written : (e : S.Box) (w : D.Shape) → FineBox e → Yields (write_box policy d e) w → BoxWritten e w
  unfolding write_box
  box-written e w h y =
      let k1 = then-steps y in
      let k2 = steps k1.then in
      let k3 = checked _ k2.then in
      let lt = layered e.layer e.boxtype k1.value k1.first in
      let ps = points-alike policy d fd pd 0 (box_points e.first e.second) k2.value fine k2.first in
      let c = box-cornered policy d e.first e.second k2.value k2.first in
      let ends = corners (subst (λ (qs : List (Point ℤ)). Each (AlikePoint policy d) (box_points e.first e.second) qs) c.points ps.alike) in
      subst (λ (z : D.Shape). BoxWritten e z) (made_yields k3.then)
      (record {
        alike = record { layer = refl; boxtype = refl; corner = c.corner; opposite = c.opposite; points = c.points; first = ends.0; second = ends.1 };
        taken = ps.taken;
        fit = record { layer = lt.layer; datatype = lt.datatype; points = record { each = ps.fit; count = subst (λ (n : ℕ). n ≤ max_points) (each-length ps.alike) (lit≤ tt) } };
      })
    where
      fine : All FinePoint (box_points e.first e.second)
      fine = search (more, done, h.first, h.second) depth 9

  -- ---- every body

  pub record BodyWritten (e : S.Body) (w : D.SaidBody) : Type 0 where
    pub alike : AlikeBody policy d e (body_drawn w)
    pub taken : Takes (body_edges d e) (body_points (body_drawn w))
    pub fit : FitBody w

  -- a body put into its kind
  made-body : {A : Type 0} {m : Made A} (f : A → D.SaidBody) (e : S.Body) (w : D.SaidBody) → ((a : A) → Yields m a → BodyWritten e (f a))
      → Yields (m >>= λ a. pure (f a)) w → BodyWritten e w
  made-body f e w g y =
      let k = steps y in
      subst (λ (z : D.SaidBody). BodyWritten e z) (made_yields k.then) (g k.value k.first)

  reference-written : (e : S.Reference) (w : D.SaidBody) → FineReference e → Yields (write_reference policy d e) w → BodyWritten (S.reference e) w
  unfolding write_reference
  reference-written e w h y =
      let k1 = checked _ y in
      let k2 = checked _ k1.then in
      let k3 = checked _ k2.then in
      let k4 = checked _ k3.then in
      let k5 = steps k4.then in
      go k5.value k1.passed
      (and_l (within 1 e.columns max_col_row) (within 1 e.rows max_col_row) k2.passed) (and_r (within 1 e.columns max_col_row) (within 1 e.rows max_col_row) k2.passed)
      (transform-alike e.degrees e.magnification e.reflection k5.value h.magnification h.degrees k5.first) (single e) refl k5.then
    where
      by_kind : (c : Bool) → single e ≡ c → {t : List (Point ℤ)} → Takes (cond c (edges_at d e.origin) (array_edges e.origin) ∷ []) t → Takes (body_edges d (S.reference e)) t
      by_kind c q {t} h = subst (λ (b : Bool). Takes (cond b (edges_at d e.origin) (array_edges e.origin) ∷ []) t) (sym q) h

      go : (t : Option D.Strans) → T (is_name e.name) → T (within 1 e.columns max_col_row) → T (within 1 e.rows max_col_row)
          → TransformFor e.reflection e.magnification e.degrees t → (c : Bool) → single e ≡ c
          → Yields (cond c (write_sref policy d e t >>= λ w. pure (D.sref w)) (write_aref policy d e t >>= λ w. pure (D.aref w))) w → BodyWritten (S.reference e) w
      go t n hc hr u true q y = made-body D.sref (S.reference e) w (λ a k. let r = sref-written e t a h (subst T (sym q) tt) n u k in record { alike = W.sref r.alike; taken = by_kind true q (W.more r.taken W.done); fit = Fit.sref r.fit }) y
      go t n hc hr u false q y = made-body D.aref (S.reference e) w (λ a k. let r = aref-written e t a h q n hc hr u k in record { alike = r.alike; taken = by_kind false q r.taken; fit = Fit.aref r.fit }) y

  body-written : (e : S.Body) (w : D.SaidBody) → FineBody e → Yields (write_body policy d e) w → BodyWritten e w
  unfolding write_body
  body-written (S.polygon e) w (F.polygon h) y = made-body D.boundary (S.polygon e) w (λ a k. let r = polygon-written e a h k in record { alike = W.polygon r.alike; taken = r.taken; fit = Fit.boundary r.fit }) y
  body-written (S.path e) w (F.path h) y = made-body D.path (S.path e) w (λ a k. let r = path-written e a h k in record { alike = W.path r.alike; taken = r.taken; fit = Fit.path r.fit }) y
  body-written (S.text e) w (F.text h) y = made-body D.text (S.text e) w (λ a k. let r = text-written e a h k in record { alike = W.text r.alike; taken = W.more r.taken W.done; fit = Fit.text r.fit }) y
  body-written (S.node e) w (F.node h) y = made-body D.node (S.node e) w (λ a k. let r = node-written e a h k in record { alike = W.node r.alike; taken = r.taken; fit = Fit.node r.fit }) y
  body-written (S.reference e) w (F.reference h) y = reference-written e w h y
  body-written (S.box e) w (F.box h) y = made-body D.box (S.box e) w (λ a k. let r = box-written e a h k in record { alike = W.box r.alike; taken = r.taken; fit = Fit.box r.fit }) y

  -- ---- every element

  pub record Written (e : S.Element) (w : D.Said) : Type 0 where
    pub alike : AlikeElement policy d e (element_drawn w)
    pub taken : Takes (body_edges d e.body) (body_points (element_drawn w).body)
    pub fit : FitElement w

  pub element-written : (e : S.Element) (w : D.Said) → FineElement e → Yields (write_element policy d e) w → Written e w
  unfolding write_element
  element-written e w h y =
      let k = checked _ y in
      let k1 = steps k.then in
      let k2 = steps k1.then in
      let b = body-written e.body k1.value h.body k1.first in
      let qs = properties-alike e.properties k2.value h.properties.each k2.first in
      subst (λ (z : D.Said). Written e z) (made_yields k2.then)
      (record {
        alike = record { flags = refl; plex = refl; body = b.alike; properties = qs.alike };
        taken = b.taken;
        fit = record { flags = h.flags; plex = h.plex; body = b.fit; properties = qs.fit };
      })
