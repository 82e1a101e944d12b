-- A structure that was read within the sheet's limits keeps to them. Assumes nothing.
use mathlib.Core.Path.{◌≡◌, refl, sym, ap, ap₂, ◌∙◌, subst}
use mathlib.Core.Bool.{Bool, true, false, cond}
use mathlib.Core.Option.{Option, none, some}
use mathlib.Core.List.{List, [], ◌∷◌}
use Prim.Native.Nat.{ℕ, zero, suc, ◌+◌, ◌≤◌, ◌<◌}
use native.Mathlib.Omega.{arith}
use lib.Dec.{T, leb, ltb, eqb, ltb→lt, eqb→eq}
use lib.ListN.{length, take, drop}
use lib.IntN.{ℤ, pos, ◌+ℤ◌, ◌-ℤ◌, ◌*ℤ◌, +ℤ_comm, -ℤ-+ℤ_cancel}
use Rattle.big_endian.specs.Big.{Bytes, number}
use Rattle.refusal.specs.declared.Refusal.{Refusal}
use Rattle.refusal.specs.declared.Refusal.TheVariants as R
use Rattle.parsing.specs.Parse.{Part, ill, part, Parse, pure, follow, map, present, given, ◌>>=◌}
use Rattle.parsing.specs.All.{All, done, more, Opt, absent}
use Rattle.parsing.specs.All as A
use Rattle.parsing.proofs.ParseLaws.{no_part, Gives, gives-pure, gives-fail, gives-when, gives-cond, gives-present, gives-bind, gives-map, gives-weaker}
use Rattle.units.specs.Point.{Point, endpoint}
use Rattle.conversion.specs.Made.{Made, Done}
use Rattle.conversion.specs.Convert.{in_range}
use Rattle.conversion.proofs.WholeLaws.{InRange}
use Rattle.sheet.specs.Blocks.{max_pairs}
use Rattle.stream.specs.Record.{Rec, BGNSTR, STRNAME, ENDSTR, BOUNDARY, PATH, SREF, AREF, TEXT, NODE, BOX, LAYER, DATATYPE, NODETYPE, BOXTYPE, TEXTTYPE, PRESENTATION, XY, STRING, SNAME, COLROW, STRANS, MAG, ANGLE, PATHTYPE, WIDTH, BGNEXTN, ENDEXTN, PROPATTR, PROPVALUE, ELFLAGS, PLEX, ENDEL, run_of}
use Rattle.stream.specs.Records.{endpoint_of}
use Rattle.stream.specs.Structure.{Property, SaidBody, Said, Structure}
use Rattle.stream.specs.Structure as D
use Rattle.stream.specs.Read.{Fault, beyond, not_of_grammar, Stop, Reader, unless, tagged, in_block, long, map_option, points_of, one_point, three_points, Corners, reflection_from, some_of, step_of, begins, closed, after_strans, strans, axis_step, point_step, shape_body, path_body, text_body, sref_body, aref_body, body_after, property_or_end, properties_f, properties, element_after, element_from, elements_f, elements, structure, read_structure}
use Rattle.stream.proofs.Fit.{FitPoint}
use Rattle.stream.proofs.RunLaws.{run-good}
use Rattle.stream.proofs.StepLaws.{step_is}
use Rattle.cell.specs.Limits.{max_data_type}
use Rattle.reading.specs.Limits.{max_properties, record_limit, step_limit, refusal_in, sheet_limits}
use Rattle.reading.proofs.Kept.{Several, KeptStrans, KeptShape, KeptPath, KeptText, KeptSref, KeptAref, KeptBody, KeptProperty, KeptElement, KeptStructure}
use Rattle.reading.proofs.Kept as K
use Rattle.reading.proofs.ItemLaws.{Item, Goods, item-gives, optional-gives, need-passed, Coded, limited-of, plex-of, presentation-of, width_of, begin-of, end_of, attribute-of, mag_of, angle-of, sname-of, strname-of, string-of, value_of, xy-of, xy-limit, path-limit, colrow-of, stamps-of}
use Rattle.reading.proofs.ItemLaws as I

-- ---- readers fed good records

bind : {F A B : Type 0} {Q : A → Type 0} {R : B → Type 0} {p : Parse F Rec A} {f : A → Parse F Rec B} → Gives Goods p Q → ((a : A) → Q a → Gives Goods (f a) R) → Gives Goods (p >>= f) R
bind {F} {A} {B} {Q} {R} {p} {f} g k = gives-bind Goods p f g k

-- a test of the limits
unless-gives : {A : Type 0} {Q : A → Type 0} {p : Reader A} (o : Option Refusal) → (o ≡ none → Gives Goods p Q) → Gives Goods (unless o p) Q
unless-gives none g = g refl
unless-gives (some r) g = gives-fail Goods (beyond r)

opt-of : {A B : Type 0} {P : A → Type 0} {Q : B → Type 0} (f : A → B) → ((a : A) → P a → Q (f a)) → (o : Option A) → Opt P o → Opt Q (map_option f o)
opt-of f g none absent = absent
opt-of f g (some a) (A.present h) = A.present (g a h)

pub opt_same : {A : Type 0} {P Q : A → Type 0} → ((a : A) → P a → Q a) → (o : Option A) → Opt P o → Opt Q o
opt_same g none absent = absent
opt_same g (some a) (A.present h) = A.present (g a h)

-- nothing to say of it
Any : {A : Type 0} → A → Type 0
Any a = T true

-- ---- transforms

reflection-gives : (n : ℕ) → Gives Goods (reflection_from n) Any
unfolding reflection_from Any
reflection-gives n = gives-cond Goods (eqb n 0x8000) (λ t. gives-pure Goods true tt) (gives-when Goods not_of_grammar (eqb n 0) (pure false) (λ h. gives-pure Goods false tt))

strans-gives : (kind : ℕ) → Gives Goods (strans sheet_limits kind) (Opt KeptStrans)
unfolding strans after_strans
strans-gives kind = bind (optional-gives kind 0 STRANS) after
  where
    after : (o : Option (List ℕ)) → Opt (Item kind 0 STRANS) o → Gives Goods (after_strans sheet_limits kind o) (Opt KeptStrans)
    after none h = gives-pure Goods none absent
    after (some b) h =
        bind (reflection-gives (number b)) (λ r x. bind (optional-gives kind 0 MAG) (λ m hm. bind (optional-gives kind 0 ANGLE)
        (λ a ha. gives-pure Goods _ (A.present (record { magnification = opt_same (mag_of kind 0) m hm; angle = opt_same (angle-of kind 0) a ha })))))

-- ---- points

one-fit : (ps : List (Point ℤ)) → All FitPoint ps → Opt FitPoint (one_point ps)
unfolding one_point
one-fit [] h = absent
one-fit (p ∷ []) (more h hs) = A.present h
one-fit (p ∷ q ∷ ps) h = absent

record FitCorners (k : Corners) : Type 0 where
  origin : FitPoint k.origin
  column_end : FitPoint k.column_end
  row_end : FitPoint k.row_end

three-fit : (ps : List (Point ℤ)) → All FitPoint ps → Opt FitCorners (three_points ps)
unfolding three_points
three-fit [] h = absent
three-fit (o ∷ []) h = absent
three-fit (o ∷ p ∷ []) h = absent
three-fit (o ∷ p ∷ q ∷ []) (more a (more b (more c done))) = A.present (record { origin = a; column_end = b; row_end = c })
three-fit (o ∷ p ∷ q ∷ r ∷ ps) h = absent

-- ---- steps

-- n of them lead from o to p
record AxisStep (n : ℕ) (p o a : ℤ) : Type 0 where
  reaches : endpoint o a n ≡ p
  ranged : T (in_range a)

step-opt : (n : ℕ) (z : ℤ) → Opt (λ a. a *ℤ pos n ≡ z) (step_of n z)
step-opt n z = go (step_of n z) refl
  where
    go : (o : Option ℤ) → step_of n z ≡ o → Opt (λ a. a *ℤ pos n ≡ z) o
    go none e = absent
    go (some a) e = A.present (step_is n z a e)

axis-gives : (n : ℕ) (p o : ℤ) → Gives Goods (axis_step sheet_limits n p o) (AxisStep n p o)
unfolding axis_step step_limit
axis-gives n p o =
    bind (gives-present Goods _ (step_of n (p -ℤ o)) (step-opt n (p -ℤ o)))
    (λ a h. unless-gives _ (λ e. gives-pure Goods a (record {
      reaches = +ℤ_comm o (a *ℤ pos n) ∙ ap (λ (z : ℤ). z +ℤ o) h ∙ -ℤ-+ℤ_cancel p o;
      ranged = need-passed (in_range a) R.ArrayCorners e;
    })))

record PointStep (n : ℕ) (p o a : Point ℤ) : Type 0 where
  reaches : endpoint_of o a n ≡ p
  ranged : InRange a

point-gives : (n : ℕ) (p o : Point ℤ) → Gives Goods (point_step sheet_limits n p o) (PointStep n p o)
unfolding point_step
point-gives n p o =
    bind (axis-gives n p.x o.x) (λ x hx. bind (axis-gives n p.y o.y)
    (λ y hy. gives-pure Goods _ (record { reaches = ap₂ (λ (a b : ℤ). record { x = a; y = b }) hx.reaches hy.reaches; ranged = record { x = hx.ranged; y = hy.ranged } })))

-- ---- bodies

shape-gives : (kind t : ℕ) → Coded t 2 max_data_type R.LayerOrType → Gives Goods (shape_body sheet_limits kind t) (KeptShape kind)
unfolding shape_body
shape-gives kind t w =
    bind (item-gives kind 0 LAYER) (λ l hl. bind (item-gives kind 0 t) (λ d hd. bind (item-gives kind 0 XY)
    (λ ps hp. gives-pure Goods _ (record { layer = limited-of I.layer kind 0 l hl; datatype = limited-of w kind 0 d hd; points = xy-of kind 0 ps hp; limit = xy-limit kind 0 ps hp }))))

path-gives : Gives Goods (path_body sheet_limits PATH) KeptPath
unfolding path_body
path-gives =
    bind (item-gives PATH 0 LAYER) (λ l hl. bind (item-gives PATH 0 DATATYPE) (λ d hd. bind (optional-gives PATH 0 PATHTYPE) (λ t ht. bind (optional-gives PATH 0 WIDTH)
    (λ w hw. bind (optional-gives PATH 0 BGNEXTN) (λ b hb. bind (optional-gives PATH 0 ENDEXTN) (λ e he. bind (item-gives PATH 0 XY)
    (λ ps hp. gives-pure Goods _ (record {
      layer = limited-of I.layer PATH 0 l hl;
      datatype = limited-of I.datatype PATH 0 d hd;
      path_type = opt-of number (λ b x. (limited-of I.pathtype PATH 0 b x).most) t ht;
      width = opt-of long (width_of PATH 0) w hw;
      begin = opt-of long (begin-of PATH 0) b hb;
      end = opt-of long (end_of PATH 0) e he;
      points = xy-of PATH 0 ps hp;
      count = path-limit (points_of ps) (xy-limit PATH 0 ps hp);
    }))))))))

text-gives : Gives Goods (text_body sheet_limits TEXT) KeptText
unfolding text_body
text-gives =
    bind (item-gives TEXT 0 LAYER) (λ l hl. bind (item-gives TEXT 0 TEXTTYPE) (λ t ht. bind (optional-gives TEXT 0 PRESENTATION) (λ p hq. bind (strans-gives TEXT)
    (λ u hu. bind (item-gives TEXT 0 XY) (λ ps hp. bind (gives-present Goods _ (one_point (points_of ps)) (one-fit (points_of ps) (xy-of TEXT 0 ps hp)))
    (λ o ho. bind (item-gives TEXT 0 STRING) (λ s hs. gives-pure Goods _ (record {
      layer = limited-of I.layer TEXT 0 l hl;
      texttype = limited-of I.texttype TEXT 0 t ht;
      presentation = opt-of number (presentation-of TEXT 0) p hq;
      transform = hu;
      origin = ho;
      string = string-of TEXT 0 s hs;
    }))))))))

sref-gives : Gives Goods (sref_body sheet_limits SREF) KeptSref
unfolding sref_body
sref-gives =
    bind (item-gives SREF 0 SNAME) (λ n hn. bind (strans-gives SREF) (λ u hu. bind (item-gives SREF 0 XY)
    (λ ps hp. bind (gives-present Goods _ (one_point (points_of ps)) (one-fit (points_of ps) (xy-of SREF 0 ps hp)))
    (λ o ho. gives-pure Goods _ (record { name = sname-of SREF 0 n hn; transform = hu; origin = ho })))))

some-gives : (n : ℕ) → Gives Goods (some_of n) (λ m. n ≡ m)
unfolding some_of
some-gives n = gives-when Goods (beyond R.ColumnsOrRows) (leb 1 n) (pure n) (λ h. gives-pure Goods n refl)

aref-gives : Gives Goods (aref_body sheet_limits AREF) KeptAref
unfolding aref_body
aref-gives =
    bind (item-gives AREF 0 SNAME) (λ n hn. bind (strans-gives AREF) (λ u hu. bind (item-gives AREF 0 COLROW)
    (λ m hm. bind (some-gives (number (take 2 m))) (λ c hc. bind (some-gives (number (drop 2 m))) (λ w hw. bind (item-gives AREF 0 XY)
    (λ ps hp. bind (gives-present Goods _ (three_points (points_of ps)) (three-fit (points_of ps) (xy-of AREF 0 ps hp)))
    (λ k hk. bind (point-gives c k.column_end k.origin) (λ a ha. bind (point-gives w k.row_end k.origin)
    (λ b hb. gives-pure Goods _ (record {
      name = sname-of AREF 0 n hn;
      transform = hu;
      columns = subst Several hc (colrow-of AREF 0 m hm).0;
      rows = subst Several hw (colrow-of AREF 0 m hm).1;
      origin = hk.origin;
      column_step = ha.ranged;
      row_step = hb.ranged;
      column_end = subst FitPoint (sym ha.reaches) hk.column_end;
      row_end = subst FitPoint (sym hb.reaches) hk.row_end;
    }))))))))))

body-gives : (kind : ℕ) → Gives Goods (body_after sheet_limits kind) KeptBody
unfolding body_after
body-gives kind =
    by BOUNDARY (λ k. map D.boundary (shape_body sheet_limits k DATATYPE)) (gives-map Goods D.boundary _ (shape-gives BOUNDARY DATATYPE I.datatype) (λ e h. K.boundary h))
    (by PATH (λ k. map D.path (path_body sheet_limits k)) (gives-map Goods D.path _ path-gives (λ e h. K.path h))
    (by TEXT (λ k. map D.text (text_body sheet_limits k)) (gives-map Goods D.text _ text-gives (λ e h. K.text h))
    (by NODE (λ k. map D.node (shape_body sheet_limits k NODETYPE)) (gives-map Goods D.node _ (shape-gives NODE NODETYPE I.nodetype) (λ e h. K.node h))
    (by SREF (λ k. map D.sref (sref_body sheet_limits k)) (gives-map Goods D.sref _ sref-gives (λ e h. K.sref h))
    (by AREF (λ k. map D.aref (aref_body sheet_limits k)) (gives-map Goods D.aref _ aref-gives (λ e h. K.aref h))
    (by BOX (λ k. map D.box (shape_body sheet_limits k BOXTYPE)) (gives-map Goods D.box _ (shape-gives BOX BOXTYPE I.boxtype) (λ e h. K.box h))
    (gives-fail Goods not_of_grammar)))))))
  where
    -- where the kind is c, what holds of c
    by : (c : ℕ) (p : ℕ → Reader SaidBody) {q : Reader SaidBody} → Gives Goods (p c) KeptBody → Gives Goods q KeptBody → Gives Goods (cond (eqb kind c) (p kind) q) KeptBody
    by c p g h = gives-cond Goods (eqb kind c) (λ t. subst (λ (k : ℕ). Gives Goods (p k) KeptBody) (sym (eqb→eq kind c t)) g) h

-- ---- properties

-- after i others
record KeptTail (i : ℕ) (qs : List Property) : Type 0 where
  all : All KeptProperty qs
  count : i + length qs ≤ max_properties

tail-gives : (f kind i : ℕ) → i ≤ max_properties → Gives Goods (properties_f sheet_limits f kind i) (KeptTail i)
unfolding properties_f property_or_end
tail-gives zero kind i l = gives-fail Goods _
tail-gives (suc f) kind i l = bind (optional-gives kind i ENDEL) (next (λ m. tail-gives f kind (suc i) m))
  where
    next : (i < max_properties → Gives Goods (properties_f sheet_limits f kind (suc i)) (KeptTail (suc i))) → (o : Option (List ℕ)) → Opt (Item kind i ENDEL) o
        → Gives Goods (property_or_end sheet_limits kind i (properties_f sheet_limits f kind (suc i)) o) (KeptTail i)
    next others (some b) h = gives-pure Goods [] (record { all = done; count = omega arith })
    next others none h =
        bind (item-gives kind i PROPATTR) (λ a ha. bind (item-gives kind i PROPVALUE)
        (λ v hv. let x = attribute-of kind i a ha in bind (others x.0)
        (λ qs hq. gives-pure Goods _ (record { all = more (record { attribute = x.1; value = value_of kind i v hv }) hq.all; count = omega (arith, hq.count) }))))

properties-gives : (kind : ℕ) → Gives Goods (properties sheet_limits kind) (KeptTail 0)
unfolding properties
properties-gives kind = record {
  value = λ s a r h e. (tail-gives (length s) kind 0 (omega arith)).value s a r h e;
  rest = λ s a r h e. (tail-gives (length s) kind 0 (omega arith)).rest s a r h e;
}

element-gives : (kind : ℕ) → Gives Goods (element_after sheet_limits kind) KeptElement
unfolding element_after
element-gives kind =
    bind (optional-gives kind 0 ELFLAGS) (λ f hf. bind (optional-gives kind 0 PLEX) (λ p hp. bind (body-gives kind) (λ b hb. bind (properties-gives kind)
    (λ qs hq. gives-pure Goods _ (record {
      flags = opt-of number (limited-of I.flags kind 0) f hf;
      plex = opt-of long (plex-of kind 0) p hp;
      body = hb;
      properties = hq.all;
      count = omega (arith, hq.count);
    })))))

-- ---- elements and the structure

block-gives : {A : Type 0} {Q : A → Type 0} (block : ℕ) (p : Reader A) → Gives Goods p Q → Gives Goods (in_block block p) Q
block-gives {A} {Q} block p g = record { value = λ s a r h e. go s a r (p s) refl e (λ d. g.value s a r h d); rest = λ s a r h e. go s a r (p s) refl e (λ d. g.rest s a r h d) }
  where
    go : {X : Type 0} (s : List Rec) (a : A) (r : List Rec) (z : Part Fault Rec A) → p s ≡ z → tagged block z ≡ part a r → (p s ≡ part a r → X) → X
    go s a r (ill c) d e f = no_part e
    go s a r (part b t) d e f =
        let u : b ≡ a = cc in
        let v : t ≡ r = cc in
        f (d ∙ ap₂ part u v)

on-true : (t : Bool) (m n : Made Done) → t ≡ true → refusal_in (cond t m n) ≡ none → refusal_in m ≡ none
on-true t m n h e = subst (λ (b : Bool). refusal_in (cond b m n) ≡ none) h e

-- the first record of the element of index i passes
first-kept : (i : ℕ) (r : Rec) → begins r.code ≡ true → refusal_in (record_limit r.code i r) ≡ none → suc i < max_pairs
unfolding record_limit
first-kept i r b e = ltb→lt (suc i) max_pairs (need-passed (ltb (suc i) max_pairs) R.Pairs (on-true (begins r.code) _ _ b e))

record FromKept (i : ℕ) (w : Said) : Type 0 where
  kept : KeptElement w
  place : suc i < max_pairs

from_gives : (i : ℕ) (r : Rec) → begins r.code ≡ true → Gives Goods (element_from sheet_limits i r) (FromKept i)
unfolding element_from
from_gives i r b =
    block-gives (suc i) _ (unless-gives _ (λ e. gives-weaker Goods _ (λ w h. record { kept = h; place = first-kept i r b e }) (element-gives r.code)))

-- after i others
record KeptElements (i : ℕ) (ws : List Said) : Type 0 where
  all : All KeptElement ws
  count : i + length ws < max_pairs

-- `others` reads the elements after the next
module _ (f i : ℕ) (l : i < max_pairs) (others : suc i < max_pairs → Gives Goods (elements_f sheet_limits f (suc i)) (KeptElements (suc i))) where
  more-gives : (x : Rec) → begins x.code ≡ true → Gives Goods (element_from sheet_limits i x >>= λ e. elements_f sheet_limits f (suc i) >>= λ es. pure (e ∷ es)) (KeptElements i)
  more-gives x b =
      bind (from_gives i x b) (λ w h. bind (others h.place) (λ ws hs. gives-pure Goods _ (record { all = more h.kept hs.all; count = omega (arith, hs.count) })))

  next-gives : (s : List Rec) (a : List Said) (r : List Rec) → Goods s → elements_f sheet_limits (suc f) i s ≡ part a r → KeptElements i a × Goods r
  unfolding elements_f
  next-gives [] a r h e = no_part e
  next-gives (x ∷ xs) a r (more g gs) e = go (eqb x.code ENDSTR) (begins x.code) refl e
    where
      go : (b c : Bool) → begins x.code ≡ c
          → cond b (part [] xs) (cond c (follow (element_from sheet_limits i x xs) (λ w s. follow (elements_f sheet_limits f (suc i) s) (λ es. pure (w ∷ es)))) (ill (record { fault = not_of_grammar; block = 0 }))) ≡ part a r
          → KeptElements i a × Goods r
      go true c q e =
          let u : [] ≡ a = cc in
          let v : xs ≡ r = cc in
          (subst (KeptElements i) u (record { all = done; count = omega arith }), subst Goods v gs)
      go false true q e = ((more-gives x q).value xs a r gs e, (more-gives x q).rest xs a r gs e)
      go false false q e = no_part e

elements-kept : (f i : ℕ) → i < max_pairs → Gives Goods (elements_f sheet_limits f i) (KeptElements i)
unfolding elements_f
elements-kept zero i l = record { value = λ s a r h e. no_part e; rest = λ s a r h e. no_part e }
elements-kept (suc f) i l = record {
  value = λ s a r h e. (next-gives f i l (λ m. elements-kept f (suc i) m) s a r h e).0;
  rest = λ s a r h e. (next-gives f i l (λ m. elements-kept f (suc i) m) s a r h e).1;
}

elements-gives : Gives Goods (elements sheet_limits) (KeptElements 0)
unfolding elements
elements-gives = record { value = λ s a r h e. (elements-kept (length s) 0 (omega arith)).value s a r h e; rest = λ s a r h e. (elements-kept (length s) 0 (omega arith)).rest s a r h e }

structure-gives : Gives Goods (structure sheet_limits) KeptStructure
unfolding structure
structure-gives =
    bind (block-gives 0 _ (item-gives 0 0 BGNSTR)) (λ t ht. bind (block-gives 0 _ (item-gives 0 0 STRNAME)) (λ n hn. bind elements-gives
    (λ es he. gives-pure Goods _ (record { stamps = stamps-of 0 0 t ht; name = strname-of 0 0 n hn; elements = he.all; count = omega (arith, he.count) }))))

-- WHAT IS READ KEEPS TO THE SHEET'S LIMITS.
pub read_kept : (bytes : List ℕ) (s : Structure) → Bytes bytes → read_structure sheet_limits bytes ≡ given s → KeptStructure s
unfolding read_structure
read_kept bytes s h e = go (run_of bytes).rest (structure sheet_limits (run_of bytes).records) refl e
  where
    go : (rest : List ℕ) (z : Part Stop Rec Structure) → structure sheet_limits (run_of bytes).records ≡ z → closed rest z ≡ given s → KeptStructure s
    go rest (ill c) d e = let z : ◌≡◌ {A = ℕ} 0 1 = cc in absurd (omega arith)
    go [] (part a []) d e = let u : a ≡ s = cc in subst KeptStructure u (structure-gives.value (run_of bytes).records a [] (run-good bytes h) d)
    go [] (part a (r ∷ rs)) d e = let z : ◌≡◌ {A = ℕ} 0 1 = cc in absurd (omega arith)
    go (b ∷ rest) (part a rs) d e = let z : ◌≡◌ {A = ℕ} 0 1 = cc in absurd (omega arith)
