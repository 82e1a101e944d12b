-- What a record that was read within the sheet's limits holds. Assumes nothing.
use mathlib.Core.Path.{◌≡◌, refl, sym, ap, ◌∙◌, subst}
use mathlib.Core.Bool.{Bool, true, false, ◌&&◌, cond}
use mathlib.Core.Option.{Option, none, some, some-ne-none}
use mathlib.Core.List.{List, [], ◌∷◌}
use Prim.Native.Nat.{ℕ, zero, suc, ◌+◌, ◌-◌, ◌*◌, ◌/◌, ◌^◌, ◌≤◌, ◌<◌}
use native.Mathlib.Nat.{suc-mul}
use native.Mathlib.Omega.{arith}
use lib.Dec.{T, leb, eqb, leb→le, ltb→lt, eqb→eq}
use lib.ListN.{length, take, drop, length-drop}
use lib.IntN.{ℤ}
use lib.Ieee.{Float}
use lib.Ieee.Fits.{and_l, and_r}
use lib.Seq.{length-take-le}
use mir.ValLaws.{to_z-Fits}
use mir.Syntax.{w32}
use Rattle.big_endian.specs.Big.{Bytes, number}
use Rattle.big_endian.proofs.BigLaws.{number_lt}
use Rattle.big_endian.proofs.BytesLaws.{take-bytes, drop-bytes}
use Rattle.refusal.specs.declared.Refusal.{Refusal}
use Rattle.refusal.specs.declared.Refusal.TheVariants as R
use Rattle.parsing.specs.Parse.{Part, part, pure}
use Rattle.parsing.specs.All.{All, done, more, Opt, absent, present}
use Rattle.parsing.proofs.ParseLaws.{no_part, Gives}
use Rattle.units.specs.Point.{Point}
use Rattle.gds_format.specs.Decode.{double_of}
use Rattle.conversion.specs.Made.{Made, Done, refused, made, need, ◌>>=◌, ◌>>◌}
use Rattle.conversion.specs.Made as Made
use Rattle.sheet.specs.Element.{max_path_type}
use Rattle.stream.specs.Record.{Rec, manual, of_manual, BGNSTR, STRNAME, BOUNDARY, PATH, NODE, BOX, LAYER, DATATYPE, WIDTH, XY, SNAME, COLROW, TEXTTYPE, PRESENTATION, STRING, MAG, ANGLE, PATHTYPE, NODETYPE, BOXTYPE, PROPATTR, PROPVALUE, ELFLAGS, PLEX, BGNEXTN, ENDEXTN}
use Rattle.stream.specs.Read.{Fault, unless, item, optional, each, long, point_of, points_of, stamps_of}
use Rattle.stream.proofs.RecordLaws.{Good}
use Rattle.stream.proofs.Fit.{Even, Real, Word, Long, FitPoint}
use Rattle.cell.specs.Limits.{within, min_polygon_points, min_path_points, min_node_points, max_points, max_node_points, max_layer, max_data_type, max_string_length, max_value_length, max_col_row, max_flags}
use Rattle.cell.specs.Write.{write_magnification, write_angle, closed}
use Rattle.reading.specs.Box.{is_box}
use Rattle.reading.specs.Limits.{real_limit, points_limit, is_presentation, max_properties, record_limit, refusal_in, sheet_limits}
use Rattle.reading.proofs.Kept.{Limited, Named, Short, Written, Several, Attribute, Stamped}

-- a record of code c with the data b, which is good and admitted
pub record Item (kind i c : ℕ) (b : List ℕ) : Type 0 where
  pub data_type : ℕ
  pub good : Good (record { code = c; data_type = data_type; content = b })
  pub admitted : refusal_in (record_limit kind i (record { code = c; data_type = data_type; content = b })) ≡ none

-- ---- items are read so, from good records

abbrev pub Goods : List Rec → Type 0
Goods = All Good

item_of : (kind i c : ℕ) (r : Rec) → T (eqb r.code c) → Good r → refusal_in (record_limit kind i r) ≡ none → Item kind i c r.content
item_of kind i c r t g a = subst (λ (z : ℕ). Item kind i z r.content) (eqb→eq r.code c t) (record { data_type = r.data_type; good = g; admitted = a })

module _ {A : Type 0} (f : List ℕ → A) (Q : A → Type 0) (kind i c : ℕ) (q : (b : List ℕ) → Item kind i c b → Q (f b)) where
  -- f of the record's data, if it has the code and is admitted; else the other part
  head-gives : (r : Rec) (rs : List Rec) (other : Part _ Rec A) (a : A) (u : List Rec) → Good r → Goods rs → ((a : A) (u : List Rec) → other ≡ part a u → Q a × Goods u)
      → cond (eqb r.code c) (unless (refusal_in (record_limit kind i r)) (pure (f r.content)) rs) other ≡ part a u → Q a × Goods u
  head-gives r rs other a u g gs o e = go (eqb r.code c) refl (refusal_in (record_limit kind i r)) refl e
    where
      go : (t : Bool) → eqb r.code c ≡ t → (x : Option Refusal) → refusal_in (record_limit kind i r) ≡ x → cond t (unless x (pure (f r.content)) rs) other ≡ part a u → Q a × Goods u
      go true t none y e =
          let v : f r.content ≡ a = cc in
          let w : rs ≡ u = cc in
          (subst Q v (q r.content (item_of kind i c r (subst T (sym t) tt) g y)), subst Goods w gs)
      go true t (some x) y e = no_part e
      go false t x y e = o a u e

pub item-gives : (kind i c : ℕ) → Gives Goods (item sheet_limits kind i c) (Item kind i c)
unfolding item
item-gives kind i c = record { value = λ s a u h e. (go s a u h e).0; rest = λ s a u h e. (go s a u h e).1 }
  where
    go : (s : List Rec) (a : List ℕ) (u : List Rec) → Goods s → item sheet_limits kind i c s ≡ part a u → Item kind i c a × Goods u
    go [] a u h e = no_part e
    go (r ∷ rs) a u (more g gs) e = head-gives (λ b. b) (Item kind i c) kind i c (λ b x. x) r rs _ a u g gs (λ a u e. no_part e) e

pub optional-gives : (kind i c : ℕ) → Gives Goods (optional sheet_limits kind i c) (Opt (Item kind i c))
unfolding optional
optional-gives kind i c = record { value = λ s a u h e. (go s a u h e).0; rest = λ s a u h e. (go s a u h e).1 }
  where
    go : (s : List Rec) (a : Option (List ℕ)) (u : List Rec) → Goods s → optional sheet_limits kind i c s ≡ part a u → Opt (Item kind i c) a × Goods u
    go [] a u h e = no_part e
    go (r ∷ rs) a u (more g gs) e = head-gives some (Opt (Item kind i c)) kind i c (λ b x. present x) r rs _ a u g gs missing e
      where
        missing : (a : Option (List ℕ)) (u : List Rec) → ◌≡◌ {A = Part Fault Rec (Option (List ℕ))} (part none (r ∷ rs)) (part a u) → Opt (Item kind i c) a × Goods u
        missing a u e =
            let v : none ≡ a = cc in
            let w : r ∷ rs ≡ u = cc in
            (subst (Opt (Item kind i c)) v absent, subst Goods w (more g gs))

-- ---- checks that have passed

pub need-passed : (t : Bool) (r : Refusal) → refusal_in (need t r) ≡ none → T t
unfolding need
need-passed true r e = tt
need-passed false r e = absurd (some-ne-none r e)

then-passed : (t : Bool) (r : Refusal) (m : Made Done) → refusal_in (need t r >> m) ≡ none → T t × (refusal_in m ≡ none)
unfolding need ◌>>◌ ◌>>=◌
then-passed true r (refused x) e = (tt, e)
then-passed true r (made a vs) e = (tt, refl)
then-passed false r m e = absurd (some-ne-none r e)

-- ---- numbers

word_of : (b : List ℕ) → length b ≡ 2 → Bytes b → Word (number b)
word_of b e h = subst (λ (n : ℕ). number b < 256 ^ n) e (number_lt b h)

long_of : (b : List ℕ) → length b ≡ 4 → Bytes b → Long (long b)
long_of b e h = to_z-Fits w32 (number b) (record { fits = subst (λ (n : ℕ). number b < 256 ^ n) e (number_lt b h) })

-- a record whose data have a size of their own
size_is : (n k t : ℕ) (b : List ℕ) → T (eqb k t && eqb (length b) n) → length b ≡ n
size_is n k t b h = eqb→eq (length b) n (and_r (eqb k t) (eqb (length b) n) h)

-- the codes of 2-byte numbers with a limit: data type, limit and refusal
pub data Coded : ℕ → ℕ → ℕ → Refusal → Type 0 where
  flags : Coded ELFLAGS 1 max_flags R.Flags
  layer : Coded LAYER 2 max_layer R.LayerOrType
  datatype : Coded DATATYPE 2 max_data_type R.LayerOrType
  texttype : Coded TEXTTYPE 2 max_data_type R.LayerOrType
  nodetype : Coded NODETYPE 2 max_data_type R.LayerOrType
  boxtype : Coded BOXTYPE 2 max_data_type R.LayerOrType
  pathtype : Coded PATHTYPE 2 max_path_type R.NotStructure

coded-size : {c k m : ℕ} {r : Refusal} → Coded c k m r → (t : ℕ) (b : List ℕ) → of_manual (record { code = c; data_type = t; content = b }) ≡ (eqb k t && eqb (length b) 2)
unfolding of_manual manual
coded-size flags t b = refl
coded-size layer t b = refl
coded-size datatype t b = refl
coded-size texttype t b = refl
coded-size nodetype t b = refl
coded-size boxtype t b = refl
coded-size pathtype t b = refl

pub coded-limit : {c k m : ℕ} {r : Refusal} → Coded c k m r → (kind i t : ℕ) (b : List ℕ) → record_limit kind i (record { code = c; data_type = t; content = b }) ≡ need (leb (number b) m) r
unfolding record_limit
coded-limit flags kind i t b = refl
coded-limit layer kind i t b = refl
coded-limit datatype kind i t b = refl
coded-limit texttype kind i t b = refl
coded-limit nodetype kind i t b = refl
coded-limit boxtype kind i t b = refl
coded-limit pathtype kind i t b = refl

pub limited-of : {c k m : ℕ} {r : Refusal} → Coded c k m r → (kind i : ℕ) (b : List ℕ) → Item kind i c b → Limited m (number b)
limited-of {k = k} {m = m} {r = r} l kind i b x = record {
  word = word_of b (size_is 2 k x.data_type b (subst T (coded-size l x.data_type b) x.good.manual)) x.good.bytes;
  most = leb→le (number b) m (need-passed _ r (subst (λ (z : Made Done). refusal_in z ≡ none) (coded-limit l kind i x.data_type b) x.admitted));
}

module _ (kind i : ℕ) (b : List ℕ) where
  pub plex-of : Item kind i PLEX b → Long (long b)
  unfolding of_manual manual
  plex-of x = long_of b (size_is 4 3 x.data_type b x.good.manual) x.good.bytes

  pub presentation-of : Item kind i PRESENTATION b → T (is_presentation (number b))
  unfolding record_limit
  presentation-of x = need-passed _ _ x.admitted

  pub width_of : Item kind i WIDTH b → Long (long b)
  unfolding of_manual manual
  width_of x = long_of b (size_is 4 3 x.data_type b x.good.manual) x.good.bytes

  pub begin-of : Item kind i BGNEXTN b → Long (long b)
  unfolding of_manual manual
  begin-of x = long_of b (size_is 4 3 x.data_type b x.good.manual) x.good.bytes

  pub end_of : Item kind i ENDEXTN b → Long (long b)
  unfolding of_manual manual
  end_of x = long_of b (size_is 4 3 x.data_type b x.good.manual) x.good.bytes

  pub attribute-of : Item kind i PROPATTR b → (i < max_properties) × Attribute (number b)
  unfolding record_limit
  attribute-of x = let k = then-passed _ _ (need _ R.Attribute) x.admitted in (ltb→lt i max_properties k.0, need-passed _ _ k.1)

-- ---- reals

then-none : {A : Type 0} (m : Made A) → refusal_in (m >> Made.pure {A = Done} tt) ≡ none → refusal_in m ≡ none
unfolding ◌>>◌ ◌>>=◌
then-none (refused r) e = e
then-none (made a vs) e = refl

written_of : {A : Type 0} (write : Float → Made A) (b : List ℕ) → Real b → refusal_in (real_limit write (double_of b)) ≡ none → Written write b
unfolding real_limit
written_of write b r e = go (double_of b) refl e
  where
    go : (o : Option Float) → double_of b ≡ o → refusal_in (real_limit write o) ≡ none → Written write b
    go none d e = absurd (some-ne-none R.InexactReal e)
    go (some x) d e = record { real = r; value = x; reads = d; passes = then-none (write x) e }

module _ (kind i : ℕ) (b : List ℕ) where
  pub mag_of : Item kind i MAG b → Written write_magnification b
  unfolding of_manual manual record_limit
  mag_of x = written_of write_magnification b (record { count = size_is 8 5 x.data_type b x.good.manual; bytes = x.good.bytes }) x.admitted

  pub angle-of : Item kind i ANGLE b → Written write_angle b
  unfolding of_manual manual record_limit
  angle-of x = written_of write_angle b (record { count = size_is 8 5 x.data_type b x.good.manual; bytes = x.good.bytes }) x.admitted

  -- ---- strings

  even-of : (c : ℕ) → Item kind i c b → Even b
  even-of c x = record { even = x.good.even; short = x.good.short; bytes = x.good.bytes }

  pub sname-of : Item kind i SNAME b → Named b
  unfolding record_limit
  sname-of x = record { even = even-of SNAME x; name = need-passed _ _ x.admitted }

  pub strname-of : Item kind i STRNAME b → Named b
  unfolding record_limit
  strname-of x = record { even = even-of STRNAME x; name = need-passed _ _ x.admitted }

  pub string-of : Item kind i STRING b → Short max_string_length b
  unfolding record_limit
  string-of x = record { even = even-of STRING x; short = leb→le _ max_string_length (need-passed _ _ x.admitted) }

  pub value_of : Item kind i PROPVALUE b → Short max_value_length b
  unfolding record_limit
  value_of x = record { even = even-of PROPVALUE x; short = leb→le _ max_value_length (need-passed _ _ x.admitted) }

-- ---- parts of one length in a row

module _ {A : Type 0} (f : List ℕ → A) (k : ℕ) (Q : A → Type 0) (part : (b : List ℕ) → Bytes b → length b ≡ k → Q (f b)) where
  each_of : (n : ℕ) (b : List ℕ) → Bytes b → n * k ≤ length b → All Q (each f k n b)
  unfolding each
  each_of zero b h l = done
  each_of (suc n) b h l =
      let m : n * k + k ≤ length b = subst (λ (z : ℕ). z ≤ length b) (suc-mul n k) l in
      more (part (take k b) (take-bytes k b h) (length-take-le k b (first (n * k) k (length b) m)))
      (each_of n (drop k b) (drop-bytes k b h) (subst (λ (z : ℕ). n * k ≤ z) (sym (length-drop k b)) (others (n * k) k (length b) m)))
    where
      first : (a b c : ℕ) → a + b ≤ c → b ≤ c
      first a b c h = omega arith

      others : (a b c : ℕ) → a + b ≤ c → a ≤ c - b
      others a b c h = omega arith

each-length : {A : Type 0} (f : List ℕ → A) (k n : ℕ) (b : List ℕ) → length (each f k n b) ≡ n
unfolding each
each-length f k zero b = refl
each-length f k (suc n) b = ap suc (each-length f k n (drop k b))

-- ---- points

point-fit : (b : List ℕ) → Bytes b → length b ≡ 8 → FitPoint (point_of b)
point-fit b h e = record {
  x = long_of (take 4 b) (length-take-le 4 b (omega arith)) (take-bytes 4 b h);
  y = long_of (drop 4 b) (length-drop 4 b ∙ omega arith) (drop-bytes 4 b h);
}

pub xy-of : (kind i : ℕ) (b : List ℕ) → Item kind i XY b → All FitPoint (points_of b)
xy-of kind i b x = each_of point_of 8 FitPoint point-fit (length b / 8) b x.good.bytes (whole (length b))
  where
    whole : (n : ℕ) → n / 8 * 8 ≤ n
    whole n = omega arith

pub xy-limit : (kind i : ℕ) (b : List ℕ) → Item kind i XY b → refusal_in (points_limit kind (points_of b)) ≡ none
unfolding record_limit
xy-limit kind i b x = x.admitted

pub record PolygonPoints (ps : List (Point ℤ)) : Type 0 where
  pub count : T (within min_polygon_points (length ps) max_points)
  pub ends : T (closed ps)

pub polygon-limit : (ps : List (Point ℤ)) → refusal_in (points_limit BOUNDARY ps) ≡ none → PolygonPoints ps
unfolding points_limit
polygon-limit ps e = let k = then-passed _ _ (need (closed ps) R.NotClosed) e in record { count = k.0; ends = need-passed _ _ k.1 }

pub path-limit : (ps : List (Point ℤ)) → refusal_in (points_limit PATH ps) ≡ none → T (within min_path_points (length ps) max_points)
unfolding points_limit
path-limit ps e = need-passed _ _ e

pub node-limit : (ps : List (Point ℤ)) → refusal_in (points_limit NODE ps) ≡ none → T (within min_node_points (length ps) max_node_points)
unfolding points_limit
node-limit ps e = need-passed _ _ e

pub box-limit : (ps : List (Point ℤ)) → refusal_in (points_limit BOX ps) ≡ none → T (is_box ps)
unfolding points_limit
box-limit ps e = need-passed _ _ e

-- ---- columns and rows, stamps

pub colrow-of : (kind i : ℕ) (b : List ℕ) → Item kind i COLROW b → Several (number (take 2 b)) × Several (number (drop 2 b))
unfolding record_limit
colrow-of kind i b x =
    let t = need-passed _ _ x.admitted in
    let c = within 1 (number (take 2 b)) max_col_row in
    let r = within 1 (number (drop 2 b)) max_col_row in
    (and_l c r t, and_r c r t)

pub stamps-of : (kind i : ℕ) (b : List ℕ) → Item kind i BGNSTR b → Stamped (stamps_of b)
unfolding of_manual manual record_limit
stamps-of kind i b x =
    let e = size_is 24 2 x.data_type b x.good.manual in
    record { words = each_of number 2 Word (λ c h l. word_of c l h) 12 b x.good.bytes (omega arith); twelve = each-length number 2 12 b; dated = need-passed _ _ x.admitted }
