-- A well-formed block holds what fits. Assumes nothing.
use mathlib.Core.Path.{◌≡◌, sym, ◌∙◌, subst}
use mathlib.Core.Bool.{Bool, true, false, ◌&&◌, cond}
use mathlib.Core.Option.{Option, none, some}
use mathlib.Core.List.{List}
use Prim.Native.Nat.{ℕ, ◌^◌, ◌≤◌, ◌<◌}
use native.Mathlib.Omega.{arith}
use lib.Dec.{T, leb, ltb, eqb, leb→le, ltb→lt}
use lib.ListN.{length, take, drop}
use lib.Seq.{length-take-le}
use lib.Ieee.{binary64, of_bits}
use lib.Ieee.Bits.{of_bits-fits}
use mir.Val.{to_z, Fits, SFits}
use mir.ValLaws.{to_z-Fits}
use mir.Syntax.{w32}
use Rattle.big_endian.specs.Big.{Bytes, number}
use Rattle.big_endian.proofs.BigLaws.{number_lt}
use Rattle.big_endian.proofs.BytesLaws.{take-bytes, drop-bytes}
use Rattle.parsing.specs.Parse.{ill, part, ill_formed, pure, times, ◌>>=◌}
use Rattle.parsing.specs.All.{Opt, absent, present}
use Rattle.parsing.proofs.ParseLaws.{items-is, no_part, Gives, gives-pure, gives-fail, gives-when, gives-bind, gives-map, gives-times, gives-weaker, gives_whole, gives-cond, gives-present}
use Rattle.units.specs.declared.Unit.{Unit}
use Rattle.units.specs.declared.Unit.TheVariants as U
use Rattle.sheet.specs.Form.{Form, integer_kind, double_kind, absent_kind, integer_limit, bytes, num, code, flag, double, string, counted, optional, long, coordinate_of, coordinate, point, spacing_of, spacing}
use Rattle.sheet.specs.Element.{Head, Element, polygon_kind, path_kind, text_kind, node_kind, reference_kind, box_kind, flags_raise, plex_raise, kind_limit, raised, plain_kind, max_path_type, property, head_form, shape_form, path_type_form, path_form, text_form, reference_form, box_form, body_form, element_form, head_of, element_of}
use Rattle.sheet.specs.Element as S
use Rattle.sheet.specs.Library.{LibraryHead, library_head_form, library_head_of}
use Rattle.sheet.proofs.Fine.{Word, Double, FineString, Counted, FineUnit, integer, float, FinePoint, FineProperty, FineHead, FineLibraryHead, FineShape, FinePath, FineText, FineReference, FineBox, FineBody, FineElement}
use Rattle.sheet.proofs.Fine as F

-- n bytes
pub record Run (n : ℕ) (b : List ℕ) : Type 0 where
  pub bytes : Bytes b
  pub count : length b ≡ n

bytes_gives : (n : ℕ) → Gives Bytes (bytes n) (Run n)
bytes_gives n = record {
  value = λ s a r h e. left s a r h (leb n (length s)) (leb→le n (length s)) (sym (items-is ill_formed n s) ∙ e);
  rest = λ s a r h e. right s a r h (leb n (length s)) (sym (items-is ill_formed n s) ∙ e);
}
  where
    left : (s a r : List ℕ) → Bytes s → (c : Bool) → (T c → n ≤ length s) → cond c (part (take n s) (drop n s)) (ill ill_formed) ≡ part a r → Run n a
    left s a r h true k e =
        let f : take n s ≡ a = cc in
        subst (λ (z : List ℕ). Run n z) f (record { bytes = take-bytes n s h; count = length-take-le n s (k tt) })
    left s a r h false k e = no_part e

    right : (s a r : List ℕ) → Bytes s → (c : Bool) → cond c (part (take n s) (drop n s)) (ill ill_formed) ≡ part a r → Bytes r
    right s a r h true e =
        let f : drop n s ≡ r = cc in
        subst Bytes f (drop-bytes n s h)
    right s a r h false e = no_part e

-- ---- parts: one line for each

bind : {A B : Type 0} {Q : A → Type 0} {R : B → Type 0} {p : Form A} {f : A → Form B} → Gives Bytes p Q → ((a : A) → Q a → Gives Bytes (f a) R) → Gives Bytes (p >>= f) R
bind {A} {B} {Q} {R} {p} {f} g k = gives-bind Bytes p f g k

-- one of two forms, by a test
either : {A : Type 0} {Q : A → Type 0} (t : Bool) {p q : Form A} → Gives Bytes p Q → Gives Bytes q Q → Gives Bytes (cond t p q) Q
either t g h = gives-cond Bytes t (λ x. g) h

-- nothing to say of it
Any : {A : Type 0} → A → Type 0
Any a = T true

num-gives : (k : ℕ) → Gives Bytes (num k) (λ n. n < 256 ^ k)
unfolding num
num-gives k = gives-map Bytes number (bytes k) (bytes_gives k) (λ b h. subst (λ (i : ℕ). number b < 256 ^ i) h.count (number_lt b h.bytes))

code_gives : (n : ℕ) → Gives Bytes (code n) (λ b. b ≤ n)
unfolding code
code_gives n = bind (num-gives 1) (λ b h. gives-when Bytes ill_formed (leb b n) (pure b) (λ t. gives-pure Bytes b (leb→le b n t)))

flag-gives : Gives Bytes flag Any
unfolding flag Any
flag-gives = gives-map Bytes (λ b. eqb b 1) (code 1) (code_gives 1) (λ b h. tt)

double-gives : Gives Bytes double Double
unfolding double
double-gives = gives-map Bytes (of_bits binary64) (num 8) (num-gives 8) (λ b h. of_bits-fits binary64 b)

string-gives : Gives Bytes string FineString
unfolding string
string-gives = bind (num-gives 2) (λ n h. gives-weaker Bytes (bytes n) (λ b k. record { bytes = k.bytes; short = subst Word (sym k.count) h }) (bytes_gives n))

counted-gives : {A : Type 0} {Q : A → Type 0} (p : Form A) → Gives Bytes p Q → Gives Bytes (counted p) (Counted Q)
unfolding counted
counted-gives p g = bind (num-gives 2) (λ n h. gives-weaker Bytes (times n p) (λ s k. record { each = k.all; count = subst Word (sym k.count) h }) (gives-times Bytes n p g))

-- ---- coordinates

-- the limit of an integer is that of its four bytes
four_bytes : (v : ℕ) → v < integer_limit → Fits w32 v
four_bytes v h = record { fits = omega arith }

kind-gives : (k v u : ℕ) → Gives Bytes (coordinate_of k v u) (Opt FineUnit)
unfolding coordinate_of
kind-gives k v u =
    either (eqb k integer_kind)
    (gives-when Bytes ill_formed (ltb v integer_limit) _
    (λ t. gives-pure Bytes (some (U.Integer (to_z w32 v) (of_bits binary64 u))) (present (integer (to_z-Fits w32 v (four_bytes v (ltb→lt v integer_limit t))) (of_bits-fits binary64 u)))))
    (either (eqb k double_kind) (gives-pure Bytes (some (U.Float (of_bits binary64 v) (of_bits binary64 u))) (present (float (of_bits-fits binary64 v) (of_bits-fits binary64 u))))
    (either (eqb k absent_kind) (gives-when Bytes ill_formed (eqb v 0 && eqb u 0) _ (λ t. gives-pure Bytes none absent))
    (gives-fail Bytes ill_formed)))

coordinate-gives : Gives Bytes coordinate (Opt FineUnit)
unfolding coordinate
coordinate-gives = bind (num-gives 1) (λ k hk. bind (num-gives 8) (λ v hv. bind (num-gives 8) (λ u hu. kind-gives k v u)))

point-gives : Gives Bytes point FinePoint
unfolding point
point-gives =
    bind (bind coordinate-gives (gives-present Bytes ill_formed))
    (λ x hx. bind (bind coordinate-gives (gives-present Bytes ill_formed))
    (λ y hy. gives-pure Bytes _ (record { x = hx; y = hy })))

spacing-gives : Gives Bytes spacing (Opt FinePoint)
unfolding spacing spacing_of
spacing-gives = bind coordinate-gives (λ x hx. bind coordinate-gives (λ y hy. go x y hx hy))
  where
    go : (x y : Option Unit) → Opt FineUnit x → Opt FineUnit y → Gives Bytes (spacing_of x y) (Opt FinePoint)
    go none none h k = gives-pure Bytes none absent
    go none (some y) h k = gives-fail Bytes ill_formed
    go (some x) none h k = gives-fail Bytes ill_formed
    go (some x) (some y) (present h) (present k) = gives-pure Bytes _ (present (record { x = h; y = k }))

-- ---- blocks

property-gives : Gives Bytes property FineProperty
unfolding property
property-gives = bind (num-gives 2) (λ a ha. bind string-gives (λ v hv. gives-pure Bytes _ (record { attribute = ha; value = hv })))

head-gives : Gives Bytes head_form FineHead
unfolding head_form
head-gives =
    bind string-gives
    (λ n hn. bind (gives-times Bytes 12 (num 2) (num-gives 2))
    (λ t ht. gives-pure Bytes _ (record { name = hn; stamps = ht.all; twelve = ht.count })))

library-head-gives : Gives Bytes library_head_form FineLibraryHead
unfolding library_head_form
library-head-gives =
    bind string-gives
    (λ n hn. bind double-gives
    (λ u hu. bind (gives-times Bytes 12 (num 2) (num-gives 2))
    (λ t ht. gives-pure Bytes _ (record { name = hn; user_unit = hu; stamps = ht.all; twelve = ht.count }))))

shape-gives : Gives Bytes shape_form FineShape
unfolding shape_form
shape-gives =
    bind (num-gives 2)
    (λ l hl. bind (num-gives 2)
    (λ t ht. bind (counted-gives point point-gives)
    (λ ps hp. gives-pure Bytes _ (record { layer = hl; datatype = ht; points = hp }))))

path-type-gives : Gives Bytes path_type_form (Opt (λ n. n ≤ max_path_type))
unfolding path_type_form
path-type-gives =
    bind (num-gives 1)
    (λ b hb. either (eqb b 255) (gives-pure Bytes none absent)
    (gives-when Bytes ill_formed (leb b max_path_type) (pure (some b)) (λ t. gives-pure Bytes (some b) (present (leb→le b max_path_type t)))))

path-gives : Gives Bytes path_form FinePath
unfolding path_form
path-gives =
    bind (num-gives 2)
    (λ l hl. bind (num-gives 2)
    (λ t ht. bind path-type-gives
    (λ k hk. bind coordinate-gives
    (λ w hw. bind coordinate-gives
    (λ b hb. bind coordinate-gives
    (λ e he. bind (counted-gives point point-gives)
    (λ ps hp. gives-pure Bytes _ (record { layer = hl; datatype = ht; path_type = hk; width = hw; begin = hb; end = he; points = hp }))))))))

text-gives : Gives Bytes text_form FineText
unfolding text_form
text-gives =
    bind (num-gives 2)
    (λ l hl. bind (num-gives 2)
    (λ t ht. bind (code_gives 2)
    (λ v hv. bind (code_gives 2)
    (λ h hh. bind flag-gives
    (λ r hr. bind double-gives
    (λ m hm. bind double-gives
    (λ a ha. bind point-gives
    (λ o ho. bind string-gives
    (λ s hs. gives-pure Bytes _ (record { layer = hl; texttype = ht; vertical = hv; horizontal = hh; magnification = hm; degrees = ha; origin = ho; string = hs }))))))))))

reference-gives : Gives Bytes reference_form FineReference
unfolding reference_form
reference-gives =
    bind string-gives
    (λ n hn. bind (num-gives 4)
    (λ c hc. bind (num-gives 4)
    (λ w hw. bind flag-gives
    (λ r hr. bind double-gives
    (λ m hm. bind double-gives
    (λ a ha. bind double-gives
    (λ si hsi. bind double-gives
    (λ co hco. bind point-gives
    (λ o ho. bind spacing-gives
    (λ sc hsc. bind spacing-gives
    (λ sr hsr. gives-pure Bytes _ (record {
      name = hn;
      columns = hc;
      rows = hw;
      magnification = hm;
      degrees = ha;
      sine = hsi;
      cosine = hco;
      origin = ho;
      column_spacing = hsc;
      row_spacing = hsr;
    }))))))))))))

box-gives : Gives Bytes box_form FineBox
unfolding box_form
box-gives =
    bind (num-gives 2)
    (λ l hl. bind (num-gives 2)
    (λ t ht. bind point-gives
    (λ p hp. bind point-gives
    (λ q hq. gives-pure Bytes _ (record { layer = hl; boxtype = ht; first = hp; second = hq })))))

body-gives : (k : ℕ) → Gives Bytes (body_form k) FineBody
unfolding body_form
body-gives k =
    either (eqb k polygon_kind) (gives-map Bytes S.polygon shape_form shape-gives (λ e h. F.polygon h))
    (either (eqb k path_kind) (gives-map Bytes S.path path_form path-gives (λ e h. F.path h))
    (either (eqb k text_kind) (gives-map Bytes S.text text_form text-gives (λ e h. F.text h))
    (either (eqb k node_kind) (gives-map Bytes S.node shape_form shape-gives (λ e h. F.node h))
    (either (eqb k reference_kind) (gives-map Bytes S.reference reference_form reference-gives (λ e h. F.reference h))
    (either (eqb k box_kind) (gives-map Bytes S.box box_form box-gives (λ e h. F.box h))
    (gives-fail Bytes ill_formed))))))

-- ---- options

optional-gives : {A : Type 0} {Q : A → Type 0} {p : Form A} (t : Bool) → Gives Bytes p Q → Gives Bytes (optional t p) (Opt Q)
unfolding optional
optional-gives {p = p} true g = gives-map Bytes some p g (λ a h. present h)
optional-gives false g = gives-pure Bytes none absent

long-gives : Gives Bytes long (SFits w32)
unfolding long
long-gives = gives-map Bytes (to_z w32) (num 4) (num-gives 4) (λ n h. to_z-Fits w32 n (record { fits = h }))

-- ---- elements

element-gives : Gives Bytes element_form FineElement
unfolding element_form
element-gives =
    bind (num-gives 1)
    (λ k hk. bind (optional-gives (raised flags_raise k) (num-gives 2))
    (λ f hf. bind (optional-gives (raised plex_raise k) long-gives)
    (λ p hp. bind (gives-when Bytes ill_formed (ltb k kind_limit) (body_form (plain_kind k)) (λ t. body-gives (plain_kind k)))
    (λ b hb. bind (counted-gives property property-gives)
    (λ qs hq. gives-pure Bytes _ (record { flags = hf; plex = hp; body = hb; properties = hq }))))))

pub element-fine : (b : List ℕ) (e : Element) → Bytes b → element_of b ≡ some e → FineElement e
unfolding element_of
element-fine b e h k = gives_whole Bytes element_form b e element-gives h k

pub head-fine : (b : List ℕ) (h : Head) → Bytes b → head_of b ≡ some h → FineHead h
unfolding head_of
head-fine b h k e = gives_whole Bytes head_form b h head-gives k e

pub library-head-fine : (b : List ℕ) (h : LibraryHead) → Bytes b → library_head_of b ≡ some h → FineLibraryHead h
unfolding library_head_of
library-head-fine b h k e = gives_whole Bytes library_head_form b h library-head-gives k e
