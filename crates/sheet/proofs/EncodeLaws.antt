-- The sheet of a cell holds that cell: each part of a block is read back from its bytes, and so is the whole. Assumes nothing.
use mathlib.Core.Path.{◌≡◌, refl, sym, ap, ap₂, ◌∙◌}
use mathlib.Core.Bool.{Bool, true, false, cond}
use mathlib.Core.Option.{Option, none, some}
use mathlib.Core.List.{List, [], ◌∷◌, ◌++◌, append_assoc, append-nil}
use Prim.Native.Nat.{ℕ, zero, suc, ◌+◌, ◌-◌, ◌/◌, ◌%◌, ◌^◌, ◌≤◌, ◌<◌}
use native.Mathlib.Omega.{arith}
use borrow.Author.Tests.{le-leb, lt-ltb}
use lib.Dec.{ltb, eqb}
use lib.ListN.{length}
use lib.IntN.{ℤ}
use lib.Ieee.{Float, binary64, to_bits}
use lib.Ieee.Bits.{of_bits-to_bits, to_bits-lt}
use mir.Val.{SFits, of_z}
use mir.ValLaws.{to_z-of_z, of_z_fits}
use mir.Syntax.{w32}
use Rattle.big_endian.specs.Big.{bytes_of, joined}
use Rattle.big_endian.proofs.BigLaws.{length-bytes_of, number-back}
use Rattle.parsing.specs.Parse.{part, ill_formed, when, items, times, ended, ◌>>=◌}
use Rattle.parsing.specs.All.{All, done, more, Opt, absent, present}
use Rattle.parsing.proofs.ParseLaws.{then, items-append}
use Rattle.units.specs.declared.Unit.{Unit}
use Rattle.units.specs.declared.Unit.TheVariants as U
use Rattle.units.specs.Point.{Point}
use Rattle.sheet.specs.Form.{Form, bytes, num, code, flag, double, string, counted, optional, long, integer_kind, double_kind, integer_limit, coordinate_of, coordinate, point, spacing_of, spacing}
use Rattle.sheet.specs.Element.{Property, Head, Shape, Path, Text, Reference, Box, Body, Element, kind_of, flags_raise, plex_raise, kind_limit, raised, plain_kind, max_path_type, property, head_form, shape_form, path_type_form, path_form, text_form, reference_form, box_form, body_form, element_form, head_of, element_of}
use Rattle.sheet.specs.Element as S
use Rattle.sheet.specs.Blocks.{max_pairs, pair_count, pairs_fit, block_of, blocks_from}
use Rattle.sheet.specs.Cell.{Cell, cons_to, elements_of, cell_from, element_blocks, cell_of}
use Rattle.sheet.specs.Encode.{counted_bytes, string_bytes, double_bytes, flag_bytes, unit_bytes, coordinate_bytes, point_bytes, spacing_bytes, property_bytes, head_block, shape_bytes, path_type_byte, path_bytes, text_bytes, reference_bytes, box_bytes, body_bytes, addition, kind_byte, option_bytes, plex_bytes, element_block, blocks_of, cell_sheet}
use Rattle.sheet.proofs.Fine.{Word, Double, FineString, Counted, FineUnit, integer, float, FinePoint, FineProperty, FineHead, FineShape, FinePath, FineText, FineReference, FineBox, FineBody, FineElement}
use Rattle.sheet.proofs.Fine as F
use Rattle.sheet.proofs.BlocksLaws.{Some, FitBlocks, count-is, pairs-fit, blocks-back}

-- a cell that a sheet holds, of at most 16,383 elements and fewer than 2 ^ 32 bytes
pub record FineCell (c : Cell) : Type 0 where
  pub head : FineHead c.head
  pub elements : All FineElement c.elements
  pub most : length c.elements < max_pairs
  pub short : length (cell_sheet c) < 2 ^ 32

-- ---- parts

bytes_back : (k v : ℕ) (rest : List ℕ) → bytes k (bytes_of k v ++ rest) ≡ part (bytes_of k v) rest
bytes_back k v rest = ap (λ (n : ℕ). bytes n (bytes_of k v ++ rest)) (sym (length-bytes_of k v)) ∙ items-append ill_formed (bytes_of k v) rest

num-back : (k v : ℕ) (rest : List ℕ) → v < 256 ^ k → num k (bytes_of k v ++ rest) ≡ part v rest
unfolding num
num-back k v rest h = then _ (bytes_back k v rest) (ap (λ (n : ℕ). part n rest) (number-back k v h))

word_back : (v : ℕ) (rest : List ℕ) → Word v → num 2 (bytes_of 2 v ++ rest) ≡ part v rest
word_back v rest h = num-back 2 v rest h

byte-back : (b : ℕ) (rest : List ℕ) → num 1 (b ∷ rest) ≡ part b rest
unfolding num items
byte-back b rest = refl

code-back : (n b : ℕ) (rest : List ℕ) → b ≤ n → code n (b ∷ rest) ≡ part b rest
unfolding code
code-back n b rest h = then _ (byte-back b rest) (rw (le-leb b n h))

flag-back : (r : Bool) (rest : List ℕ) → flag (flag_bytes r ++ rest) ≡ part r rest
unfolding flag
flag-back true rest = then _ (code-back 1 1 rest (omega arith)) refl
flag-back false rest = then _ (code-back 1 0 rest (omega arith)) refl

double-back : (x : Float) (rest : List ℕ) → Double x → double (double_bytes x ++ rest) ≡ part x rest
unfolding double
double-back x rest h = then _ (num-back 8 (to_bits binary64 x) rest (to_bits-lt binary64 x h)) (ap (λ (y : Float). part y rest) (of_bits-to_bits binary64 x h))

string-back : (s rest : List ℕ) → FineString s → string (string_bytes s ++ rest) ≡ part s rest
unfolding string
string-back s rest h = ap string (append_assoc (bytes_of 2 (length s)) s rest) ∙ then _ (word_back (length s) (s ++ rest) h.short) (items-append ill_formed s rest)

module _ {A : Type 0} (f : A → List ℕ) (p : Form A) (Q : A → Type 0) (back : (a : A) (rest : List ℕ) → Q a → p (f a ++ rest) ≡ part a rest) where
  times-back : (s : List A) (rest : List ℕ) → All Q s → times (length s) p (joined f s ++ rest) ≡ part s rest
  unfolding times
  times-back [] rest h = refl
  times-back (a ∷ s) rest (more h hs) =
      ap (times (suc (length s)) p) (append_assoc (f a) (joined f s) rest)
      ∙ then _ (back a (joined f s ++ rest) h) (then _ (times-back s rest hs) refl)

  counted_back : (s : List A) (rest : List ℕ) → Counted Q s → counted p (counted_bytes f s ++ rest) ≡ part s rest
  unfolding counted
  counted_back s rest h = ap (counted p) (append_assoc (bytes_of 2 (length s)) (joined f s) rest) ∙ then _ (word_back (length s) (joined f s ++ rest) h.count) (times-back s rest h.each)

-- ---- coordinates

wide : (v : ℤ) → SFits w32 v → of_z w32 v < integer_limit
wide v h = (of_z_fits w32 v h).fits

unit-back : (u : Unit) (rest : List ℕ) → FineUnit u → coordinate (unit_bytes u ++ rest) ≡ part (some u) rest
unfolding coordinate coordinate_of
unit-back (U.Integer v u) rest (integer h k) =
    then _ (byte-back _ _) (ap (λ (s : List ℕ). (num 8 >>= λ a. num 8 >>= λ b. coordinate_of integer_kind a b) s) (append_assoc (bytes_of 8 (of_z w32 v)) (double_bytes u) rest)
    ∙ then _ (num-back 8 (of_z w32 v) _ (omega (arith, wide v h)))
    (then _ (num-back 8 (to_bits binary64 u) rest (to_bits-lt binary64 u k))
    (rw (lt-ltb (of_z w32 v) integer_limit (wide v h)) (ap₂ (λ (z : ℤ) (x : Float). part (some (U.Integer z x)) rest) (to_z-of_z w32 v h) (of_bits-to_bits binary64 u k)))))
unit-back (U.Float v u) rest (float h k) =
    then _ (byte-back _ _) (ap (λ (s : List ℕ). (num 8 >>= λ a. num 8 >>= λ b. coordinate_of double_kind a b) s) (append_assoc (double_bytes v) (double_bytes u) rest)
    ∙ then _ (num-back 8 (to_bits binary64 v) _ (to_bits-lt binary64 v h))
    (then _ (num-back 8 (to_bits binary64 u) rest (to_bits-lt binary64 u k))
    (ap₂ (λ (x y : Float). part (some (U.Float x y)) rest) (of_bits-to_bits binary64 v h) (of_bits-to_bits binary64 u k))))

absent-back : (rest : List ℕ) → coordinate (coordinate_bytes none ++ rest) ≡ part none rest
unfolding coordinate coordinate_of num items
absent-back rest = refl

coordinate-back : (o : Option Unit) (rest : List ℕ) → Opt FineUnit o → coordinate (coordinate_bytes o ++ rest) ≡ part o rest
coordinate-back none rest absent = absent-back rest
coordinate-back (some u) rest (present h) = unit-back u rest h

point-back : (p : Point Unit) (rest : List ℕ) → FinePoint p → point (point_bytes p ++ rest) ≡ part p rest
unfolding point
point-back p rest h =
    ap point (append_assoc (unit_bytes p.x) (unit_bytes p.y) rest)
    ∙ then _ (then _ (unit-back p.x _ h.x) refl) (then _ (then _ (unit-back p.y rest h.y) refl) refl)

spacing-back : (o : Option (Point Unit)) (rest : List ℕ) → Opt FinePoint o → spacing (spacing_bytes o ++ rest) ≡ part o rest
unfolding spacing spacing_of
spacing-back none rest absent = ap spacing (append_assoc (coordinate_bytes none) (coordinate_bytes none) rest) ∙ then _ (absent-back _) (then _ (absent-back rest) refl)
spacing-back (some p) rest (present h) =
    ap spacing (append_assoc (unit_bytes p.x) (unit_bytes p.y) rest) ∙ then _ (unit-back p.x _ h.x) (then _ (unit-back p.y rest h.y) refl)

-- ---- blocks

property-back : (q : Property) (rest : List ℕ) → FineProperty q → property (property_bytes q ++ rest) ≡ part q rest
unfolding property
property-back q rest h =
    ap property (append_assoc (bytes_of 2 q.attribute) (string_bytes q.value) rest) ∙ then _ (word_back q.attribute _ h.attribute) (then _ (string-back q.value rest h.value) refl)

head-back : (h : Head) → FineHead h → head_form (head_block h ++ []) ≡ part h []
unfolding head_form head_block
head-back h f =
    ap head_form (append_assoc (string_bytes h.name) (joined (bytes_of 2) h.stamps) [])
    ∙ then _ (string-back h.name _ f.name)
    (then _ (ap (λ (n : ℕ). times n (num 2) (joined (bytes_of 2) h.stamps ++ [])) (sym f.twelve) ∙ times-back (bytes_of 2) (num 2) Word word_back h.stamps [] f.stamps) refl)

shape-back : (e : Shape) (rest : List ℕ) → FineShape e → shape_form (shape_bytes e ++ rest) ≡ part e rest
unfolding shape_form shape_bytes
shape-back e rest h =
    then _ (word_back e.layer _ h.layer) (then _ (word_back e.datatype _ h.datatype)
    (then _ (counted_back point_bytes point FinePoint point-back e.points rest h.points) refl))

path-type-back : (o : Option ℕ) (rest : List ℕ) → Opt (λ n. n ≤ max_path_type) o → path_type_form (path_type_byte o ∷ rest) ≡ part o rest
unfolding path_type_form
path-type-back none rest absent = then _ (byte-back _ _) refl
path-type-back (some n) rest (present h) = then _ (byte-back _ _) (rw (other n h) (rw (le-leb n max_path_type h)))
  where
    other : (n : ℕ) → n ≤ max_path_type → eqb n 255 ≡ false
    other zero h = refl
    other (suc zero) h = refl
    other (suc (suc zero)) h = refl
    other (suc (suc (suc n))) h = absurd (omega arith)

path-back : (e : Path) (rest : List ℕ) → FinePath e → path_form (path_bytes e ++ rest) ≡ part e rest
unfolding path_form path_bytes
path-back e rest h =
    then _ (word_back e.layer _ h.layer) (then _ (word_back e.datatype _ h.datatype) (then _ (path-type-back e.path_type _ h.path_type)
    (rw (append_assoc (coordinate_bytes e.width)) (then _ (coordinate-back e.width _ h.width)
    (rw (append_assoc (coordinate_bytes e.begin)) (then _ (coordinate-back e.begin _ h.begin)
    (rw (append_assoc (coordinate_bytes e.end)) (then _ (coordinate-back e.end _ h.end)
    (then _ (counted_back point_bytes point FinePoint point-back e.points rest h.points) refl)))))))))

text-back : (e : Text) (rest : List ℕ) → FineText e → text_form (text_bytes e ++ rest) ≡ part e rest
unfolding text_form text_bytes
text-back e rest h =
    then _ (word_back e.layer _ h.layer) (then _ (word_back e.texttype _ h.texttype)
    (then _ (code-back 2 e.vertical _ h.vertical) (then _ (code-back 2 e.horizontal _ h.horizontal)
    (then _ (flag-back e.reflection _)
    (then _ (double-back e.magnification _ h.magnification) (then _ (double-back e.degrees _ h.degrees)
    (rw (append_assoc (point_bytes e.origin)) (then _ (point-back e.origin _ h.origin)
    (then _ (string-back e.string rest h.string) refl)))))))))

reference-back : (e : Reference) (rest : List ℕ) → FineReference e → reference_form (reference_bytes e ++ rest) ≡ part e rest
unfolding reference_form reference_bytes
reference-back e rest h =
    rw (append_assoc (string_bytes e.name)) (then _ (string-back e.name _ h.name)
    (then _ (num-back 4 e.columns _ h.columns) (then _ (num-back 4 e.rows _ h.rows)
    (then _ (flag-back e.reflection _)
    (then _ (double-back e.magnification _ h.magnification) (then _ (double-back e.degrees _ h.degrees)
    (then _ (double-back e.sine _ h.sine) (then _ (double-back e.cosine _ h.cosine)
    (rw (append_assoc (point_bytes e.origin)) (then _ (point-back e.origin _ h.origin)
    (rw (append_assoc (spacing_bytes e.column_spacing)) (then _ (spacing-back e.column_spacing _ h.column_spacing)
    (then _ (spacing-back e.row_spacing rest h.row_spacing) refl)))))))))))))

box-back : (e : Box) (rest : List ℕ) → FineBox e → box_form (box_bytes e ++ rest) ≡ part e rest
unfolding box_form box_bytes
box-back e rest h =
    then _ (word_back e.layer _ h.layer) (then _ (word_back e.boxtype _ h.boxtype)
    (rw (append_assoc (point_bytes e.first)) (then _ (point-back e.first _ h.first)
    (then _ (point-back e.second rest h.second) refl))))

body_back : (b : Body) (rest : List ℕ) → FineBody b → body_form (kind_of b) (body_bytes b ++ rest) ≡ part b rest
unfolding body_form
body_back (S.polygon e) rest (F.polygon h) = then _ (shape-back e rest h) refl
body_back (S.path e) rest (F.path h) = then _ (path-back e rest h) refl
body_back (S.text e) rest (F.text h) = then _ (text-back e rest h) refl
body_back (S.node e) rest (F.node h) = then _ (shape-back e rest h) refl
body_back (S.reference e) rest (F.reference h) = then _ (reference-back e rest h) refl
body_back (S.box e) rest (F.box h) = then _ (box-back e rest h) refl

-- ---- options

abbrev is_there : {A : Type 0} → Option A → Bool
is_there none = false
is_there (some a) = true

long-back : (z : ℤ) (rest : List ℕ) → SFits w32 z → long (plex_bytes z ++ rest) ≡ part z rest
unfolding long
long-back z rest h = then _ (num-back 4 (of_z w32 z) rest (wide z h)) (ap (λ (w : ℤ). part w rest) (to_z-of_z w32 z h))

option_back : {A : Type 0} (f : A → List ℕ) (p : Form A) (Q : A → Type 0) → ((a : A) (rest : List ℕ) → Q a → p (f a ++ rest) ≡ part a rest)
    → (t : Bool) (o : Option A) → t ≡ is_there o → (rest : List ℕ) → Opt Q o → optional t p (option_bytes f o ++ rest) ≡ part o rest
unfolding optional
option_back f p Q back t none e rest h = rw e
option_back f p Q back t (some a) e rest (present h) = rw e (then _ (back a rest h) refl)

-- what is read from a kind's byte that is raised
record KindBack {A B : Type 0} (k : ℕ) (f : Option A) (p : Option B) : Type 0 where
  flags : raised flags_raise (k + addition flags_raise f + addition plex_raise p) ≡ is_there f
  plex : raised plex_raise (k + addition flags_raise f + addition plex_raise p) ≡ is_there p
  plain : plain_kind (k + addition flags_raise f + addition plex_raise p) ≡ k
  low : k + addition flags_raise f + addition plex_raise p < kind_limit

-- by a digit c, 0 or 1
raised_by : (c n k : ℕ) → k / n % 2 ≡ c → raised n k ≡ eqb c 1
raised_by c n k e = rw e

kind-back : {A B : Type 0} (k : ℕ) → k < flags_raise → (f : Option A) (p : Option B) → KindBack k f p
kind-back k h none none = record { flags = raised_by 0 flags_raise (k + 0 + 0) (omega arith); plex = raised_by 0 plex_raise (k + 0 + 0) (omega arith); plain = omega arith; low = omega arith }
kind-back k h none (some p) = record { flags = raised_by 0 flags_raise (k + 0 + plex_raise) (omega arith); plex = raised_by 1 plex_raise (k + 0 + plex_raise) (omega arith); plain = omega arith; low = omega arith }
kind-back k h (some f) none = record { flags = raised_by 1 flags_raise (k + flags_raise + 0) (omega arith); plex = raised_by 0 plex_raise (k + flags_raise + 0) (omega arith); plain = omega arith; low = omega arith }
kind-back k h (some f) (some p) =
    let n = k + flags_raise + plex_raise in
    record { flags = raised_by 1 flags_raise n (omega arith); plex = raised_by 1 plex_raise n (omega arith); plain = omega arith; low = omega arith }

kind-low : (b : Body) → kind_of b < flags_raise
kind-low (S.polygon e) = omega arith
kind-low (S.path e) = omega arith
kind-low (S.text e) = omega arith
kind-low (S.node e) = omega arith
kind-low (S.reference e) = omega arith
kind-low (S.box e) = omega arith

raised-back : (e : Element) (rest : List ℕ) → KindBack (kind_of e.body) e.flags e.plex → FineBody e.body
    → when ill_formed (ltb (kind_byte e) kind_limit) (body_form (plain_kind (kind_byte e))) (body_bytes e.body ++ rest) ≡ part e.body rest
raised-back e rest k h =
    ap₂ (λ (t : Bool) (n : ℕ). when ill_formed t (body_form n) (body_bytes e.body ++ rest)) (lt-ltb (kind_byte e) kind_limit k.low) k.plain
    ∙ body_back e.body rest h

-- ---- whole blocks

pub head-held : (h : Head) → FineHead h → head_of (head_block h) ≡ some h
unfolding head_of
head-held h f = ap ended (ap head_form (sym (append-nil (head_block h))) ∙ head-back h f)

pub element-held : (e : Element) → FineElement e → element_of (element_block e) ≡ some e
unfolding element_of element_form element_block
element-held e h =
    let k = kind-back (kind_of e.body) (kind-low e.body) e.flags e.plex in
    ap ended
    (then _ (byte-back (kind_byte e) _)
    (then _ (option_back (bytes_of 2) (num 2) Word word_back _ e.flags k.flags _ h.flags)
    (then _ (option_back plex_bytes long (SFits w32) long-back _ e.plex k.plex _ h.plex)
    (then _ (raised-back e _ k h.body)
    (then _ (ap (counted property) (sym (append-nil (counted_bytes property_bytes e.properties))) ∙ counted_back property_bytes property FineProperty property-back e.properties [] h.properties) refl)))))

elements-held : (es : List Element) → All FineElement es → elements_of (blocks_of es) ≡ some es
unfolding elements_of
elements-held [] h = refl
elements-held (e ∷ es) (more h hs) = ap₂ cons_to (element-held e h) (elements-held es hs)

-- ---- the sheet

blocks-length : (es : List Element) → length (blocks_of es) ≡ length es
blocks-length [] = refl
blocks-length (e ∷ es) = ap suc (blocks-length es)

element-some : (e : Element) → Some (element_block e)
unfolding element_block
element-some e = omega arith

elements-some : (es : List Element) → All Some (blocks_of es)
elements-some [] = done
elements-some (e ∷ es) = more (element-some e) (elements-some es)

head-some : (h : Head) → 1 ≤ length (head_block h)
unfolding head_block
head-some h = omega arith

fit-blocks : (c : Cell) → FineCell c → FitBlocks (head_block c.head ∷ blocks_of c.elements)
unfolding cell_sheet
fit-blocks c f = record {
  least = omega arith;
  most = omega (arith, blocks-length c.elements, f.most);
  some = more (head-some c.head) (elements-some c.elements);
  short = f.short;
}

module _ (c : Cell) (f : FineCell c) where
  abbrev blocks : List (List ℕ)
  blocks = blocks_of c.elements

  all_blocks : blocks_from (suc (length blocks)) 0 (cell_sheet c) ≡ head_block c.head ∷ blocks
  unfolding cell_sheet
  all_blocks = blocks-back (head_block c.head ∷ blocks) (fit-blocks c f)

  pub pairs-held : pairs_fit (cell_sheet c) ≡ true
  unfolding cell_sheet
  pairs-held = pairs-fit (head_block c.head ∷ blocks) (fit-blocks c f)

  pub first-held : block_of (cell_sheet c) 0 ≡ head_block c.head
  unfolding blocks_from
  first-held = let e = all_blocks in cc

  pub others-held : element_blocks (cell_sheet c) ≡ blocks
  unfolding blocks_from cell_sheet
  others-held =
      let e = all_blocks in
      let n : pair_count (cell_sheet c) - 1 ≡ length blocks = omega (arith, count-is (head_block c.head ∷ blocks) (fit-blocks c f)) in
      let o : blocks_from (length blocks) 1 (cell_sheet c) ≡ blocks = cc in
      ap (λ (i : ℕ). blocks_from i 1 (cell_sheet c)) n ∙ o

  -- THE SHEET OF A CELL HOLDS THAT CELL.
  pub cell-held : cell_of (cell_sheet c) ≡ some c
  unfolding cell_of
  cell-held =
      ap (λ (t : Bool). cond t (cell_from (head_of (block_of (cell_sheet c) 0)) (elements_of (element_blocks (cell_sheet c)))) none) pairs-held
      ∙ ap₂ cell_from (ap head_of first-held ∙ head-held c.head f.head) (ap elements_of others-held ∙ elements-held c.elements f.elements)
