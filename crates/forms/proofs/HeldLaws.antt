-- What a well-formed block holds stands at the places that its own numbers tell: for code that reads a block whose form was checked before. Assumes nothing.
use mathlib.Core.Path.{◌≡◌, refl, sym, ap, ◌∙◌, subst}
use mathlib.Core.Bool.{Bool, true, false, cond}
use mathlib.Core.Option.{Option, none, some, none-ne-some}
use mathlib.Core.List.{List}
use Prim.Native.Nat.{ℕ, zero, suc, ◌+◌, ◌*◌, ◌≤◌, ◌<◌}
use native.Mathlib.Omega.{arith}
use lib.Dec.{leb, ltb, eqb}
use lib.ListN.{length, drop, length-drop}
use lib.Seq.{drop-drop}
use mir.Val.{to_z}
use mir.Syntax.{w32}
use borrow.Author.Tests.{eqb-true, eqb-false}
use Rattle.std.specs.Prelude.{Some}
use Rattle.std.specs.Bool.{then_some}
use Rattle.big_endian.specs.Big.{number_at}
use Rattle.parsing.specs.Parse.{Part, ill, part, IllFormed, ill_formed, pure, fail, follow, map, present, when, times, ended, ◌>>=◌}
use Rattle.parsing.proofs.ParseLaws.{no_part}
use Rattle.units.specs.declared.Unit.{Unit}
use Rattle.sheet.specs.Form.{Form, integer_kind, absent_kind, bytes, num, code, flag, double, string, counted, optional, long, coordinate, point, spacing_of, spacing}
use Rattle.sheet.specs.Element.{Property, Body, Element, box, polygon_kind, path_kind, text_kind, node_kind, reference_kind, box_kind, flags_raise, plex_raise, kind_limit, raised, plain_kind, property, shape_form, path_type_form, path_form, text_form, reference_form, box_form, body_form, element_form, element_of}
use Rattle.block_places.specs.declared.BodyPlaces.{BodyPlaces}
use Rattle.block_places.specs.declared.BodyPlaces.TheVariants as B
use Rattle.block_places.specs.code.Place.{values_from, place_from, double_at, unit_at, coordinate_at, point_at, point_end, points_from, spacing_at, string_at, string_end, property_at, property_end, properties_from}
use Rattle.block_places.specs.code.Places.{path_type_of, shape_at, path_at, text_at, reference_at, box_at, body_at, shape_places, path_places, text_places, reference_places, box_places, body_places, body_end, option_as, flags_of, plex_of, size_if, shift_of, options_at, shifted, body_in, body_end_in, element_places, BodyIn}
use Rattle.block_places.proofs.PlacesLaws.{by_kind}
use Rattle.forms.specs.code.Checks.{given, Checked, ElementRead}
use Rattle.forms.proofs.Step.{on, moved, items_at, num-at, double-at, code_at, ends, ends-not}
use Rattle.forms.proofs.Sized.{Sized, sized-bytes, sized-num, sized-code, sized-double, sized-coordinate}
use Rattle.forms.proofs.Walk.{place_after}
use Rattle.forms.proofs.CoordinateLaws.{coordinate-integer, coordinate-absent, coordinate-valued, coordinate-other}

-- ---- a form at a place

-- p gives a there, and ends at `to`, which lies in the block
pub record There {A : Type 0} (p : Form A) (b : List ℕ) (at : ℕ) (a : A) (to : ℕ) : Type 0 where
  pub is : p (drop at b) ≡ part a (drop to b)
  pub within : to ≤ length b

-- where p gives anything, it gives that
abbrev pub Stands : {A : Type 0} → Form A → List ℕ → ℕ → A → ℕ → Type 0
Stands {A} p b at a to = at ≤ length b → (x : A) (r : List ℕ) → p (drop at b) ≡ part x r → There p b at a to

module _ (b : List ℕ) where
  stands-pure : {A : Type 0} {at : ℕ} {a : A} → Stands (pure a) b at a at
  stands-pure h x r e = record { is = refl; within = h }

  stands-fail : {A : Type 0} {at to : ℕ} {a : A} → Stands (fail ill_formed) b at a to
  stands-fail h x r e = no_part e

  -- one after the other
  stands-bind : {A B : Type 0} (p : Form A) (f : A → Form B) {at mid to : ℕ} {a : A} {c : B} → Stands p b at a mid → Stands (f a) b mid c to → Stands (p >>= f) b at c to
  stands-bind {A} {B} p f {at} {mid} {to} {a} {c} g k h x r e = go (p (drop at b)) refl e
    where
      go : (z : Part IllFormed ℕ A) → p (drop at b) ≡ z → follow z f ≡ part x r → There (p >>= f) b at c to
      go (ill i) d e = no_part e
      go (part y s) d e =
          let u = g h y s d in
          let v = k u.within x r (sym (on (p (drop at b)) f u.is refl) ∙ on (p (drop at b)) f d e) in
          record { is = on _ _ u.is v.is; within = v.within }

  -- a form of k bytes, by what it gives of a block that has them
  stands-sized : {A : Type 0} (k : ℕ) (p : Form A) {at to : ℕ} {a : A} → at + k ≡ to → Sized k p → (to ≤ length b → (x : A) (r : List ℕ) → p (drop at b) ≡ part x r → p (drop at b) ≡ part a (drop to b))
      → Stands p b at a to
  stands-sized k p {at} {to} {a} q s g h x r e =
      let l = simp length-drop at (s.takes (drop at b) x r e) in
      let w : to ≤ length b = omega arith in
      record { is = g w x r e; within = w }

  -- a check that did not fail
  passed : {A : Type 0} {p : Form A} {at to : ℕ} {a x : A} {r : List ℕ} (t : Bool) → Checked p b at a to t → p (drop at b) ≡ part x r → p (drop at b) ≡ part a (drop to b)
  passed true w e = w.is
  passed false w e = no_part (sym w.is ∙ e)

  -- ---- numbers and strings

  stands-num : (k at to : ℕ) → at + k ≡ to → Stands (num k) b at (number_at k b at) to
  stands-num k at to q = stands-sized k (num k) q (sized-num k) (λ l x r e. num-at k b at to q l)

  stands-double : (at to : ℕ) → at + 8 ≡ to → Stands double b at (double_at b at) to
  stands-double at to q = stands-sized 8 double q sized-double (λ l x r e. double-at b at to q l)

  stands-code : (n at to : ℕ) → at + 1 ≡ to → Stands (code n) b at (number_at 1 b at) to
  stands-code n at to q = stands-sized 1 (code n) q (sized-code n) (λ l x r e. moved b (at + 1) to q (passed (leb (number_at 1 b at) n) (code_at n b at (omega arith)) e))

  stands-flag : (at to : ℕ) → at + 1 ≡ to → Stands flag b at (eqb (number_at 1 b at) 1) to
  unfolding flag
  stands-flag at to q = stands-bind (code 1) _ (stands-code 1 at to q) stands-pure

  stands-string : (at to : ℕ) → string_end b at ≡ to → Stands string b at (string_at b at) to
  unfolding string string_at
  stands-string at to q = stands-bind (num 2) _ (stands-num 2 at (at + 2) refl) (stands-sized (number_at 2 b at) (bytes (number_at 2 b at)) q (sized-bytes (number_at 2 b at)) (λ l x r e. items_at (number_at 2 b at) b (at + 2) to q l))

  -- ---- parts in a row

  stands-times : {A : Type 0} (p : Form A) (value : List ℕ → ℕ → A) (next : List ℕ → ℕ → ℕ) → ((at : ℕ) → Stands p b at (value b at) (next b at)) → (n at : ℕ)
      → Stands (times n p) b at (values_from value next n b at) (place_from next n b at)
  unfolding times values_from place_from
  stands-times p value next g zero at = stands-pure
  stands-times p value next g (suc n) at = stands-bind p _ (g at) (stands-bind (times n p) _ (stands-times p value next g n (next b at)) stands-pure)

  stands-counted : {A : Type 0} (p : Form A) (value : List ℕ → ℕ → A) (next : List ℕ → ℕ → ℕ) → ((at : ℕ) → Stands p b at (value b at) (next b at)) → (at : ℕ)
      → Stands (counted p) b at (values_from value next (number_at 2 b at) b (at + 2)) (place_from next (number_at 2 b at) b (at + 2))
  unfolding counted
  stands-counted p value next g at = stands-bind (num 2) _ (stands-num 2 at (at + 2) refl) (stands-times p value next g (number_at 2 b at) (at + 2))

  -- ---- coordinates

  stands-coordinate : (at to : ℕ) → at + 17 ≡ to → Stands coordinate b at (coordinate_at b at) to
  stands-coordinate at to q =
      stands-sized 17 coordinate q sized-coordinate
      (λ l x r e. moved b (at + 17) to q (go (omega arith) (eqb (number_at 1 b at) integer_kind) refl (eqb (number_at 1 b at) absent_kind) refl (eqb (number_at 8 b (at + 1)) 0) refl e))
    where
      go : at + 17 ≤ length b → (i : Bool) → eqb (number_at 1 b at) integer_kind ≡ i → (n : Bool) → eqb (number_at 1 b at) absent_kind ≡ n → (z : Bool) → eqb (number_at 8 b (at + 1)) 0 ≡ z
          → {x : Option Unit} {r : List ℕ} → coordinate (drop at b) ≡ part x r → coordinate (drop at b) ≡ part (coordinate_at b at) (drop (at + 17) b)
      go l true i n m z y e = passed _ (coordinate-integer b at l (eqb-true _ _ i)) e
      go l false i true m true y e = passed _ (coordinate-absent b at l (eqb-true _ _ m) (eqb-true _ _ y)) e
      go l false i true m false y e = passed _ (coordinate-valued b at l (eqb-true _ _ m) (eqb-false _ _ y)) e
      go l false i false m z y e = passed _ (coordinate-other b at l (eqb-false _ _ i) (eqb-false _ _ m)) e

  stands-given : (at to : ℕ) → at + 17 ≡ to → Stands given b at (unit_at b at) to
  unfolding coordinate_at
  stands-given at to q = stands-bind coordinate _ (stands-coordinate at to q) (go (eqb (number_at 1 b at) absent_kind))
    where
      go : (t : Bool) → Stands (present ill_formed (cond t none (some (unit_at b at)))) b to (unit_at b at) to
      go true = stands-fail
      go false = stands-pure

  stands-point : (at to : ℕ) → at + 34 ≡ to → Stands point b at (point_at b at) to
  unfolding point point_at
  stands-point at to q = stands-bind given _ (stands-given at (at + 17) refl) (stands-bind given _ (stands-given (at + 17) to (omega arith)) stands-pure)

  stands-spacing : (at to : ℕ) → at + 34 ≡ to → Stands spacing b at (spacing_at b at) to
  unfolding spacing spacing_of spacing_at point_at coordinate_at
  stands-spacing at to q = stands-bind coordinate _ (stands-coordinate at (at + 17) refl) (stands-bind coordinate _ (stands-coordinate (at + 17) to (omega arith)) (go (eqb (number_at 1 b at) absent_kind) (eqb (number_at 1 b (at + 17)) absent_kind)))
    where
      go : (t u : Bool) → Stands (spacing_of (cond t none (some (unit_at b at))) (cond u none (some (unit_at b (at + 17))))) b to (cond t none (some (record { x = unit_at b at; y = unit_at b (at + 17) }))) to
      go true true = stands-pure
      go true false = stands-fail
      go false true = stands-fail
      go false false = stands-pure

  -- n points take 34 bytes each
  points-place : (n at : ℕ) → place_from point_end n b at ≡ at + 34 * n
  unfolding place_from
  points-place zero at = omega arith
  points-place (suc n) at = let h = points-place n (at + 34) in omega arith

  stands-points : (at to : ℕ) → at + 2 + 34 * number_at 2 b at ≡ to → Stands (counted point) b at (points_from (number_at 2 b at) b (at + 2)) to
  stands-points at to q =
      subst (Stands (counted point) b at (points_from (number_at 2 b at) b (at + 2))) (points-place (number_at 2 b at) (at + 2) ∙ q)
      (stands-counted point point_at point_end (λ k. stands-point k (k + 34) refl) at)

  -- ---- the bodies

  stands-shape : Stands shape_form b 1 (shape_at b (shape_places b)) (7 + 34 * number_at 2 b 5)
  unfolding shape_form shape_at shape_places
  stands-shape = stands-bind (num 2) _ (stands-num 2 1 3 refl) (stands-bind (num 2) _ (stands-num 2 3 5 refl) (stands-bind (counted point) _ (stands-points 5 (7 + 34 * number_at 2 b 5) refl) stands-pure))

  stands-path-type : Stands path_type_form b 5 (path_type_of (number_at 1 b 5)) 6
  unfolding path_type_form path_type_of
  stands-path-type = stands-bind (num 1) _ (stands-num 1 5 6 refl) (go (eqb (number_at 1 b 5) 255) (leb (number_at 1 b 5) 2))
    where
      go : (t u : Bool) → Stands (cond t (pure none) (when ill_formed u (pure (some (number_at 1 b 5))))) b 6 (cond t none (some (number_at 1 b 5))) 6
      go true u = stands-pure
      go false true = stands-pure
      go false false = stands-fail

  stands-path : Stands path_form b 1 (path_at b (path_places b)) (59 + 34 * number_at 2 b 57)
  unfolding path_form path_at path_places
  stands-path =
      stands-bind (num 2) _ (stands-num 2 1 3 refl) (stands-bind (num 2) _ (stands-num 2 3 5 refl) (stands-bind path_type_form _ stands-path-type
      (stands-bind coordinate _ (stands-coordinate 6 23 refl) (stands-bind coordinate _ (stands-coordinate 23 40 refl) (stands-bind coordinate _ (stands-coordinate 40 57 refl)
      (stands-bind (counted point) _ (stands-points 57 (59 + 34 * number_at 2 b 57) refl) stands-pure))))))

  stands-text : Stands text_form b 1 (text_at b (text_places b)) (string_end b 58)
  unfolding text_form text_at text_places
  stands-text =
      stands-bind (num 2) _ (stands-num 2 1 3 refl) (stands-bind (num 2) _ (stands-num 2 3 5 refl) (stands-bind (code 2) _ (stands-code 2 5 6 refl) (stands-bind (code 2) _ (stands-code 2 6 7 refl)
      (stands-bind flag _ (stands-flag 7 8 refl) (stands-bind double _ (stands-double 8 16 refl) (stands-bind double _ (stands-double 16 24 refl)
      (stands-bind point _ (stands-point 24 58 refl) (stands-bind string _ (stands-string 58 (string_end b 58) refl) stands-pure))))))))

  stands-reference : (p : ℕ) → string_end b 1 ≡ p → Stands reference_form b 1 (reference_at b (reference_places b p)) (p + 109 + 34)
  unfolding reference_form reference_at reference_places
  stands-reference p q =
      stands-bind string _ (stands-string 1 p q) (stands-bind (num 4) _ (stands-num 4 p (p + 4) refl) (stands-bind (num 4) _ (stands-num 4 (p + 4) (p + 8) (omega arith))
      (stands-bind flag _ (stands-flag (p + 8) (p + 9) (omega arith)) (stands-bind double _ (stands-double (p + 9) (p + 17) (omega arith)) (stands-bind double _ (stands-double (p + 17) (p + 25) (omega arith))
      (stands-bind double _ (stands-double (p + 25) (p + 33) (omega arith)) (stands-bind double _ (stands-double (p + 33) (p + 41) (omega arith)) (stands-bind point _ (stands-point (p + 41) (p + 75) (omega arith))
      (stands-bind spacing _ (stands-spacing (p + 75) (p + 109) (omega arith)) (stands-bind spacing _ (stands-spacing (p + 109) (p + 109 + 34) refl) stands-pure))))))))))

  stands-box : Stands box_form b 1 (box_at b (box_places b)) 73
  unfolding box_form box_at box_places
  stands-box = stands-bind (num 2) _ (stands-num 2 1 3 refl) (stands-bind (num 2) _ (stands-num 2 3 5 refl) (stands-bind point _ (stands-point 5 39 refl) (stands-bind point _ (stands-point 39 73 refl) stands-pure)))

  -- the form and the places by the same test
  stands-kind : (t : Bool) {p q : Form Body} (s u : BodyPlaces) → Stands p b 1 (body_at b s) (body_end b s) → Stands q b 1 (body_at b u) (body_end b u)
      → Stands (cond t p q) b 1 (body_at b (cond t s u)) (body_end b (cond t s u))
  stands-kind true s u g h = g
  stands-kind false s u g h = h

  stands-body : (k : ℕ) → Stands (body_form k) b 1 (body_at b (body_places k b)) (body_end b (body_places k b))
  unfolding body_form body_places shape_places path_places text_places reference_places box_places
  stands-body k =
      stands-kind (eqb k polygon_kind) (B.Polygon (shape_places b)) _ (stands-bind shape_form _ stands-shape stands-pure)
      (stands-kind (eqb k path_kind) (B.Path (path_places b)) _ (stands-bind path_form _ stands-path stands-pure)
      (stands-kind (eqb k text_kind) (B.Text (text_places b)) _ (stands-bind text_form _ stands-text stands-pure)
      (stands-kind (eqb k node_kind) (B.Node (shape_places b)) _ (stands-bind shape_form _ stands-shape stands-pure)
      (stands-kind (eqb k reference_kind) (B.Reference (reference_places b (string_end b 1))) (B.Box (box_places b)) (stands-bind reference_form _ (stands-reference (string_end b 1) refl) stands-pure)
      (last (eqb k box_kind))))))
    where
      last : (t : Bool) → Stands (cond t (map box box_form) (fail ill_formed)) b 1 (body_at b (B.Box (box_places b))) (body_end b (B.Box (box_places b)))
      last true = stands-bind box_form _ stands-box stands-pure
      last false = stands-fail

  body-in : (k : ℕ) → body_end b (body_places k b) ≤ length b → BodyIn b (body_places k b)
  unfolding shape_places path_places text_places reference_places box_places
  body-in k h =
      by_kind k b (λ s. body_end b s ≤ length b → BodyIn b s)
      (λ l. record { points-in = l })
      (λ l. record { width-in = omega arith; begin-in = omega arith; end-in = omega arith; points-in = l })
      (λ l. record { origin-in = omega arith; string-in = l })
      (λ l. record { points-in = l })
      (λ l. record { name_in = omega arith; origin-in = omega arith; column-in = omega arith; row_in = omega arith })
      (λ l. record { first-in = omega arith; second-in = omega arith })
      h

  stands-property : (at : ℕ) → Stands property b at (property_at b at) (property_end b at)
  unfolding property property_at
  stands-property at = stands-bind (num 2) _ (stands-num 2 at (at + 2) refl) (stands-bind string _ (stands-string (at + 2) (property_end b at) refl) stands-pure)

  -- ---- options

  stands-optional : {A : Type 0} (t : Bool) (p : Form A) (value : ℕ → A) (k at : ℕ) → Stands p b at (value (number_at k b at)) (at + k)
      → Stands (optional t p) b at (option_as value (then_some t (number_at k b at))) (at + size_if t k)
  unfolding optional
  stands-optional true p value k at g = stands-bind p _ g stands-pure
  stands-optional false p value k at g = subst (Stands (pure none) b at none) (omega arith) stands-pure

  stands-long : (at to : ℕ) → at + 4 ≡ to → Stands long b at (to_z w32 (number_at 4 b at)) to
  unfolding long
  stands-long at to q = stands-bind (num 4) _ (stands-num 4 at to q) stands-pure

  -- after a test on what was read before
  stands-known : {A B : Type 0} (t : Bool) (p : Form A) (f : A → Form B) {at to : ℕ} {a : B} → Stands (p >>= f) b at a to → Stands (when ill_formed t p >>= f) b at a to
  stands-known true p f g = g
  stands-known false p f g = λ h x r e. no_part e

  -- the same place in other words
  stands-place : {A : Type 0} (p : Form A) {i j to : ℕ} {a : A} → i ≡ j → Stands p b i a to → Stands p b j a to
  stands-place p {to = to} {a = a} e g = subst (λ (at : ℕ). Stands p b at a to) e g

  -- in the block from place n on
  stands_from : {A : Type 0} (p : Form A) (n : ℕ) {at to : ℕ} {a : A} → Stands p (drop n b) at a to → Stands p b (n + at) a (n + to)
  stands_from p n {at} {to} {a} g h x r e =
      let u = g (omega (arith, length-drop n b)) x r (ap p (drop-drop at n b) ∙ e) in
      let w = u.within in
      record { is = ap p (sym (drop-drop at n b)) ∙ u.is ∙ ap (λ (s : List ℕ). part a s) (drop-drop to n b); within = omega (arith, length-drop n b) }

-- ---- the element

module _ (b : List ℕ) where
  abbrev shift : ℕ
  shift = shift_of (number_at 1 b 0)

  abbrev end : ℕ
  end = body_end_in b

  abbrev held : Element
  held = record { flags = flags_of (options_at b); plex = plex_of (options_at b); body = body_at (shifted b) (body_in b); properties = properties_from (number_at 2 (shifted b) end) (shifted b) (end + 2) }

  abbrev last : ℕ
  last = place_from property_end (number_at 2 (shifted b) end) (shifted b) (end + 2)

  -- the last two parts, in the block that is left without the options
  stands_parts : (make : Body → List Property → Element) → Stands (body_form (plain_kind (number_at 1 b 0)) >>= λ x. counted property >>= λ qs. pure (make x qs)) (shifted b) 1
      (make (body_at (shifted b) (body_in b)) (properties_from (number_at 2 (shifted b) end) (shifted b) (end + 2))) last
  stands_parts make =
      let k = plain_kind (number_at 1 b 0) in
      stands-bind (shifted b) (body_form k) _ (stands-body (shifted b) k)
      (stands-bind (shifted b) (counted property) _ (stands-counted (shifted b) property property_at property_end (stands-property (shifted b)) end) (stands-pure (shifted b)))

  stands-element : Stands element_form b 0 held (shift + last)
  unfolding element_form options_at shifted shift_of
  stands-element =
      let k = number_at 1 b 0 in
      let f = raised flags_raise k in
      let p = raised plex_raise k in
      stands-bind b (num 1) _ (stands-num b 1 0 1 refl)
      (stands-bind b (optional f (num 2)) _ (stands-optional b f (num 2) (λ v. v) 2 1 (stands-num b 2 1 3 refl))
      (stands-bind b (optional p long) _ (stands-optional b p long (to_z w32) 4 (1 + size_if f 2) (stands-long b (1 + size_if f 2) (1 + size_if f 2 + 4) refl))
      (stands-known b (ltb k kind_limit) (body_form (plain_kind k)) _
      (stands-place b _ (omega arith) (stands_from b _ shift (stands_parts (λ x qs. record { flags = flags_of (options_at b); plex = plex_of (options_at b); body = x; properties = qs })))))))

  -- what the block holds is read by its places, which lie in it
  pub record Held : Type 0 where
    pub read : ElementRead b (Some (element_places b))
    pub room : end + 2 ≤ length (shifted b)

  pub element-held : (e : Element) → element_of b ≡ some e → Held
  unfolding element_of element_places options_at shifted
  element-held e h = form (element_form b) refl h
    where
      less : (i j : ℕ) → i ≤ j → (i ≡ j → ⊥) → i < j
      less i j h g = omega arith

      to_the_end : There element_form b 0 held (shift + last) → (q : Bool) → eqb (shift + last) (length b) ≡ q → Held
      to_the_end t true q =
          let l : shift + last ≡ length b = eqb-true _ _ q in
          let r : last ≡ length (shifted b) = omega (arith, length-drop shift b) in
          let after = place_after property_end (shifted b) (λ k. omega arith) (number_at 2 (shifted b) end) (end + 2) in
          let room : end + 2 ≤ length (shifted b) = omega arith in
          record {
            read = record {
              form = ends b _ (shift + last) t.is l;
              places = record {
                options = refl;
                shift_in = omega arith;
                parts_in = record { body-in = body-in (shifted b) (plain_kind (number_at 1 b 0)) (omega arith); properties-in = record { first-in = room; last-in = r } };
              };
            };
            room = room;
          }
      to_the_end t false q = absurd (none-ne-some e (sym (ends-not b _ (shift + last) t.is (less (shift + last) (length b) t.within (eqb-false _ _ q))) ∙ h))

      form : (z : Part IllFormed ℕ Element) → element_form b ≡ z → ended z ≡ some e → Held
      form (ill c) d f = absurd (none-ne-some e f)
      form (part x r) d f = to_the_end (stands-element (omega arith) x r d) (eqb (shift + last) (length b)) refl
