-- `forms::reference` meets its contract: each part in turn. Every place after the name is counted from where it ends. Assumes nothing.
use mathlib.Core.Path.{◌≡◌, refl, sym}
use mathlib.Core.Bool.{Bool, true, false}
use mathlib.Core.List.{List}
use Prim.Native.Nat.{ℕ, ◌+◌, ◌<◌, ◌≤◌}
use native.Mathlib.Omega.{arith}
use lib.Dec.{leb, eqb}
use lib.ListN.{length, drop, length-drop}
use borrow.Author.Tests.{leb-true, leb-false}
use Rattle.big_endian.specs.Big.{number_at}
use Rattle.parsing.specs.Parse.{ill, ill_formed, pure, ◌>>=◌}
use Rattle.sheet.specs.Form.{Form, num, flag, double, point, spacing}
use Rattle.sheet.specs.Element.{Reference, body_form, reference_form}
use Rattle.block_places.specs.code.Place.{double_at, string_at, string_end}
use Rattle.block_places.specs.code.Places.{reference_at, reference_places}
use Rattle.forms.proofs.Step.{moved, num-at, double-at, string-at, string-long, flag_at, flag-ill}
use Rattle.forms.proofs.Sized.{sized-num, sized-flag, sized-double, sized-point, sized-spacing, Needs, needs-bind, needs-front, string-needs}
use Rattle.forms.proofs.reference.Goals as goal
use Rattle.forms.proofs.reference.Goals.{Else-not-code}

pub returns-then-b-lt-NAME_BYTES : goal.returns-then-b-lt-NAME_BYTES
unfolding body_form reference_form
returns-then-b-lt-NAME_BYTES c = record { form = rw (string-needs (drop 1 c.args.b.now) (simp length-drop (omega arith))); places = tt }

-- from the columns on
abbrev columns-on : List ℕ → Form Reference
columns-on n = do
  c ← num 4
  w ← num 4
  r ← flag
  m ← double
  a ← double
  si ← double
  co ← double
  o ← point
  sc ← spacing
  sr ← spacing
  pure (record { name = n; columns = c; rows = w; reflection = r; magnification = m; degrees = a; sine = si; cosine = co; origin = o; column_spacing = sc; row_spacing = sr })

columns-need : (n : List ℕ) → Needs 143 (columns-on n)
columns-need n =
    needs-bind 4 139 143 (num 4) _ refl (sized-num 4) (λ c. needs-bind 4 135 139 (num 4) _ refl (sized-num 4) (λ w.
    needs-bind 1 134 135 flag _ refl sized-flag (λ r. needs-bind 8 126 134 double _ refl sized-double (λ m. needs-bind 8 118 126 double _ refl sized-double (λ a.
    needs-bind 8 110 118 double _ refl sized-double (λ si. needs-bind 8 102 110 double _ refl sized-double (λ co.
    needs-bind 34 68 102 point _ refl sized-point (λ o. needs-bind 34 34 68 spacing _ refl sized-spacing (λ sc. needs-front 34 spacing _ sized-spacing.short)))))))))

-- a name that is long, or a short rest
short : (b : List ℕ) (p : ℕ) → 3 ≤ length b → string_end b 1 ≡ p → length b < p + 143 → reference_form (drop 1 b) ≡ ill ill_formed
unfolding reference_form
short b p g e l = go (leb p (length b)) refl
  where
    go : (t : Bool) → leb p (length b) ≡ t → reference_form (drop 1 b) ≡ ill ill_formed
    go true q = rw (string-at b 1 p e (leb-true p (length b) q)) (columns-need (string_at b 1) (drop p b) (simp length-drop (omega (arith, leb-true p (length b) q))))
    go false q = let h = leb-false p (length b) q in rw (string-long b 1 g (omega arith))

pub returns-then-b-end : goal.returns-then-b-end
unfolding body_form
returns-then-b-end c =
    let ill = short c.args.b.now c.string_end-base.result c.if-b-lt-NAME_BYTES.false (sym c.string_end-base.ensures.0) c.if-b-end.true in
    record { form = rw ill; places = tt }

pub returns-then-not-code : goal.returns-then-not-code
unfolding body_form reference_form
returns-then-not-code c =
    let b = c.args.b.now in
    let p = c.string_end-base.result in
    let name = string-at b 1 p (sym c.string_end-base.ensures.0) (omega arith) in
    let columns = num-at 4 b p (p + 4) refl (omega arith) in
    let rows = num-at 4 b (p + 4) (p + 8) (omega arith) (omega arith) in
    record { form = rw (name, columns, rows, flag-ill b (p + 8) c.if-not-code.ensures.is); places = tt }

-- from the origin on, where the name ends at p
abbrev origin_on : List ℕ → ℕ → Form Reference
origin_on b p = do
  o ← point
  sc ← spacing
  sr ← spacing
  pure
      (record {
        name = string_at b 1;
        columns = number_at 4 b p;
        rows = number_at 4 b (p + 4);
        reflection = eqb (number_at 1 b (p + 8)) 1;
        magnification = double_at b (p + 9);
        degrees = double_at b (p + 17);
        sine = double_at b (p + 25);
        cosine = double_at b (p + 33);
        origin = o;
        column_spacing = sc;
        row_spacing = sr;
      })

front : (c : Else-not-code) → reference_form (drop 1 c.args.b.now) ≡ origin_on c.args.b.now c.string_end-base.result (drop (c.string_end-base.result + 41) c.args.b.now)
unfolding reference_form
front c =
    let b = c.args.b.now in
    let p = c.string_end-base.result in
    let name = string-at b 1 p (sym c.string_end-base.ensures.0) (omega arith) in
    let columns = num-at 4 b p (p + 4) refl (omega arith) in
    let rows = num-at 4 b (p + 4) (p + 8) (omega arith) (omega arith) in
    let reflection = flag_at b (p + 8) (p + 9) (omega arith) c.if-not-code.ensures.is in
    let m = double-at b (p + 9) (p + 17) (omega arith) (omega arith) in
    let a = double-at b (p + 17) (p + 25) (omega arith) (omega arith) in
    let si = double-at b (p + 25) (p + 33) (omega arith) (omega arith) in
    let co = double-at b (p + 33) (p + 41) (omega arith) (omega arith) in
    rw (name, columns, rows, reflection, m, a, si, co)

pub returns-then-not-point : goal.returns-then-not-point
unfolding body_form
returns-then-not-point c = record { form = rw (front (goal.at.returns-then-not-point c).Else-not-code, c.if-not-point.ensures.is); places = tt }

pub returns-then-not-spacing : goal.returns-then-not-spacing
unfolding body_form
returns-then-not-spacing c =
    let p = c.string_end-base.result in
    let o = moved c.args.b.now (p + 41 + 34) (p + 75) (omega arith) c.if-not-point.ensures.is in
    record { form = rw (front (goal.at.returns-then-not-spacing c).Else-not-code, o, c.if-not-spacing.ensures.is); places = tt }

pub returns-then-not-spacing-2 : goal.returns-then-not-spacing-2
unfolding body_form
returns-then-not-spacing-2 c =
    let p = c.string_end-base.result in
    let o = moved c.args.b.now (p + 41 + 34) (p + 75) (omega arith) c.if-not-point.ensures.is in
    let sc = moved c.args.b.now (p + 75 + 34) (p + 109) (omega arith) c.if-not-spacing.ensures.is in
    record { form = rw (front (goal.at.returns-then-not-spacing-2 c).Else-not-code, o, sc, c.if-not-spacing-2.ensures.is); places = tt }

pub returns : goal.returns
unfolding body_form reference_at reference_places
returns c =
    let p = c.string_end-base.result in
    let o = moved c.args.b.now (p + 41 + 34) (p + 75) (omega arith) c.if-not-point.ensures.is in
    let sc = moved c.args.b.now (p + 75 + 34) (p + 109) (omega arith) c.if-not-spacing.ensures.is in
    let sr = moved c.args.b.now (p + 109 + 34) (p + 143) (omega arith) c.if-not-spacing-2.ensures.is in
    record {
      form = rw (front (goal.at.returns c).Else-not-code, o, sc, sr, c.reference_places-reference.ensures);
      places = rw c.reference_places-reference.ensures (record { body-in = record { name_in = omega arith; origin-in = omega arith; column-in = omega arith; row_in = omega arith }; end-in = omega arith });
    }
