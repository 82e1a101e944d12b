-- `forms::text` meets its contract: each part in turn. Assumes nothing.
use mathlib.Core.Path.{◌≡◌, refl, sym}
use mathlib.Core.List.{List}
use Prim.Native.Nat.{ℕ, ◌≤◌}
use native.Mathlib.Omega.{arith}
use lib.Dec.{eqb}
use lib.ListN.{length, drop, length-drop}
use Rattle.big_endian.specs.Big.{number_at}
use Rattle.parsing.specs.Parse.{pure, ◌>>=◌}
use Rattle.sheet.specs.Form.{Form, num, code, flag, double, string, point}
use Rattle.sheet.specs.Element.{Text, body_form, text_form}
use Rattle.block_places.specs.code.Place.{double_at}
use Rattle.block_places.specs.code.Places.{text_at, text_places}
use Rattle.forms.proofs.Step.{layer-at, type-at, double-at, string-at, string-long, flag_at, flag-ill}
use Rattle.forms.proofs.Sized.{sized-num, sized-code, sized-flag, sized-double, sized-point, Needs, needs-bind, needs-front, string-needs}
use Rattle.forms.proofs.text.Goals as goal
use Rattle.forms.proofs.text.Goals.{Else-not-code-3}

text-needs : Needs 59 text_form
unfolding text_form
text-needs =
    needs-bind 2 57 59 (num 2) _ refl (sized-num 2) (λ l. needs-bind 2 55 57 (num 2) _ refl (sized-num 2) (λ t.
    needs-bind 1 54 55 (code 2) _ refl (sized-code 2) (λ v. needs-bind 1 53 54 (code 2) _ refl (sized-code 2) (λ h.
    needs-bind 1 52 53 flag _ refl sized-flag (λ r. needs-bind 8 44 52 double _ refl sized-double (λ m.
    needs-bind 8 36 44 double _ refl sized-double (λ a. needs-bind 34 2 36 point _ refl sized-point (λ o. needs-front 2 string _ string-needs))))))))

pub returns-then-b-lt-STRING_BYTES : goal.returns-then-b-lt-STRING_BYTES
unfolding body_form
returns-then-b-lt-STRING_BYTES c = record { form = rw (text-needs (drop 1 c.args.b.now) (simp length-drop (omega arith))); places = tt }

pub returns-then-not-code : goal.returns-then-not-code
unfolding body_form text_form
returns-then-not-code c =
    let h : 5 ≤ length c.args.b.now = omega arith in
    record { form = rw (layer-at, type-at, c.if-not-code.ensures.is); places = tt }

pub returns-then-not-code-2 : goal.returns-then-not-code-2
unfolding body_form text_form
returns-then-not-code-2 c =
    let h : 5 ≤ length c.args.b.now = omega arith in
    record { form = rw (layer-at, type-at, c.if-not-code.ensures.is, c.if-not-code-2.ensures.is); places = tt }

pub returns-then-not-code-3 : goal.returns-then-not-code-3
unfolding body_form text_form
returns-then-not-code-3 c =
    let h : 5 ≤ length c.args.b.now = omega arith in
    let v = c.if-not-code.ensures.is in
    let w = c.if-not-code-2.ensures.is in
    record { form = rw (layer-at, type-at, v, w, flag-ill c.args.b.now 7 c.if-not-code-3.ensures.is); places = tt }

-- from the origin on
abbrev origin_on : List ℕ → Form Text
origin_on b = do
  o ← point
  s ← string
  pure
      (record {
        layer = number_at 2 b 1;
        texttype = number_at 2 b 3;
        vertical = number_at 1 b 5;
        horizontal = number_at 1 b 6;
        reflection = eqb (number_at 1 b 7) 1;
        magnification = double_at b 8;
        degrees = double_at b 16;
        origin = o;
        string = s;
      })

front : (c : Else-not-code-3) → text_form (drop 1 c.args.b.now) ≡ origin_on c.args.b.now (drop 24 c.args.b.now)
unfolding text_form
front c =
    let b = c.args.b.now in
    let h : 5 ≤ length b = omega arith in
    let v = c.if-not-code.ensures.is in
    let w = c.if-not-code-2.ensures.is in
    rw (layer-at, type-at, v, w, flag_at b 7 8 refl c.if-not-code-3.ensures.is, double-at b 8 16 refl (omega arith), double-at b 16 24 refl (omega arith))

pub returns-then-not-point : goal.returns-then-not-point
unfolding body_form
returns-then-not-point c =
    record { form = rw (front (goal.at.returns-then-not-point c).Else-not-code-3, c.if-not-point.ensures.is); places = tt }

pub returns-then-b-end : goal.returns-then-b-end
unfolding body_form
returns-then-b-end c =
    let long = string-long c.args.b.now 58 (omega arith) (omega arith) in
    record { form = rw (front (goal.at.returns-then-b-end c).Else-not-code-3, c.if-not-point.ensures.is, long); places = tt }

pub returns : goal.returns
unfolding body_form text_at text_places
returns c =
    let e = sym c.string_end-end.ensures.0 in
    let s = string-at c.args.b.now 58 c.string_end-end.result e (omega arith) in
    record {
      form = rw (front (goal.at.returns c).Else-not-code-3, c.if-not-point.ensures.is, s, c.text_places-text.ensures);
      places = rw c.text_places-text.ensures (record { body-in = record { origin-in = omega arith; string-in = omega arith }; end-in = omega arith });
    }
