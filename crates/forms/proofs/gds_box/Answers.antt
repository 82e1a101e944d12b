-- `forms::gds_box` meets its contract: layer and type, then the two corners. Assumes nothing.
use mathlib.Core.Path.{refl}
use Prim.Native.Nat.{◌≤◌}
use native.Mathlib.Omega.{arith}
use lib.ListN.{length, drop, length-drop}
use Rattle.sheet.specs.Form.{num, point}
use Rattle.sheet.specs.Element.{body_form, box_form}
use Rattle.block_places.specs.code.Places.{box_at, box_places}
use Rattle.forms.proofs.Step.{layer-at, type-at}
use Rattle.forms.proofs.Sized.{sized-num, sized-point, Needs, needs-bind, needs-front}
use Rattle.forms.proofs.gds_box.Goals as goal

box-needs : Needs 72 box_form
unfolding box_form
box-needs =
    needs-bind 2 70 72 (num 2) _ refl (sized-num 2) (λ l. needs-bind 2 68 70 (num 2) _ refl (sized-num 2) (λ t.
    needs-bind 34 34 68 point _ refl sized-point (λ p. needs-front 34 point _ sized-point.short)))

pub returns-then-b-lt-BOX_END : goal.returns-then-b-lt-BOX_END
unfolding body_form
returns-then-b-lt-BOX_END c = record { form = rw (box-needs (drop 1 c.args.b.now) (simp length-drop (omega arith))); places = tt }

pub returns-then-not-point : goal.returns-then-not-point
unfolding body_form box_form
returns-then-not-point c =
    let h : 5 ≤ length c.args.b.now = omega arith in
    record { form = rw (layer-at, type-at, c.if-not-point.ensures.is); places = tt }

pub returns-then-not-point-2 : goal.returns-then-not-point-2
unfolding body_form box_form
returns-then-not-point-2 c =
    let h : 5 ≤ length c.args.b.now = omega arith in
    record { form = rw (layer-at, type-at, c.if-not-point.ensures.is, c.if-not-point-2.ensures.is); places = tt }

pub returns : goal.returns
unfolding body_form box_form box_at box_places
returns c =
    let h : 5 ≤ length c.args.b.now = omega arith in
    record {
      form = rw (layer-at, type-at, c.if-not-point.ensures.is, c.if-not-point-2.ensures.is, c.box_places-gds_box.ensures);
      places = rw c.box_places-gds_box.ensures (record { body-in = record { first-in = omega arith; second-in = omega arith }; end-in = omega arith });
    }
