-- Measuring or writing a body is measuring or writing the kind that it is: the bytes stay. Assumes nothing.
use mathlib.Core.Path.{◌≡◌, refl, sym, subst}
use mathlib.Core.List.{List}
use Prim.Native.Nat.{ℕ, ◌≤◌}
use lib.Ieee.{Float}
use Rattle.std.specs.Prelude.{Result}
use Rattle.refusal.specs.declared.Refusal.{Refusal}
use Rattle.conversion.specs.declared.GdsRoundingPolicy.{GdsRoundingPolicy}
use Rattle.conversion.specs.declared.Entry.{Entry}
use Rattle.conversion.specs.Made.{Made, pure, ◌>>=◌}
use Rattle.conversion.proofs.MadeLaws.{steps}
use Rattle.stream.specs.Structure as D
use Rattle.cell.specs.Write.{write_polygon, write_path, write_text, write_node, write_reference, write_box, write_body}
use Rattle.steps.specs.declared.Measured.{Measured}
use Rattle.steps.specs.declared.Written.{Written}
use Rattle.steps.specs.code.Steps.{Measures, Succeeds, Writes}
use Rattle.steps.proofs.StepLaws.{yields, succeeds, measure-wrapped, write-wrapped}
use Rattle.block_places.specs.declared.ShapePlaces.{ShapePlaces}
use Rattle.block_places.specs.declared.PathPlaces.{PathPlaces}
use Rattle.block_places.specs.declared.TextPlaces.{TextPlaces}
use Rattle.block_places.specs.declared.ReferencePlaces.{ReferencePlaces}
use Rattle.block_places.specs.declared.BoxPlaces.{BoxPlaces}
use Rattle.block_places.specs.declared.BodyPlaces.{BodyPlaces}
use Rattle.block_places.specs.declared.BodyPlaces.TheVariants as B
use Rattle.block_places.specs.code.Places.{shape_at, path_at, text_at, reference_at, box_at, body_at, BodyIn}
use Rattle.polygon_node.specs.code.Shape.{polygon_bytes, node_bytes}
use Rattle.boxes.specs.code.Box.{box_bytes}
use Rattle.path.specs.code.Length.{path_bytes}
use Rattle.text.specs.code.Text.{text_bytes}
use Rattle.reference.specs.code.Reference.{reference_bytes}
use Rattle.bodies.specs.code.Body.{body_bytes, body_length}

-- measured or written, the step n of a body answers as the step m of its kind does
pub record As {A : Type 0} (bytes : A → List ℕ) (m : Made A) (n : Made D.SaidBody) : Type 0 where
  pub measures : (e : Entry) (r : Result Measured Refusal) → Measures bytes e m r → Measures body_bytes e n r
  pub accepts : Succeeds n → Succeeds m
  pub writes : {e : Entry} {at : ℕ} {before after : List ℕ} {r : Written} → Writes bytes e m at before after r → Writes body_bytes e n at before after r

wrapped : {A : Type 0} (bytes : A → List ℕ) (wrap : A → D.SaidBody) → ((a : A) → body_bytes (wrap a) ≡ bytes a) → (m : Made A) → As bytes m (m >>= λ a. pure (wrap a))
wrapped bytes wrap kept m =
    record {
      measures = λ e r h. measure-wrapped bytes body_bytes wrap e m kept r h;
      accepts = λ s. succeeds (steps (yields s)).first;
      writes = λ {e} w. write-wrapped bytes body_bytes wrap e m kept w;
    }

-- the body at p, where it is of that kind
module _ (policy : GdsRoundingPolicy) (d : Float) (b : List ℕ) where
  abbrev Kind : {A : Type 0} → (A → List ℕ) → Made A → BodyPlaces → Type 0
  Kind bytes m p = As bytes m (write_body policy d (body_at b p))

  pub polygon-as : {p : BodyPlaces} {s : ShapePlaces} → p ≡ B.Polygon s → Kind polygon_bytes (write_polygon policy d (shape_at b s)) p
  unfolding write_body body_bytes
  polygon-as {s = s} g = subst (Kind polygon_bytes (write_polygon policy d (shape_at b s))) (sym g) (wrapped polygon_bytes D.boundary (λ w. refl) (write_polygon policy d (shape_at b s)))

  pub path-as : {p : BodyPlaces} {s : PathPlaces} → p ≡ B.Path s → Kind path_bytes (write_path policy d (path_at b s)) p
  unfolding write_body body_bytes path_bytes
  path-as {s = s} g = subst (Kind path_bytes (write_path policy d (path_at b s))) (sym g) (wrapped path_bytes D.path (λ w. refl) (write_path policy d (path_at b s)))

  pub text-as : {p : BodyPlaces} {s : TextPlaces} → p ≡ B.Text s → Kind text_bytes (write_text policy d (text_at b s)) p
  unfolding write_body body_bytes text_bytes
  text-as {s = s} g = subst (Kind text_bytes (write_text policy d (text_at b s))) (sym g) (wrapped text_bytes D.text (λ w. refl) (write_text policy d (text_at b s)))

  pub node-as : {p : BodyPlaces} {s : ShapePlaces} → p ≡ B.Node s → Kind node_bytes (write_node policy d (shape_at b s)) p
  unfolding write_body body_bytes
  node-as {s = s} g = subst (Kind node_bytes (write_node policy d (shape_at b s))) (sym g) (wrapped node_bytes D.node (λ w. refl) (write_node policy d (shape_at b s)))

  pub reference-as : {p : BodyPlaces} {s : ReferencePlaces} → p ≡ B.Reference s → Kind reference_bytes (write_reference policy d (reference_at b s)) p
  unfolding write_body body_bytes reference_bytes
  reference-as {s = s} g = subst (Kind reference_bytes (write_reference policy d (reference_at b s))) (sym g) (record { measures = λ e r h. h; accepts = λ s. s; writes = λ w. w })

  pub box-as : {p : BodyPlaces} {s : BoxPlaces} → p ≡ B.Box s → Kind box_bytes (write_box policy d (box_at b s)) p
  unfolding write_body body_bytes
  box-as {s = s} g = subst (Kind box_bytes (write_box policy d (box_at b s))) (sym g) (wrapped box_bytes D.box (λ w. refl) (write_box policy d (box_at b s)))

-- ---- writing

-- what a kind's function asks, in the arm of that kind
pub record Room (b : List ℕ) (s : BodyPlaces) (n : ℕ) : Type 0 where
  pub inside : BodyIn b s
  pub fits : body_length b s ≤ n

pub room_of : {b : List ℕ} {s t : BodyPlaces} {n : ℕ} → s ≡ t → BodyIn b s → body_length b s ≤ n → Room b t n
room_of {b} {s} {t} {n} h i l = subst (λ (x : BodyPlaces). Room b x n) h (record { inside = i; fits = l })
