-- The transform, and then the conversions: each way out of the code. Assumes nothing.
use mathlib.Core.Path.{◌≡◌, refl, sym, ap, ap₂, ◌∙◌, subst}
use mathlib.Core.Bool.{Bool, true, false, ◌&&◌, cond}
use mathlib.Core.Option.{Option}
use mathlib.Core.List.{List, []}
use Prim.Native.Nat.{ℕ, ◌≤◌}
use lib.ListN.{length}
use lib.IntN.{ℤ}
use lib.Ieee.{Float}
use Rattle.std.specs.Prelude.{Result, Ok, Err, IsOk}
use Rattle.refusal.specs.declared.Refusal.{Refusal}
use Rattle.refusal.specs.declared.Refusal.TheVariants as R
use Rattle.big_endian.specs.Big.{number_at}
use Rattle.units.specs.Point.{Point}
use Rattle.conversion.specs.declared.Entry.{Entry}
use Rattle.conversion.specs.declared.GdsRoundingPolicy.{GdsRoundingPolicy}
use Rattle.conversion.specs.Array.{ArrayPoints, convert_array}
use Rattle.conversion.specs.Field.{origin_field}
use Rattle.conversion.specs.code.Fold.{run}
use Rattle.conversion.specs.Made.{Made, refused, pure, need, ◌>>=◌}
use Rattle.conversion.specs.Points.{write_point}
use Rattle.conversion.proofs.FoldLaws.{run-then, run-need, run-unmet, run-map, run-same}
use Rattle.conversion.proofs.MadeLaws.{refused-on, pure-on}
use Rattle.sheet.specs.Element as S
use Rattle.stream.specs.Strings.{padded}
use Rattle.stream.specs.Structure as D
use Rattle.cell.specs.Write.{in_unit, write_transform, write_sref, write_aref, write_reference}
use Rattle.block_places.specs.declared.ReferencePlaces.{ReferencePlaces}
use Rattle.block_places.specs.code.Place.{point_at, string_at, string_end}
use Rattle.block_places.specs.code.Places.{reference_at}
use Rattle.transform.specs.declared.Strans.{Strans}
use Rattle.transform.specs.code.Strans.{said_of}
use Rattle.transform.proofs.StransLaws.{transform-length, strans-length-is}
use Rattle.steps.specs.code.Ready.{Ready, stopped, ready}
use Rattle.steps.specs.code.Steps.{Succeeds}
use Rattle.steps.proofs.StepLaws.{run-through}
use Rattle.steps.proofs.ReadyLaws.{never-stopped}
use Rattle.coordinate.specs.declared.Pointed.{Pointed}
use Rattle.coordinate.specs.code.Coordinate.{at_point, pointed, GivesPoint}
use Rattle.array.specs.declared.Array.{Array}
use Rattle.array.specs.code.Corners.{cornered}
use Rattle.array.proofs.CornerLaws.{corners-are}
use Rattle.reference.specs.declared.ReferenceValues.{ReferenceValues}
use Rattle.reference.specs.declared.ReferenceValues.TheVariants as N
use Rattle.reference.specs.code.Reference.{size_of, single_rest, array_rest, is_single, reference_length, guarded, Bounded, Encodes, after_transform, after_checks, turned_array, sref_of, aref_of, Fits, GivesReference}
use Rattle.reference.proofs.CheckLaws.{guarded-bounded, guarded-past}

-- ---- 15, and then the array

module _ {Z : Type 0} (stop : Refusal → Z) (e : Entry) (policy : GdsRoundingPolicy) (d : Float) (x : S.Reference) (k : ArrayPoints → Entry → Z) where
  abbrev conversions : Made ArrayPoints
  conversions = convert_array policy d x.sine x.cosine x.columns x.rows x.origin x.column_spacing x.row_spacing

  pub turn-stops : in_unit x.sine && in_unit x.cosine ≡ false → stop R.SineOrCosine ≡ run stop e (turned_array policy d x) k
  turn-stops h = sym (run-unmet stop e (in_unit x.sine && in_unit x.cosine) R.SineOrCosine conversions k h)

  pub turned_on : in_unit x.sine && in_unit x.cosine ≡ true → run stop e (convert_array policy d x.sine x.cosine x.columns x.rows x.origin x.column_spacing x.row_spacing) k ≡ run stop e (turned_array policy d x) k
  turned_on h = sym (run-need stop e (in_unit x.sine && in_unit x.cosine) R.SineOrCosine conversions k h)

-- ---- after the transform

module _ (policy : GdsRoundingPolicy) (d : Float) (b : List ℕ) (s : ReferencePlaces) (t : Strans) (e : Entry) (bounds : Bounded b s) (encodes : Encodes s t) where
  abbrev step : Made D.SaidBody
  step = after_transform policy d (reference_at b s) (said_of t)

  abbrev step_by : Bool → Made D.SaidBody
  step_by single = cond single (write_sref policy d (reference_at b s) (said_of t) >>= λ w. pure (D.sref w)) (write_aref policy d (reference_at b s) (said_of t) >>= λ w. pure (D.aref w))

  chosen : (v : Bool) → is_single s ≡ v → run stopped e (step_by v) ready ≡ run stopped e step ready
  unfolding after_transform reference_at
  chosen v h = ap (λ (v : Bool). run stopped e (step_by v) ready) (sym h)

  fits : (v : Bool) → is_single s ≡ v → Fits b s t (cond v single_rest array_rest)
  unfolding reference_length
  fits v h =
      record {
        bounds = bounds;
        bytes = transform-length s.degrees s.magnification s.reflection (said_of t) (record { log = []; is = sym encodes })
            ∙ sym (strans-length-is s.degrees s.magnification s.reflection t encodes);
        size = ap₂ (λ (n : ℕ) (v : Bool). size_of n (number_at 2 b s.name) (cond v single_rest array_rest)) (strans-length-is s.degrees s.magnification s.reflection t encodes) (sym h);
      }

  -- a 1 × 1 reference
  abbrev origin : Made (Point ℤ)
  origin = write_point policy d origin_field 0 (point_at b s.origin)

  abbrev sref-at : Point ℤ → Entry → Ready D.SaidBody
  sref-at o e' = ready (sref_of b s t (at_point o)) e'

  single-run : run stopped e origin sref-at ≡ run stopped e (step_by true) ready
  unfolding write_sref reference_at sref_of
  single-run =
      sym
      (run-map stopped e (write_sref policy d (reference_at b s) (said_of t)) D.sref ready
      ∙ run-map stopped e origin (λ o. record { name = padded (string_at b s.name); transform = said_of t; origin = o }) (λ w e'. ready (D.sref w) e'))

  abbrev point-ready : Result Pointed Refusal → Ready D.SaidBody
  point-ready (Err x) = stopped x
  point-ready (Ok v) = ready (sref_of b s t v.point) v.entry

  module _ (h : is_single s ≡ true) where
    single-met : (r : Result Pointed Refusal) → GivesPoint e origin r → point-ready r ≡ run stopped e step ready
    single-met r c =
        ap point-ready c.is ∙ run-through Err pointed point-ready stopped sref-at (λ x. refl) (λ o e'. refl) e origin ∙ single-run ∙ chosen true h

    pub single-stops : (x : Refusal) → GivesPoint e (write_point policy d origin_field 0 (point_at b s.origin)) (Err x) → GivesReference b s e (after_transform policy d (reference_at b s) (said_of t)) (Err x)
    single-stops x c = record { is = single-met (Err x) c; fine = tt }

    pub single-made : (v : Pointed) → GivesPoint e (write_point policy d origin_field 0 (point_at b s.origin)) (Ok v)
        → GivesReference b s e (after_transform policy d (reference_at b s) (said_of t)) (Ok (N.Single t v.point v.entry))
    single-made v c = record { is = single-met (Ok v) c; fine = fits true h }

  -- an array
  abbrev array : Made ArrayPoints
  array = turned_array policy d (reference_at b s)

  abbrev aref-of : ArrayPoints → D.Aref (Option D.Strans)
  aref-of ps =
      record {
        name = padded (string_at b s.name);
        transform = said_of t;
        columns = s.columns;
        rows = s.rows;
        origin = ps.origin;
        column_step = ps.column_step;
        row_step = ps.row_step;
      }

  abbrev aref-at : ArrayPoints → Entry → Ready D.SaidBody
  aref-at ps e' = ready (D.aref (aref-of ps)) e'

  array-run : run stopped e array aref-at ≡ run stopped e (step_by false) ready
  unfolding write_aref reference_at
  array-run =
      let x = reference_at b s in
      let m = convert_array policy d s.sine s.cosine s.columns s.rows x.origin x.column_spacing x.row_spacing in
      let n = need (in_unit s.sine && in_unit s.cosine) R.SineOrCosine in
      sym
      (run-map stopped e (write_aref policy d (reference_at b s) (said_of t)) D.aref ready
      ∙ run-then stopped e n (m >>= λ ps. pure (aref-of ps)) (λ w e'. ready (D.aref w) e')
      ∙ run-same stopped e n _ _ (λ u e'. run-map stopped e' m aref-of (λ w e''. ready (D.aref w) e''))
      ∙ sym (run-then stopped e n m aref-at))

  abbrev array-ready : Result Array Refusal → Ready D.SaidBody
  array-ready (Err x) = stopped x
  array-ready (Ok v) = ready (aref_of b s t v.corners) v.entry

  module _ (h : is_single s ≡ false) where
    array-met : (r : Result Array Refusal) → r ≡ run Err e array (cornered s.columns s.rows) → array-ready r ≡ run stopped e step ready
    unfolding aref_of
    array-met r c =
        ap array-ready c
        ∙ run-through Err (cornered s.columns s.rows) array-ready stopped aref-at (λ x. refl) (λ ps e'. refl) e array
        ∙ array-run
        ∙ chosen false h

    pub array-stops : (x : Refusal) → Err x ≡ run Err e (turned_array policy d (reference_at b s)) (cornered s.columns s.rows)
        → GivesReference b s e (after_transform policy d (reference_at b s) (said_of t)) (Err x)
    array-stops x c = record { is = array-met (Err x) c; fine = tt }

    pub array_made : (v : Array) → Ok v ≡ run Err e (turned_array policy d (reference_at b s)) (cornered s.columns s.rows)
        → GivesReference b s e (after_transform policy d (reference_at b s) (said_of t)) (Ok (N.Array t v.corners v.entry))
    array_made v c = record { is = array-met (Ok v) c; fine = (fits false h, corners-are s.columns s.rows e array v c) }

-- ---- the transform, and the whole

module _ (policy : GdsRoundingPolicy) (d : Float) (b : List ℕ) (s : ReferencePlaces) (e : Entry) where
  whole : guarded (reference_at b s) (after_checks policy d (reference_at b s)) ≡ write_reference policy d (reference_at b s)
  unfolding guarded after_checks after_transform write_reference
  whole = refl

  refused-values : (m : Made D.SaidBody) (x : Refusal) → refused x ≡ m → GivesReference b s e m (Err x)
  unfolding run
  refused-values m x h = record { is = ap (λ (n : Made D.SaidBody). run stopped e n ready) h; fine = tt }

  pub transform-stops : (x : Refusal) → refused x ≡ write_transform s.degrees s.magnification s.reflection → GivesReference b s e (after_checks policy d (reference_at b s)) (Err x)
  unfolding after_checks reference_at
  transform-stops x g = refused-values _ x (refused-on (write_transform s.degrees s.magnification s.reflection) (after_transform policy d (reference_at b s)) x g)

  pub transform-goes-on : (t : Strans) → Encodes s t → (r : Result ReferenceValues Refusal) → GivesReference b s e (after_transform policy d (reference_at b s) (said_of t)) r → GivesReference b s e (after_checks policy d (reference_at b s)) r
  unfolding after_checks reference_at
  transform-goes-on t g r v =
      subst (λ (m : Made D.SaidBody). GivesReference b s e m r) (pure-on (write_transform s.degrees s.magnification s.reflection) (after_transform policy d (reference_at b s)) (said_of t) g) v

  pub checks-stop : (x : Refusal) → ((m : Made D.SaidBody) → refused x ≡ guarded (reference_at b s) m) → GivesReference b s e (write_reference policy d (reference_at b s)) (Err x)
  checks-stop x h = refused-values _ x (h (after_checks policy d (reference_at b s)) ∙ whole)

  pub checks-pass : ((m : Made D.SaidBody) → m ≡ guarded (reference_at b s) m) → (r : Result ReferenceValues Refusal) → GivesReference b s e (after_checks policy d (reference_at b s)) r → GivesReference b s e (write_reference policy d (reference_at b s)) r
  checks-pass h r v = subst (λ (m : Made D.SaidBody). GivesReference b s e m r) (h (after_checks policy d (reference_at b s)) ∙ whole) v

  -- a reference that succeeds has passed its checks, and is not refused
  module _ (g : Succeeds (write_reference policy d (reference_at b s))) where
    pub reference-bounded : string_end b s.name ≤ length b → Bounded b s
    reference-bounded inside = guarded-bounded b s inside (after_checks policy d (reference_at b s)) (subst Succeeds (sym whole) g)

    pub reference-past : {r : Result ReferenceValues Refusal} → GivesReference b s e (after_checks policy d (reference_at b s)) r → GivesReference b s e (write_reference policy d (reference_at b s)) r
    reference-past {r} v = subst (λ (m : Made D.SaidBody). GivesReference b s e m r) (sym (guarded-past (reference_at b s) _ (subst Succeeds (sym whole) g)) ∙ whole) v

    pub reference-never-refused : (r : Result ReferenceValues Refusal) → GivesReference b s e (after_checks policy d (reference_at b s)) r → IsOk r
    reference-never-refused (Err x) v = never-stopped e (write_reference policy d (reference_at b s)) x g (reference-past v).is
    reference-never-refused (Ok w) v = refl
