-- The steps before the points: an answer handed on, each way out of the code, and a path as these steps and then its points. Assumes nothing.
use mathlib.Core.Path.{◌≡◌, refl, sym, ap, ◌∙◌, subst}
use mathlib.Core.Bool.{Bool, true, false, cond}
use mathlib.Core.Option.{Option, none, some}
use mathlib.Core.List.{List}
use Prim.Native.Nat.{ℕ, ◌+◌, ◌≤◌}
use native.Mathlib.Omega.{arith}
use lib.Dec.{eqb}
use lib.ListN.{length}
use lib.IntN.{ℤ}
use lib.Ieee.{Float}
use Rattle.std.specs.Prelude as Code
use Rattle.std.specs.Prelude.{Result, Ok, Err, IsOk}
use Rattle.refusal.specs.declared.Refusal.{Refusal}
use Rattle.units.specs.declared.Unit as Units
use Rattle.units.specs.Point.{Point}
use Rattle.big_endian.specs.Big.{number_at}
use Rattle.conversion.specs.declared.Entry.{Entry}
use Rattle.conversion.specs.declared.GdsRoundingPolicy.{GdsRoundingPolicy}
use Rattle.conversion.specs.Made.{Made, Done, refused, pure, ◌>>=◌}
use Rattle.conversion.specs.code.Fold.{blank_entry, run}
use Rattle.conversion.specs.Convert.{convert_unit}
use Rattle.conversion.specs.Points.{spot, write_points, write_length}
use Rattle.conversion.specs.Field.{width_field, begin_field, end_field, no_axis}
use Rattle.conversion.proofs.FoldLaws.{run_bind, run-then, run-pure, run-map, run-same}
use Rattle.conversion.proofs.MadeLaws.{Yields, steps}
use Rattle.sheet.specs.Form.{absent_kind}
use Rattle.sheet.specs.Element as S
use Rattle.stream.specs.Structure as D
use Rattle.records.specs.code.Bytes.{option_of}
use Rattle.steps.specs.code.Ready.{stopped, ready}
use Rattle.steps.specs.code.Steps.{Succeeds}
use Rattle.steps.proofs.StepLaws.{yields, succeeds}
use Rattle.steps.proofs.ReadyLaws.{ready-yields, ready-stops, ready-goes-on, succeeds-as, never-stopped}
use Rattle.cell.specs.Limits.{min_path_points, max_points}
use Rattle.cell.specs.Write.{is_some, write_path}
use Rattle.validation.specs.code.Check.{shape_checks}
use Rattle.validation.proofs.CheckLaws.{behind, behind-refused, behind-passed, behind-yields, passed-within}
use Rattle.block_places.specs.code.Place.{unit_at, coordinate_at}
use Rattle.coordinate.specs.declared.Valued.{Valued}
use Rattle.coordinate.specs.code.Coordinate.{GivesValue}
use Rattle.coordinate.proofs.ValueLaws.{value-stops, value-goes-on}
use Rattle.path.specs.declared.Length.{Length}
use Rattle.path.specs.declared.Lengths.{Lengths}
use Rattle.path.specs.code.Front.{OptExtent, opt_extent, write_extent, write_front, GivesLength, GivesExtent}

-- ---- an answer handed on: a step's refusal, or what is left after its value

module _ {R : Type 0} (stop : Refusal → R) {A B : Type 0} (e : Entry) (m : Made A) (f : A → Made B) (k : B → Entry → R) where
  stops : (x : Refusal) → stopped x ≡ run stopped e m ready → stop x ≡ run stop e (m >>= f) k
  stops x h = ready-stops e m (stopped x) h stop (λ a e'. run stop e' (f a) k) x refl ∙ sym (run_bind stop e m f k)

  goes_on : (a : A) (e' : Entry) → ready a e' ≡ run stopped e m ready → run stop e' (f a) k ≡ run stop e (m >>= f) k
  goes_on a e' h = ready-goes-on e m (ready a e') h stop (λ a e'. run stop e' (f a) k) a e' refl ∙ sym (run_bind stop e m f k)

-- ---- one length

module _ (policy : GdsRoundingPolicy) (d : Float) (f : ℕ) (b : List ℕ) (at : ℕ) (e : Entry) where
  abbrev pub Given : Result Length Refusal → Type 0
  Given r = GivesLength (is_some (coordinate_at b at)) e (write_length policy d f (coordinate_at b at)) r

  abbrev Of : Option Units.Unit → Result Length Refusal → Type 0
  Of x r = GivesLength (is_some x) e (write_length policy d f x) r

  absent-is : (t : Bool) → eqb (number_at 1 b at) absent_kind ≡ t → coordinate_at b at ≡ cond t none (some (unit_at b at))
  unfolding coordinate_at
  absent-is t h = ap (λ (t : Bool). cond t none (some (unit_at b at))) h

  pub length-absent : eqb (number_at 1 b at) absent_kind ≡ true → Given (Ok (record { value = Code.None; entry = e }))
  unfolding write_length
  length-absent h = subst (λ (x : Option Units.Unit). Of x (Ok (record { value = Code.None; entry = e }))) (sym (absent-is true h)) missing
    where
      go : (n : ℕ) → n ≤ n + 1
      go n = omega arith

      missing : Of none (Ok (record { value = Code.None; entry = e }))
      missing = record { is = sym (run-pure stopped e none ready); fits = (refl, go e.count) }

  module _ (h : eqb (number_at 1 b at) absent_kind ≡ false) where
    abbrev value : Made ℤ
    value = convert_unit policy d (spot f no_axis 0) (unit_at b at)

    there : (r : Result Length Refusal) → Of (some (unit_at b at)) r → Given r
    there r x = subst (λ (x : Option Units.Unit). Of x r) (sym (absent-is false h)) x

    pub length-refused : (x : Refusal) → GivesValue e value (Err x) → Given (Err x)
    unfolding write_length
    length-refused x v = there (Err x) (record { is = value-stops stopped e value (λ q. pure (some q)) ready x v; fits = tt })

    pub length-there : (s : Valued) → GivesValue e value (Ok s) → Given (Ok (record { value = Code.Some s.value; entry = s.entry }))
    unfolding write_length
    length-there s v =
        there (Ok (record { value = Code.Some s.value; entry = s.entry }))
        (record {
          is = sym (run-pure stopped s.entry (some s.value) ready) ∙ value-goes-on stopped e value (λ q. pure (some q)) ready s v;
          fits = (refl, v.grown);
        })

-- ---- the three lengths: each way out

module _ (policy : GdsRoundingPolicy) (d : Float) (p : S.Path) (e : Entry) where
  abbrev third : Option ℤ → Option ℤ → Option ℤ → Made OptExtent
  third w b n = pure (record { width = w; begin = b; end = n })

  abbrev second : Option ℤ → Option ℤ → Made OptExtent
  second w b = write_length policy d end_field p.end >>= λ n. third w b n

  abbrev first : Option ℤ → Made OptExtent
  first w = write_length policy d begin_field p.begin >>= λ b. second w b

  pub width-stops : (x : Refusal) → GivesLength (is_some p.width) e (write_length policy d width_field p.width) (Err x) → GivesExtent p e (write_extent policy d p) (Err x)
  unfolding write_extent
  width-stops x h = record { is = stops stopped e (write_length policy d width_field p.width) first ready x h.is; fits = tt }

  module _ (w : Length) (h1 : GivesLength (is_some p.width) e (write_length policy d width_field p.width) (Ok w)) where
    after-width : run stopped w.entry (first (option_of w.value)) ready ≡ run stopped e (write_extent policy d p) ready
    unfolding write_extent
    after-width = goes_on stopped e (write_length policy d width_field p.width) first ready (option_of w.value) w.entry h1.is

    pub begin-stops : (x : Refusal) → GivesLength (is_some p.begin) w.entry (write_length policy d begin_field p.begin) (Err x) → GivesExtent p e (write_extent policy d p) (Err x)
    begin-stops x h = record { is = stops stopped w.entry (write_length policy d begin_field p.begin) (second (option_of w.value)) ready x h.is ∙ after-width; fits = tt }

    module _ (b : Length) (h2 : GivesLength (is_some p.begin) w.entry (write_length policy d begin_field p.begin) (Ok b)) where
      after-begin : run stopped b.entry (second (option_of w.value) (option_of b.value)) ready ≡ run stopped e (write_extent policy d p) ready
      after-begin = goes_on stopped w.entry (write_length policy d begin_field p.begin) (second (option_of w.value)) ready (option_of b.value) b.entry h2.is ∙ after-width

      pub end-stops : (x : Refusal) → GivesLength (is_some p.end) b.entry (write_length policy d end_field p.end) (Err x) → GivesExtent p e (write_extent policy d p) (Err x)
      end-stops x h =
          record { is = stops stopped b.entry (write_length policy d end_field p.end) (third (option_of w.value) (option_of b.value)) ready x h.is ∙ after-begin; fits = tt }

      pub all_there : (n : Length) → GivesLength (is_some p.end) b.entry (write_length policy d end_field p.end) (Ok n)
          → GivesExtent p e (write_extent policy d p) (Ok (record { extent = record { width = w.value; begin = b.value; end = n.value }; entry = n.entry }))
      all_there n h3 =
          record {
            is = sym (run-pure stopped n.entry (record { width = option_of w.value; begin = option_of b.value; end = option_of n.value }) ready)
                ∙ goes_on stopped b.entry (write_length policy d end_field p.end) (third (option_of w.value) (option_of b.value)) ready (option_of n.value) n.entry h3.is
                ∙ after-begin;
            fits = record { wide_is = h1.fits.0; begun-is = h2.fits.0; ended_is = h3.fits.0; grown = go e.count w.entry.count b.entry.count n.entry.count h1.fits.1 h2.fits.1 h3.fits.1 };
          }
        where
          go : (k k1 k2 k3 : ℕ) → k1 ≤ k + 1 → k2 ≤ k1 + 1 → k3 ≤ k2 + 1 → k3 ≤ k + 3
          go k k1 k2 k3 a b c = omega arith

-- ---- the checks: each way out

module _ (policy : GdsRoundingPolicy) (d : Float) (p : S.Path) where
  abbrev checks : Made Done
  checks = shape_checks min_path_points (length p.points) max_points p.layer p.datatype

  front-is : behind min_path_points (length p.points) max_points p.layer p.datatype (write_extent policy d p) ≡ write_front policy d p
  unfolding write_front
  front-is = refl

  front-passed : pure tt ≡ checks → write_extent policy d p ≡ write_front policy d p
  front-passed h = behind-passed min_path_points (length p.points) max_points p.layer p.datatype (write_extent policy d p) h ∙ front-is

  front-yields : {x : OptExtent} → Yields (write_front policy d p) x → pure tt ≡ checks
  unfolding write_front
  front-yields y = behind-yields min_path_points (length p.points) max_points p.layer p.datatype (write_extent policy d p) y

  pub checks-stop : (e : Entry) (x : Refusal) → refused x ≡ checks → GivesExtent p e (write_front policy d p) (Err x)
  unfolding run
  checks-stop e x h =
      record {
        is = ap (λ (m : Made OptExtent). run stopped e m ready) (behind-refused min_path_points (length p.points) max_points p.layer p.datatype (write_extent policy d p) x h ∙ front-is);
        fits = tt;
      }

  pub checks-pass : (e : Entry) (r : Result Lengths Refusal) → pure tt ≡ checks → GivesExtent p e (write_extent policy d p) r → GivesExtent p e (write_front policy d p) r
  checks-pass e r h g = subst (λ (m : Made OptExtent). GivesExtent p e m r) (front-passed h) g

-- ---- a path: these steps, then its points

module _ (policy : GdsRoundingPolicy) (d : Float) (p : S.Path) where
  -- what the records say of it
  abbrev pub drawn : OptExtent → List (Point ℤ) → D.Path
  drawn l ps = record { layer = p.layer; datatype = p.datatype; path_type = p.path_type; width = l.width; begin = l.begin; end = l.end; points = ps }

  module _ {R : Type 0} (stop : Refusal → R) (e : Entry) (k : D.Path → Entry → R) where
    abbrev rest : OptExtent → Made D.Path
    rest l = write_points policy d 0 p.points >>= λ ps. pure (drawn l ps)

    pub path-is : run stop e (write_path policy d p) k ≡ run stop e (write_front policy d p >>= rest) k
    unfolding write_path write_front write_extent
    path-is =
        run-then stop e _ _ k
        ∙ run-same stop e _ _ _ (λ u e1. run-then stop e1 _ _ k
        ∙ run-same stop e1 _ _ _ (λ v e2. run_bind stop e2 _ _ k
        ∙ run-same stop e2 _ _ _ (λ w e3. run_bind stop e3 _ _ k
        ∙ run-same stop e3 _ _ _ (λ b e4. run_bind stop e4 _ _ k
        ∙ sym (run-map stop e4 _ (λ n. record { width = w; begin = b; end = n }) (λ l e5. run stop e5 (rest l) k)))
        ∙ sym (run_bind stop e3 _ _ (λ l e5. run stop e5 (rest l) k)))
        ∙ sym (run_bind stop e2 _ _ (λ l e5. run stop e5 (rest l) k)))
        ∙ sym (run-then stop e1 _ _ (λ l e5. run stop e5 (rest l) k)))
        ∙ sym (run-then stop e _ _ (λ l e5. run stop e5 (rest l) k))
        ∙ sym (run_bind stop e (write_front policy d p) rest k)

    pub front-stops : (x : Refusal) → GivesExtent p e (write_front policy d p) (Err x) → stop x ≡ run stop e (write_path policy d p) k
    front-stops x h = stops stop e (write_front policy d p) rest k x h.is ∙ sym path-is

    pub front-goes-on : (v : Lengths) → GivesExtent p e (write_front policy d p) (Ok v)
        → run stop v.entry (write_points policy d 0 p.points) (λ ps e''. k (drawn (opt_extent v.extent) ps) e'') ≡ run stop e (write_path policy d p) k
    front-goes-on v h =
        sym (run-map stop v.entry (write_points policy d 0 p.points) (drawn (opt_extent v.extent)) k)
        ∙ goes_on stop e (write_front policy d p) rest k (opt_extent v.extent) v.entry h.is
        ∙ sym path-is

  -- where the front gives lengths, the points are as many as they may be
  pub front-counted : (e : Entry) (v : Lengths) → GivesExtent p e (write_front policy d p) (Ok v) → (min_path_points ≤ length p.points) × (length p.points ≤ max_points)
  front-counted e v h =
      passed-within min_path_points (length p.points) max_points p.layer p.datatype
      (front-yields policy d p (ready-yields e (write_front policy d p) (opt_extent v.extent) v.entry h.is))

  -- ---- where the path succeeds, its front does, which is its lengths, and so do its points

  module _ (s : Succeeds (write_path policy d p)) where
    both-steps : Succeeds (write_front policy d p >>= rest stopped (blank_entry 0 0) ready)
    both-steps = succeeds-as (blank_entry 0 0) (write_path policy d p) _ (path-is stopped (blank_entry 0 0) ready) s

    front-succeeds : Succeeds (write_front policy d p)
    front-succeeds = succeeds (steps (yields both-steps)).first

    pub points-succeed : Succeeds (write_points policy d 0 p.points)
    points-succeed = succeeds (steps (steps (yields both-steps)).then).first

    pub front-past : {e : Entry} {r : Result Lengths Refusal} → GivesExtent p e (write_extent policy d p) r → GivesExtent p e (write_front policy d p) r
    front-past {e} {r} g = checks-pass policy d p e r (front-yields policy d p (yields front-succeeds)) g

    -- and no length is refused
    pub never-refused : {e : Entry} {r : Result Lengths Refusal} → GivesExtent p e (write_extent policy d p) r → IsOk r
    never-refused {e = e} {r = Err x} g = never-stopped e (write_front policy d p) x front-succeeds (front-past g).is
    never-refused {r = Ok v} g = refl
