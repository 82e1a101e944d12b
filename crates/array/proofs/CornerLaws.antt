-- The parts of an array's conversions in a row: each way out of the code at its place. Assumes nothing.
use mathlib.Core.Path.{◌≡◌, refl, sym, ap, ap₂, ◌∙◌}
use mathlib.Core.Option.{Option}
use Prim.Native.Nat.{ℕ}
use lib.IntN.{ℤ}
use lib.Ieee.{Float}
use Rattle.std.specs.Prelude.{Result, Ok, Err, IsErrAnd}
use Rattle.refusal.specs.declared.Refusal.{Refusal}
use Rattle.units.specs.declared.Unit as U
use Rattle.units.specs.Point.{Point}
use Rattle.conversion.specs.declared.DatabasePoint.{DatabasePoint}
use Rattle.conversion.specs.declared.Entry.{Entry}
use Rattle.conversion.specs.declared.GdsRoundingPolicy.{GdsRoundingPolicy}
use Rattle.conversion.specs.declared.PhysicalPoint.{PhysicalPoint}
use Rattle.conversion.specs.code.Answer.{point_of}
use Rattle.conversion.specs.Array.{ArrayPoints, physical_point, physical_spacing, turned, write_physical, write_endpoint, convert_array}
use Rattle.conversion.specs.Field.{origin_field, column_spacing_field, row_spacing_field, column_endpoint_field, row_endpoint_field}
use Rattle.conversion.specs.code.Fold.{noted_all, run}
use Rattle.conversion.specs.Made.{Made, Done, refused, made, pure, ◌>>=◌, ◌>>◌}
use Rattle.conversion.proofs.FoldLaws.{run_bind, run-then, run-pure}
use Rattle.steps.proofs.StepLaws.{run-through, handed}
use Rattle.coordinate.specs.declared.Pointed.{Pointed}
use Rattle.coordinate.specs.code.Coordinate.{at_point, pointed}
use Rattle.array.specs.declared.Converted.{Converted}
use Rattle.array.specs.declared.Corners.{Corners}
use Rattle.array.specs.declared.Array.{Array}
use Rattle.array.specs.code.Corners.{physicals_of, physical_part, database_part, converted, GivesArrayPoint, end_of, Ends, corners_for, steps_of, cornered, after_steps, after_spacings, after_origin}

-- a refusal that `?` hands on is the answer where the refusal it met is
pub handed-as : {A : Type 0} {answer : Result A Refusal} (x : Refusal) (w : Result A Refusal) → IsErrAnd w (λ y. y ≡ x) → Err x ≡ answer → w ≡ answer
handed-as {answer = answer} x w e h = handed (λ r. r ≡ answer) x w e h

-- ---- a step by its answer, and what is left after it

-- physical values
module _ {R B : Type 0} (stop : Refusal → R) (e : Entry) (m : Made (Point Float)) (f : Point Float → Made B) (k : B → Entry → R) where
  on : (v : Result PhysicalPoint Refusal) → physicals_of v ≡ m → run stop e (physicals_of v) (λ p e'. run stop e' (f p) k) ≡ run stop e (m >>= f) k
  on v h = ap (λ (n : Made (Point Float)). run stop e n (λ p e'. run stop e' (f p) k)) h ∙ sym (run_bind stop e m f k)

  pub physicals-stop : (x : Refusal) → refused x ≡ m → stop x ≡ run stop e (m >>= f) k
  unfolding run
  physicals-stop x h = on (Err x) h

  pub physicals-go-on : (p : PhysicalPoint) → pure (point_of p) ≡ m → run stop e (f (point_of p)) k ≡ run stop e (m >>= f) k
  unfolding run noted_all
  physicals-go-on p h = on (Ok p) h

-- a point on the grid, with its physical values p
module _ {R B : Type 0} (stop : Refusal → R) (e : Entry) (p : Point Float) (m : Made (Point ℤ)) (f : Point Float → Point ℤ → Made B) (k : B → Entry → R) where
  abbrev spread : Result Converted Refusal → R
  spread (Err x) = stop x
  spread (Ok v) = run stop v.entry (f (physical_part v.point) (database_part v.point)) k

  left : (r : Result Converted Refusal) → GivesArrayPoint e p m r → spread r ≡ run stop e (m >>= f p) k
  left r h = ap spread h.is ∙ run-through Err (converted p) spread stop (λ q e'. run stop e' (f p q) k) (λ x. refl) (λ q e'. refl) e m ∙ sym (run_bind stop e m (f p) k)

  pub converted-stops : (x : Refusal) → GivesArrayPoint e p m (Err x) → stop x ≡ run stop e (m >>= f p) k
  converted-stops x h = left (Err x) h

  pub converted-goes-on : (v : Converted) → GivesArrayPoint e p m (Ok v) → run stop v.entry (f (physical_part v.point) (database_part v.point)) k ≡ run stop e (m >>= f p) k
  converted-goes-on v h = left (Ok v) h

-- an endpoint q
always : {A B : Type 0} (e : Entry) (m : Made A) (b : B) → run (λ (x : Refusal). b) e m (λ a e'. b) ≡ b
unfolding run
always e (refused x) b = refl
always e (made a vs) b = refl

module _ (e : Entry) (q : Point ℤ) (m : Made Done) where
  abbrev point-of : Result Pointed Refusal → DatabasePoint
  point-of (Err x) = at_point q
  point-of (Ok v) = v.point

  pub end_is : (v : Pointed) → Ends e q m (Ok v) → v.point ≡ at_point q
  end_is v h =
      ap point-of h.is
      ∙ run-through Err (λ t e'. pointed q e') point-of (λ x. at_point q) (λ t e'. at_point q) (λ x. refl) (λ t e'. refl) e m
      ∙ always e m (at_point q)

  module _ {R B : Type 0} (stop : Refusal → R) (n : Made B) (k : B → Entry → R) where
    abbrev spread_end : Result Pointed Refusal → R
    spread_end (Err x) = stop x
    spread_end (Ok v) = run stop v.entry n k

    left_end : (r : Result Pointed Refusal) → Ends e q m r → spread_end r ≡ run stop e (m >> n) k
    left_end r h = ap spread_end h.is ∙ run-through Err (λ t e'. pointed q e') spread_end stop (λ t e'. run stop e' n k) (λ x. refl) (λ t e'. refl) e m ∙ sym (run-then stop e m n k)

    pub end_refused : (x : Refusal) → Ends e q m (Err x) → stop x ≡ run stop e (m >> n) k
    end_refused x h = left_end (Err x) h

    pub end-goes-on : (v : Pointed) → Ends e q m (Ok v) → run stop v.entry n k ≡ run stop e (m >> n) k
    end-goes-on v h = left_end (Ok v) h

-- ---- the endpoints

module _ (policy : GdsRoundingPolicy) (d : Float) (columns rows : ℕ) (po : Point Float) (o : Point ℤ) (pa pb : Point Float) (a b : Point ℤ) (e : Entry) where
  abbrev column-end : Made Done
  column-end = write_endpoint policy d column_endpoint_field o a columns po pa

  abbrev row-end : Made Done
  row-end = write_endpoint policy d row_endpoint_field o b rows po pb

  abbrev points-are : ArrayPoints
  points-are = record { origin = o; column_step = a; row_step = b }

  abbrev whole : Result Array Refusal
  whole = run Err e (after_steps policy d columns rows po o pa pb a b) (cornered columns rows)

  pub columns-stop : (x : Refusal) → Ends e (end_of o a columns) column-end (Err x) → Err x ≡ whole
  unfolding after_steps
  columns-stop x h = end_refused e (end_of o a columns) column-end Err (row-end >> pure points-are) (cornered columns rows) x h

  module _ (v : Pointed) (h : Ends e (end_of o a columns) column-end (Ok v)) where
    after-columns : run Err v.entry (row-end >> pure points-are) (cornered columns rows) ≡ whole
    unfolding after_steps
    after-columns = end-goes-on e (end_of o a columns) column-end Err (row-end >> pure points-are) (cornered columns rows) v h

    pub rows-stop : (x : Refusal) → Ends v.entry (end_of o b rows) row-end (Err x) → Err x ≡ whole
    rows-stop x i = end_refused v.entry (end_of o b rows) row-end Err (pure points-are) (cornered columns rows) x i ∙ after-columns

    pub corners-made : (w : Pointed) → Ends v.entry (end_of o b rows) row-end (Ok w)
        → Ok (record {
          corners = record { origin = at_point o; column_step = at_point a; row_step = at_point b; column_end = v.point; row_end = w.point };
          entry = w.entry;
        }) ≡ whole
    corners-made w i =
        ap₂ (λ (p q : DatabasePoint). Ok (record {
          corners = record { origin = at_point o; column_step = at_point a; row_step = at_point b; column_end = p; row_end = q };
          entry = w.entry;
        }))
        (end_is e (end_of o a columns) column-end v h)
        (end_is v.entry (end_of o b rows) row-end w i)
        ∙ sym (run-pure Err w.entry points-are (cornered columns rows))
        ∙ end-goes-on v.entry (end_of o b rows) row-end Err (pure points-are) (cornered columns rows) w i
        ∙ after-columns

-- ---- the steps

module _ (policy : GdsRoundingPolicy) (d : Float) (columns rows : ℕ) (po : Point Float) (o : Point ℤ) (pa pb : Point Float) (e : Entry) where
  abbrev column-step : Made (Point ℤ)
  column-step = write_physical policy d column_spacing_field pa

  abbrev row_step : Made (Point ℤ)
  row_step = write_physical policy d row_spacing_field pb

  abbrev with-column : Point Float → Point ℤ → Made ArrayPoints
  with-column pa a = row_step >>= λ b. after_steps policy d columns rows po o pa pb a b

  abbrev all-steps : Result Array Refusal
  all-steps = run Err e (after_spacings policy d columns rows po o pa pb) (cornered columns rows)

  pub column-stops : (x : Refusal) → GivesArrayPoint e pa column-step (Err x) → Err x ≡ all-steps
  unfolding after_spacings
  column-stops x h = converted-stops Err e pa column-step with-column (cornered columns rows) x h

  module _ (v : Converted) (h : GivesArrayPoint e pa column-step (Ok v)) where
    after-column : run Err v.entry (with-column (physical_part v.point) (database_part v.point)) (cornered columns rows) ≡ all-steps
    unfolding after_spacings
    after-column = converted-goes-on Err e pa column-step with-column (cornered columns rows) v h

    abbrev with_row : Point Float → Point ℤ → Made ArrayPoints
    with_row pb b = after_steps policy d columns rows po o (physical_part v.point) pb (database_part v.point) b

    pub row-stops : (x : Refusal) → GivesArrayPoint v.entry pb row_step (Err x) → Err x ≡ all-steps
    row-stops x i = converted-stops Err v.entry pb row_step with_row (cornered columns rows) x i ∙ after-column

    pub steps-made : (w : Converted) → GivesArrayPoint v.entry pb row_step (Ok w)
        → run Err w.entry (after_steps policy d columns rows po o (physical_part v.point) (physical_part w.point) (database_part v.point) (database_part w.point)) (cornered columns rows) ≡ all-steps
    steps-made w i = converted-goes-on Err v.entry pb row_step with_row (cornered columns rows) w i ∙ after-column

-- ---- the spacings

module _ (policy : GdsRoundingPolicy) (d : Float) (columns rows : ℕ) (sine cosine : Float) (cs rs : Option (Point U.Unit)) (po : Point Float) (o : Point ℤ) (e : Entry) where
  abbrev with-spacing : Point Float → Made ArrayPoints
  with-spacing pc = physical_spacing rs >>= λ pr. after_spacings policy d columns rows po o (turned sine cosine pc) (turned sine cosine pr)

  abbrev all-spacings : Result Array Refusal
  all-spacings = run Err e (after_origin policy d columns rows sine cosine cs rs po o) (cornered columns rows)

  pub column-spacing-stops : (x : Refusal) → refused x ≡ physical_spacing cs → Err x ≡ all-spacings
  unfolding after_origin
  column-spacing-stops x h = physicals-stop Err e (physical_spacing cs) with-spacing (cornered columns rows) x h

  module _ (pc : PhysicalPoint) (h : pure (point_of pc) ≡ physical_spacing cs) where
    after-spacing : run Err e (with-spacing (point_of pc)) (cornered columns rows) ≡ all-spacings
    unfolding after_origin
    after-spacing = physicals-go-on Err e (physical_spacing cs) with-spacing (cornered columns rows) pc h

    abbrev with-both : Point Float → Made ArrayPoints
    with-both pr = after_spacings policy d columns rows po o (turned sine cosine (point_of pc)) (turned sine cosine pr)

    pub row-spacing-stops : (x : Refusal) → refused x ≡ physical_spacing rs → Err x ≡ all-spacings
    row-spacing-stops x i = physicals-stop Err e (physical_spacing rs) with-both (cornered columns rows) x i ∙ after-spacing

    -- pa and pb are the turned spacings
    pub spacings-made : (pr : PhysicalPoint) → pure (point_of pr) ≡ physical_spacing rs → (pa pb : Point Float) → pa ≡ turned sine cosine (point_of pc) → pb ≡ turned sine cosine (point_of pr)
        → run Err e (after_spacings policy d columns rows po o pa pb) (cornered columns rows) ≡ all-spacings
    spacings-made pr i pa pb ea eb =
        ap₂ (λ (p q : Point Float). run Err e (after_spacings policy d columns rows po o p q) (cornered columns rows)) ea eb
        ∙ physicals-go-on Err e (physical_spacing rs) with-both (cornered columns rows) pr i
        ∙ after-spacing

-- ---- the origin

module _ (policy : GdsRoundingPolicy) (d : Float) (sine cosine : Float) (columns rows : ℕ) (origin : Point U.Unit) (cs rs : Option (Point U.Unit)) (e : Entry) where
  abbrev with-origin : Point Float → Point ℤ → Made ArrayPoints
  with-origin po o = after_origin policy d columns rows sine cosine cs rs po o

  abbrev with-physical : Point Float → Made ArrayPoints
  with-physical po = write_physical policy d origin_field po >>= with-origin po

  abbrev array : Result Array Refusal
  array = run Err e (convert_array policy d sine cosine columns rows origin cs rs) (cornered columns rows)

  parts : (physical_point origin >>= with-physical) ≡ convert_array policy d sine cosine columns rows origin cs rs
  unfolding convert_array after_origin after_spacings after_steps
  parts = refl

  in_parts : run Err e (physical_point origin >>= with-physical) (cornered columns rows) ≡ array
  in_parts = ap (λ (m : Made ArrayPoints). run Err e m (cornered columns rows)) parts

  pub origin-stops : (x : Refusal) → refused x ≡ physical_point origin → Err x ≡ array
  origin-stops x h = physicals-stop Err e (physical_point origin) with-physical (cornered columns rows) x h ∙ in_parts

  module _ (p : PhysicalPoint) (h : pure (point_of p) ≡ physical_point origin) where
    abbrev origin-step : Made (Point ℤ)
    origin-step = write_physical policy d origin_field (point_of p)

    after-physical : run Err e (with-physical (point_of p)) (cornered columns rows) ≡ array
    after-physical = physicals-go-on Err e (physical_point origin) with-physical (cornered columns rows) p h ∙ in_parts

    pub origin-refused : (x : Refusal) → GivesArrayPoint e (point_of p) origin-step (Err x) → Err x ≡ array
    origin-refused x i = converted-stops Err e (point_of p) origin-step with-origin (cornered columns rows) x i ∙ after-physical

    pub array_made : (v : Converted) → GivesArrayPoint e (point_of p) origin-step (Ok v)
        → run Err v.entry (after_origin policy d columns rows sine cosine cs rs (physical_part v.point) (database_part v.point)) (cornered columns rows) ≡ array
    array_made v i = converted-goes-on Err e (point_of p) origin-step with-origin (cornered columns rows) v i ∙ after-physical

-- ---- what an answer says of the endpoints

abbrev corners-of : Corners → Result Array Refusal → Corners
corners-of c (Err x) = c
corners-of c (Ok v) = v.corners

pub corners-are : (columns rows : ℕ) (e : Entry) (m : Made ArrayPoints) (v : Array) → Ok v ≡ run Err e m (cornered columns rows) → v.corners ≡ corners_for columns rows (steps_of v.corners)
unfolding run
corners-are columns rows e (refused x) v h = cc
corners-are columns rows e (made ps vs) v h =
    let i : v.corners ≡ corners_for columns rows ps = ap (corners-of v.corners) h in
    i ∙ ap (λ (c : Corners). corners_for columns rows (steps_of c)) (sym i)
