-- A box is its checks, then its points, whose ends meet; and its records in the output. Assumes nothing.
use mathlib.Core.Path.{◌≡◌, refl, sym, ap, ◌∙◌}
use mathlib.Core.List.{List, append-nil}
use Prim.Native.Nat.{ℕ}
use lib.Dec.{T}
use lib.ListN.{length}
use lib.IntN.{ℤ}
use lib.Ieee.{Float}
use lib.Ieee.Bits.{is_true}
use Rattle.std.specs.Prelude.{Result, Ok, Err, IsOk}
use Rattle.refusal.specs.declared.Refusal.{Refusal}
use Rattle.refusal.specs.declared.Refusal.TheVariants as R
use Rattle.big_endian.specs.Buffer.{WroteAt}
use Rattle.big_endian.proofs.BufferLaws.{then_at, same_bytes}
use Rattle.units.specs.Point.{Point}
use Rattle.conversion.specs.declared.DatabasePoint.{DatabasePoint}
use Rattle.conversion.specs.declared.Deviation.{Deviation}
use Rattle.conversion.specs.declared.Entry.{Entry}
use Rattle.conversion.specs.declared.GdsRoundingPolicy.{GdsRoundingPolicy}
use Rattle.conversion.specs.Made.{Made, Done, refused, made, pure, after, need, ◌>>=◌, ◌>>◌}
use Rattle.conversion.specs.Points.{write_points}
use Rattle.conversion.specs.code.Fold.{run}
use Rattle.conversion.proofs.FoldLaws.{run-map}
use Rattle.conversion.proofs.MadeLaws.{Yields, made_yields, steps, checked, then-steps, need-on, refused-on, pure-on}
use Rattle.sheet.specs.Element as S
use Rattle.stream.specs.Structure as D
use Rattle.stream.specs.Record.{LAYER, BOX, BOXTYPE, record_bytes, stream_bytes}
use Rattle.stream.specs.Records.{point_bytes, points_bytes, empty_record, word_record, xy_record, shape_records}
use Rattle.cell.specs.Write.{layer_and_type, closed, box_points, write_box}
use Rattle.cell.proofs.BoxLaws.{box-cornered, box_closes}
use Rattle.records.specs.code.Bytes.{record_head, word_record_length, Placed, Recorded}
use Rattle.records.proofs.RecordLaws.{then-rest, alone}
use Rattle.validation.proofs.CheckLaws.{both-yield}
use Rattle.block_places.specs.declared.BoxPlaces.{BoxPlaces}
use Rattle.block_places.specs.code.Place.{point_at}
use Rattle.block_places.specs.code.Places.{box_at}
use Rattle.steps.specs.code.Ready.{Ready, stopped, ready}
use Rattle.steps.specs.code.Steps.{Succeeds}
use Rattle.steps.proofs.StepLaws.{run-through, yields}
use Rattle.steps.proofs.ReadyLaws.{never-stopped}
use Rattle.boxes.specs.declared.BoxValues.{BoxValues}
use Rattle.boxes.specs.code.Box.{box_xy_length, box_length, box_bytes, corners_of, points_of, box_of, ready_of}

-- ---- a box is its checks, then its points

module _ (policy : GdsRoundingPolicy) (d : Float) (b : List ℕ) (s : BoxPlaces) (e : Entry) where
  abbrev box : S.Box
  box = box_at b s

  abbrev points : Made (List (Point ℤ))
  points = write_points policy d 0 (box_points (point_at b s.first) (point_at b s.second))

  abbrev shaped : List (Point ℤ) → D.Shape
  shaped ps = record { layer = s.layer; datatype = s.boxtype; points = ps }

  abbrev checks : Made Done
  checks = layer_and_type s.layer s.boxtype

  -- the ends need no look
  unlooked : (m : Made (List (Point ℤ))) → ((ps : List (Point ℤ)) (vs : List Deviation) → m ≡ made ps vs → T (closed ps))
      → (m >>= λ ps. need (closed ps) R.NotClosed >> pure (shaped ps)) ≡ (m >>= λ ps. pure (shaped ps))
  unfolding ◌>>=◌
  unlooked (refused x) h = refl
  unlooked (made ps vs) h = ap (after vs) (need-on (closed ps) R.NotClosed (pure (shaped ps)) (is_true _ (h ps vs refl)))

  box-is : write_box policy d box ≡ (checks >> (points >>= λ ps. pure (shaped ps)))
  unfolding write_box box_at
  box-is = ap (λ (m : Made D.Shape). checks >> m) (unlooked points (λ ps vs h. box_closes policy d _ _ ps vs h))

  -- what is ready
  abbrev answer : Ready D.Shape
  answer = run stopped e (write_box policy d box) ready

  pub checks-stop : (x : Refusal) → refused x ≡ checks → stopped x ≡ answer
  unfolding run ◌>>◌
  checks-stop x h = ap (λ (m : Made D.Shape). run stopped e m ready) (refused-on checks (λ u. points >>= λ ps. pure (shaped ps)) x h ∙ sym box-is)

  -- what the points are of the whole
  abbrev whole : Ready (List (Point ℤ)) → Ready D.Shape
  whole (stopped x) = stopped x
  whole (ready ps e') = ready (shaped ps) e'

  ready-whole : (r : Result BoxValues Refusal) → ready_of s r ≡ whole (points_of r)
  ready-whole (Err x) = refl
  ready-whole (Ok v) = refl

  module _ (h : pure tt ≡ checks) (r : Result BoxValues Refusal) (g : points_of r ≡ run stopped e points ready) where
    pub checks-pass : ready_of s r ≡ answer
    unfolding ◌>>◌
    checks-pass =
        ready-whole r
        ∙ ap whole g
        ∙ run-through stopped ready whole stopped (λ ps e'. ready (shaped ps) e') (λ x. refl) (λ ps e'. refl) e points
        ∙ sym (run-map stopped e points shaped ready)
        ∙ ap (λ (m : Made D.Shape). run stopped e m ready) (pure-on checks (λ u. points >>= λ ps. pure (shaped ps)) tt h ∙ sym box-is)

  -- a box that succeeds has passed its checks
  pub passed : Succeeds (write_box policy d box) → pure tt ≡ checks
  unfolding write_box box_at
  passed w = both-yield s.layer s.boxtype (then-steps (yields w)).first

  -- so what is ready after them is its own
  pub ready-past : Succeeds (write_box policy d box) → (r : Result BoxValues Refusal) → points_of r ≡ run stopped e points ready → ready_of s r ≡ answer
  ready-past w r g = checks-pass (passed w) r g

  -- and no point of it is refused
  pub never-refused : Succeeds (write_box policy d box) → (r : Result BoxValues Refusal) → points_of r ≡ run stopped e points ready → IsOk r
  never-refused w (Err x) g = never-stopped e _ x w (ready-past w (Err x) g)
  never-refused w (Ok v) g = refl

-- ---- its records

-- of two corners of the grid
pub length-box : (l t : ℕ) (p q : Point ℤ) → length (box_bytes (record { layer = l; datatype = t; points = box_points p q })) ≡ box_length
unfolding stream_bytes record_bytes shape_records
length-box l t p q = refl

-- what the definition gives has this length
pub box-length : (policy : GdsRoundingPolicy) (d : Float) (e : S.Box) (w : D.Shape) → Yields (write_box policy d e) w → length (box_bytes w) ≡ box_length
unfolding write_box
box-length policy d e w y =
    let k = steps (then-steps y).then in
    let c = box-cornered policy d e.first e.second k.value k.first in
    ap (λ (v : D.Shape). length (box_bytes v)) (sym (made_yields (checked R.NotClosed k.then).then))
    ∙ ap (λ (ps : List (Point ℤ)). length (box_bytes (record { layer = e.layer; datatype = e.boxtype; points = ps }))) c.points
    ∙ length-box e.layer e.boxtype c.corner c.opposite

-- five points in a row are those of the box
pub five-points : (p q : Point ℤ) {d1 d2 d3 d4 d5 d6 : List ℕ} {a1 a2 a3 a4 a5 a6 : ℕ}
    → WroteAt (point_bytes p) d1 d2 a1 a2
    → WroteAt (point_bytes (record { x = q.x; y = p.y })) d2 d3 a2 a3
    → WroteAt (point_bytes q) d3 d4 a3 a4
    → WroteAt (point_bytes (record { x = p.x; y = q.y })) d4 d5 a4 a5
    → WroteAt (point_bytes p) d5 d6 a5 a6
    → WroteAt (points_bytes (box_points p q)) d1 d6 a1 a6
five-points p q w1 w2 w3 w4 w5 = then_at w1 (then_at w2 (then_at w3 (then_at w4 (same_bytes (sym (append-nil _)) w5))))

pub box-placed : (s : BoxPlaces) (p q : DatabasePoint) {d1 d2 d3 d4 d5 : List ℕ} {a1 a2 a3 a4 a5 : ℕ}
    → Recorded (empty_record BOX) record_head d1 d2 a1 a2
    → Recorded (word_record LAYER s.layer) word_record_length d2 d3 a2 a3
    → Recorded (word_record BOXTYPE s.boxtype) word_record_length d3 d4 a3 a4
    → Recorded (xy_record (corners_of p q)) box_xy_length d4 d5 a4 a5
    → Placed (box_bytes (box_of s p q)) box_length d1 d5 a1 a5
unfolding shape_records
box-placed s p q w1 w2 w3 w4 = then-rest _ _ w1 (then-rest _ _ w2 (then-rest _ _ w3 (alone _ w4)))
