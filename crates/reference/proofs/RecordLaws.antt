-- The records of a reference: their bytes in a row, and their length by the sheet alone. Assumes nothing.
use mathlib.Core.Path.{◌≡◌, refl, sym, ap, ◌∙◌, subst}
use mathlib.Core.Bool.{Bool, true, false, cond}
use mathlib.Core.List.{List, [], ◌∷◌, append-nil}
use mathlib.Core.Option.{Option}
use Prim.Native.Nat.{ℕ, ◌+◌, ◌%◌, ◌≤◌}
use native.Mathlib.Omega.{arith}
use lib.ListN.{length}
use lib.IntN.{ℤ}
use lib.Ieee.{Float}
use Rattle.big_endian.specs.Big.{number_at}
use Rattle.big_endian.specs.Buffer.{WroteAt}
use Rattle.big_endian.proofs.BufferLaws.{then_at, same_bytes}
use Rattle.units.specs.Point.{Point}
use Rattle.refusal.specs.declared.Refusal.TheVariants as R
use Rattle.conversion.specs.declared.DatabasePoint.{DatabasePoint}
use Rattle.conversion.specs.declared.GdsRoundingPolicy.{GdsRoundingPolicy}
use Rattle.conversion.specs.code.Answer.{grid_point_of}
use Rattle.conversion.specs.Made.{pure, ◌>>=◌}
use Rattle.conversion.proofs.MadeLaws.{Yields, made_yields, steps, checked}
use Rattle.cell.specs.Write.{write_sref, write_aref, write_reference}
use Rattle.block_places.specs.code.Places.{reference_at}
use Rattle.stream.specs.Strings.{padded}
use Rattle.stream.specs.Structure as D
use Rattle.stream.specs.Record.{Rec, SREF, AREF, SNAME, XY, four_byte, stream_bytes}
use Rattle.stream.specs.Records.{empty_record, string_record, colrow_record, point_bytes, xy_record, endpoint_of, strans_records, sref_records, aref_records}
use Rattle.block_places.specs.declared.ReferencePlaces.{ReferencePlaces}
use Rattle.block_places.specs.code.Place.{string_at, string_end}
use Rattle.block_places.proofs.StringLaws.{length-string}
use Rattle.records.specs.code.Bytes.{head_bytes, Placed, Recorded}
use Rattle.records.proofs.RecordLaws.{length-padded, length-first, record-at, then-rest, alone}
use Rattle.transform.specs.declared.Strans.{Strans}
use Rattle.transform.specs.code.Strans.{said_of, strans_bytes, strans_length}
use Rattle.transform.proofs.StransLaws.{then-strans, length-strans, transform-length}
use Rattle.array.specs.declared.Corners.{Corners}
use Rattle.array.specs.code.Corners.{corners_for, steps_of}
use Rattle.reference.specs.code.Reference.{reference_bytes, size_of, single_rest, corners_length, array_rest, is_single, reference_length, sref_of, aref_of}

-- ---- three points

abbrev pub three_points : Corners → List (Point ℤ)
three_points c = grid_point_of c.origin ∷ grid_point_of c.column_end ∷ grid_point_of c.row_end ∷ []

pub corners-placed : (c : Corners) {d d1 d2 d3 d4 : List ℕ} {at a a0 a1 to : ℕ}
    → WroteAt (head_bytes corners_length XY four_byte) d d1 at a → WroteAt (point_bytes (grid_point_of c.origin)) d1 d2 a a0 → WroteAt (point_bytes (grid_point_of c.column_end)) d2 d3 a0 a1
    → WroteAt (point_bytes (grid_point_of c.row_end)) d3 d4 a1 to → Recorded (xy_record (three_points c)) corners_length d d4 at to
corners-placed c h p q r =
    record-at (xy_record (three_points c)) corners_length refl h (then_at p (then_at q (same_bytes (sym (append-nil (point_bytes (grid_point_of c.row_end)))) r)))

-- ---- all records. n is the name, as it was read.

module _ (b : List ℕ) (s : ReferencePlaces) (t : Strans) (inside : string_end b s.name ≤ length b) (name : List ℕ) (h : name ≡ string_at b s.name) where
  pub name-long : length name ≡ number_at 2 b s.name
  name-long = ap length h ∙ length-string b s.name inside

  -- where there is room for all, there is for the name, for the transform and for what comes after it
  module _ (rest : ℕ) {first d d1 : List ℕ} {a1 : ℕ} (room : size_of (strans_length t) (number_at 2 b s.name) rest ≤ length d) (w : Placed first 4 d d1 0 a1) where
    pub name-room : a1 + (4 + (length name + length name % 2)) ≤ length d1
    name-room =
        let l = name-long in
        let e = w.end in
        let k = w.long in
        omega arith

    module _ {d2 : List ℕ} {a2 : ℕ} (n : Recorded (string_record SNAME (padded name)) (4 + (length name + length name % 2)) d1 d2 a1 a2) where
      after-name : a2 + (strans_length t + rest) ≤ length d2
      after-name =
          let l = name-long in
          let e = w.end in
          let k = w.long in
          let f = n.end in
          let g = n.long in
          omega arith

      pub strans-room : a2 + strans_length t ≤ length d2
      strans-room = let r = after-name in omega arith

      pub rest-room : {d3 : List ℕ} {a3 : ℕ} → Placed (strans_bytes (said_of t)) (strans_length t) d2 d3 a2 a3 → a3 + rest ≤ length d3
      rest-room u =
          let r = after-name in
          let e = u.end in
          let k = u.long in
          omega arith

  -- of any length in front of the name's
  front : (code : ℕ) (rs : List Rec) (rest : ℕ) {d d1 d2 d3 last : List ℕ} {at a1 a2 a3 to : ℕ}
      → Recorded (empty_record code) 4 d d1 at a1 → Recorded (string_record SNAME (padded name)) (4 + (length name + length name % 2)) d1 d2 a1 a2
      → Placed (strans_bytes (said_of t)) (strans_length t) d2 d3 a2 a3 → Placed (stream_bytes rs) rest d3 last a3 to
      → Placed (stream_bytes (empty_record code ∷ string_record SNAME (padded (string_at b s.name)) ∷ strans_records (said_of t) rs)) (size_of (strans_length t) (number_at 2 b s.name) rest) d last at to
  front code rs rest {d} {d1} {d2} {d3} {last} {at} {a1} {a2} {a3} {to} w n u v =
      subst (λ (k : ℕ). Placed (stream_bytes (empty_record code ∷ string_record SNAME (padded (string_at b s.name)) ∷ strans_records (said_of t) rs)) (size_of (strans_length t) k rest) d last at to) name-long
      (subst (λ (l : List ℕ). Placed (stream_bytes (empty_record code ∷ string_record SNAME (padded l) ∷ strans_records (said_of t) rs)) (size_of (strans_length t) (length name) rest) d last at to) h
      (then-rest (empty_record code) _ w (then-rest (string_record SNAME (padded name)) _ n (then-strans (said_of t) rs u v))))

  pub sref-placed : (p : DatabasePoint) {d d1 d2 d3 last : List ℕ} {at a1 a2 a3 to : ℕ}
      → Recorded (empty_record SREF) 4 d d1 at a1 → Recorded (string_record SNAME (padded name)) (4 + (length name + length name % 2)) d1 d2 a1 a2
      → Placed (strans_bytes (said_of t)) (strans_length t) d2 d3 a2 a3 → Recorded (xy_record (grid_point_of p ∷ [])) single_rest d3 last a3 to
      → Placed (reference_bytes (sref_of b s t p)) (size_of (strans_length t) (number_at 2 b s.name) single_rest) d last at to
  unfolding reference_bytes sref_records sref_of
  sref-placed p e n u v = front SREF (xy_record (grid_point_of p ∷ []) ∷ []) single_rest e n u (alone (xy_record (grid_point_of p ∷ [])) v)

  pub aref-placed : (c : Corners) → c ≡ corners_for s.columns s.rows (steps_of c) → {d d1 d2 d3 d4 last : List ℕ} {at a1 a2 a3 a4 to : ℕ}
      → Recorded (empty_record AREF) 4 d d1 at a1 → Recorded (string_record SNAME (padded name)) (4 + (length name + length name % 2)) d1 d2 a1 a2
      → Placed (strans_bytes (said_of t)) (strans_length t) d2 d3 a2 a3 → Recorded (colrow_record s.columns s.rows) 8 d3 d4 a3 a4 → Recorded (xy_record (three_points c)) corners_length d4 last a4 to
      → Placed (reference_bytes (aref_of b s t c)) (size_of (strans_length t) (number_at 2 b s.name) array_rest) d last at to
  unfolding reference_bytes aref_records aref_of
  aref-placed c g {d} {d1} {d2} {d3} {d4} {last} {at} {a1} {a2} {a3} {a4} {to} e n u k v =
      let c' = corners_for s.columns s.rows (steps_of c) in
      front AREF (colrow_record s.columns s.rows ∷ xy_record (three_points c') ∷ []) array_rest e n u
      (then-rest (colrow_record s.columns s.rows) _ k
      (alone (xy_record (three_points c')) (subst (λ (z : Corners). Recorded (xy_record (three_points z)) corners_length d4 last a4 to) g v)))

-- ---- lengths

pub length-sum : (f t n rest : ℕ) → f ≡ size_of t n 0 → f + rest ≡ size_of t n rest
length-sum f t n rest h = omega arith

-- u is what the transform's records say, of m bytes
module _ (b : List ℕ) (s : ReferencePlaces) (u : Option D.Strans) (m : ℕ) (inside : string_end b s.name ≤ length b) (bytes : length (strans_bytes u) ≡ m) where
  length_front : (code : ℕ) (rs : List Rec) (rest : ℕ) → length (stream_bytes rs) ≡ rest
      → length (stream_bytes (empty_record code ∷ string_record SNAME (padded (string_at b s.name)) ∷ strans_records u rs)) ≡ size_of m (number_at 2 b s.name) rest
  length_front code rs rest h =
      go _ _ _ _ _ _ _ (length-first (empty_record code) _) (length-first (string_record SNAME (padded (string_at b s.name))) (strans_records u rs))
      (length-padded (string_at b s.name)) (length-string b s.name inside) (length-strans u rs) bytes h
    where
      go : (a p n k q u v : ℕ) {x m w : ℕ} → x ≡ 4 + 0 + a → a ≡ 4 + p + q → p ≡ n + n % 2 → n ≡ k → q ≡ u + v → u ≡ m → v ≡ w → x ≡ 4 + ((4 + (k + k % 2)) + (m + w))
      go a p n k q u v e1 e2 e3 e4 e5 e6 e7 = omega arith

  pub length-sref : (o : Point ℤ) → length (reference_bytes (D.sref (record { name = padded (string_at b s.name); transform = u; origin = o }))) ≡ size_of m (number_at 2 b s.name) single_rest
  unfolding reference_bytes sref_records stream_bytes
  length-sref o = length_front SREF (xy_record (o ∷ []) ∷ []) single_rest (length-first (xy_record (o ∷ [])) [])

  pub length-aref : (c r : ℕ) (o k l : Point ℤ)
      → length (reference_bytes (D.aref (record { name = padded (string_at b s.name); transform = u; columns = c; rows = r; origin = o; column_step = k; row_step = l }))) ≡ size_of m (number_at 2 b s.name) array_rest
  unfolding reference_bytes aref_records stream_bytes
  length-aref c r o k l =
      let xy = xy_record (o ∷ endpoint_of o k c ∷ endpoint_of o l r ∷ []) in
      length_front AREF (colrow_record c r ∷ xy ∷ []) array_rest (length-first (colrow_record c r) (xy ∷ []) ∙ ap (λ (n : ℕ). 8 + n) (length-first xy []))

-- What the definition gives has the length that the sheet tells.
module _ (policy : GdsRoundingPolicy) (d : Float) (b : List ℕ) (s : ReferencePlaces) (inside : string_end b s.name ≤ length b) where
  placed-length : (v : Bool) (u : Option D.Strans) (m : ℕ) (w : D.SaidBody) → length (strans_bytes u) ≡ m
      → Yields (cond v (write_sref policy d (reference_at b s) u >>= λ r. pure (D.sref r)) (write_aref policy d (reference_at b s) u >>= λ r. pure (D.aref r))) w
      → length (reference_bytes w) ≡ size_of m (number_at 2 b s.name) (cond v single_rest array_rest)
  unfolding write_sref write_aref reference_at
  placed-length true u m w h y =
      let k1 = steps y in
      let k2 = steps k1.first in
      sym (ap (λ (r : _). length (reference_bytes r)) (ap D.sref (made_yields k2.then) ∙ made_yields k1.then)) ∙ length-sref b s u m inside h k2.value
  placed-length false u m w h y =
      let k1 = steps y in
      let k2 = steps (checked R.SineOrCosine k1.first).then in
      sym (ap (λ (r : _). length (reference_bytes r)) (ap D.aref (made_yields k2.then) ∙ made_yields k1.then))
      ∙ length-aref b s u m inside h s.columns s.rows k2.value.origin k2.value.column_step k2.value.row_step

  pub reference-length : (w : D.SaidBody) → Yields (write_reference policy d (reference_at b s)) w → length (reference_bytes w) ≡ reference_length b s
  unfolding write_reference reference_at reference_length
  reference-length w y =
      let k1 = checked R.Name y in
      let k2 = checked R.ColumnsOrRows k1.then in
      let k3 = checked R.Spacing k2.then in
      let k4 = checked R.Spacing k3.then in
      let k5 = steps k4.then in
      placed-length (is_single s) k5.value _ w (transform-length s.degrees s.magnification s.reflection k5.value k5.first) k5.then
