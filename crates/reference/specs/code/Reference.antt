-- What the code of a reference answers, and the bytes of its records with their length by the sheet alone (document 01, "1 × 1 reference: SREF, SNAME, transform, XY.
-- Else AREF, SNAME, transform, COLROW, XY of three points."). Assumes nothing.
use Rattle.std.specs.Prelude.{◌≡◌, Bool, true, not, ◌&&◌, ◌||◌, cond, List, [], ℕ, ◌+◌, ◌%◌, ◌≤◌, T, leb, eqb, length, Float, Result, Ok, Err}
use Rattle.std.proofs.Math.Option.{Option}
use Rattle.refusal.specs.declared.Refusal.{Refusal}
use Rattle.refusal.specs.declared.Refusal.TheVariants as R
use Rattle.big_endian.specs.Big.{number_at}
use Rattle.conversion.specs.declared.DatabasePoint.{DatabasePoint}
use Rattle.conversion.specs.declared.Entry.{Entry}
use Rattle.conversion.specs.declared.GdsRoundingPolicy.{GdsRoundingPolicy}
use Rattle.conversion.specs.Array.{ArrayPoints, convert_array}
use Rattle.conversion.specs.code.Answer.{grid_point_of}
use Rattle.conversion.specs.code.Fold.{run}
use Rattle.conversion.specs.Made.{Made, Done, refused, pure, need, ◌>>=◌, ◌>>◌}
use Rattle.sheet.specs.Element as S
use Rattle.stream.specs.Strings.{padded}
use Rattle.stream.specs.Structure as D
use Rattle.stream.specs.Record.{stream_bytes}
use Rattle.stream.specs.Records.{body_records}
use Rattle.cell.specs.Limits.{within, max_name_length, max_col_row}
use Rattle.cell.specs.Names.{is_name}
use Rattle.cell.specs.Write.{is_some, single, in_unit, write_transform, write_sref, write_aref}
use Rattle.block_places.specs.declared.ReferencePlaces.{ReferencePlaces}
use Rattle.block_places.specs.code.Place.{spacing_at, string_at}
use Rattle.transform.specs.declared.Strans.{Strans}
use Rattle.transform.specs.code.Strans.{said_of, strans_bytes, strans_length, transform_length}
use Rattle.steps.specs.code.Ready.{Ready, stopped, ready}
use Rattle.array.specs.declared.Corners.{Corners}
use Rattle.array.specs.code.Corners.{corners_for, steps_of}
use Rattle.reference.specs.declared.ReferenceValues.{ReferenceValues}
use Rattle.reference.specs.declared.ReferenceValues.TheVariants as N

unfoldable pub reference_bytes : D.SaidBody → List ℕ
reference_bytes w = stream_bytes (body_records w [])

-- ---- lengths

-- SREF or AREF of 4 bytes; SNAME of 4 and its n bytes, made even; a transform of t; and what comes after it
abbrev pub size_of : ℕ → ℕ → ℕ → ℕ
size_of t n rest = 4 + ((4 + (n + n % 2)) + (t + rest))

-- an SREF's XY, of one point
abbrev pub single_rest : ℕ
single_rest = 12

-- an XY of three points
abbrev pub corners_length : ℕ
corners_length = 28

-- an AREF's COLROW, and its XY
abbrev pub array_rest : ℕ
array_rest = 8 + corners_length

-- the most in front of it: 8 bytes with SNAME's head, a name whose length stands in two bytes, and a transform with all its records
abbrev pub max_front_length : ℕ
max_front_length = 8 + 65536 + 30

-- 1 × 1
abbrev pub is_single : ReferencePlaces → Bool
is_single s = eqb s.columns 1 && eqb s.rows 1

unfoldable pub reference_length : List ℕ → ReferencePlaces → ℕ
reference_length b s = size_of (transform_length s.degrees s.magnification s.reflection) (number_at 2 b s.name) (cond (is_single s) single_rest array_rest)

-- ---- the checks before the transform: 7, 11 and 12

unfoldable pub guarded : {A : Type 0} → S.Reference → Made A → Made A
guarded e m = do
  need (is_name e.name) R.Name
  need (within 1 e.columns max_col_row && within 1 e.rows max_col_row) R.ColumnsOrRows
  need (leb e.columns 1 || is_some e.column_spacing) R.Spacing
  need (leb e.rows 1 || is_some e.row_spacing) R.Spacing
  m

-- more than one column or row, n of them, without the spacing at a place
abbrev pub lacking : List ℕ → ℕ → ℕ → Bool
lacking b n at = not (leb n 1 || is_some (spacing_at b at))

-- what comes after checks that answer r
abbrev pub guarded_by : {A : Type 0} → Result Done Refusal → Made A → Made A
guarded_by (Err x) m = refused x
guarded_by (Ok t) m = m

-- what is within its limits
pub record Bounded (b : List ℕ) (s : ReferencePlaces) : Type 0 where
  pub name : number_at 2 b s.name ≤ max_name_length
  pub columns : s.columns ≤ max_col_row
  pub rows : s.rows ≤ max_col_row

abbrev pub BoundedBy : List ℕ → ReferencePlaces → Result Done Refusal → Type 0
BoundedBy b s (Err x) = T true
BoundedBy b s (Ok t) = Bounded b s

-- the answer is the checks'
pub record Checks (b : List ℕ) (s : ReferencePlaces) (e : S.Reference) (r : Result Done Refusal) : Type 0 where
  pub is : (m : Made D.SaidBody) → guarded_by r m ≡ guarded e m
  pub bounds : BoundedBy b s r

-- ---- all checks and conversions, before the first byte

-- the transform that the sheet tells
abbrev pub Encodes : ReferencePlaces → Strans → Type 0
Encodes s t = pure (said_of t) ≡ write_transform s.degrees s.magnification s.reflection

-- after the transform u
unfoldable pub after_transform : GdsRoundingPolicy → Float → S.Reference → Option D.Strans → Made D.SaidBody
after_transform policy d e u = cond (single e) (write_sref policy d e u >>= λ w. pure (D.sref w)) (write_aref policy d e u >>= λ w. pure (D.aref w))

-- after the checks
unfoldable pub after_checks : GdsRoundingPolicy → Float → S.Reference → Made D.SaidBody
after_checks policy d e = do
  u ← write_transform e.degrees e.magnification e.reflection
  after_transform policy d e u

-- an array's 15 and its conversions
abbrev pub turned_array : GdsRoundingPolicy → Float → S.Reference → Made ArrayPoints
turned_array policy d e = do
  need (in_unit e.sine && in_unit e.cosine) R.SineOrCosine
  convert_array policy d e.sine e.cosine e.columns e.rows e.origin e.column_spacing e.row_spacing

-- by the places, and the values that the sheet does not hold as they are
unfoldable pub sref_of : List ℕ → ReferencePlaces → Strans → DatabasePoint → D.SaidBody
sref_of b s t p = D.sref (record { name = padded (string_at b s.name); transform = said_of t; origin = grid_point_of p })

unfoldable pub aref_of : List ℕ → ReferencePlaces → Strans → Corners → D.SaidBody
aref_of b s t c =
    D.aref
    (record {
      name = padded (string_at b s.name);
      transform = said_of t;
      columns = s.columns;
      rows = s.rows;
      origin = (steps_of c).origin;
      column_step = (steps_of c).column_step;
      row_step = (steps_of c).row_step;
    })

abbrev pub ready_of : List ℕ → ReferencePlaces → Result ReferenceValues Refusal → Ready D.SaidBody
ready_of b s (Err x) = stopped x
ready_of b s (Ok (N.Single t p e)) = ready (sref_of b s t p) e
ready_of b s (Ok (N.Array t c e)) = ready (aref_of b s t c) e

-- what is written has the length that the sheet tells, `rest` after the transform
pub record Fits (b : List ℕ) (s : ReferencePlaces) (t : Strans) (rest : ℕ) : Type 0 where
  pub bounds : Bounded b s
  pub bytes : length (strans_bytes (said_of t)) ≡ strans_length t
  pub size : size_of (strans_length t) (number_at 2 b s.name) rest ≡ reference_length b s

-- and an array's endpoints are those of its steps
abbrev pub Fine : List ℕ → ReferencePlaces → Result ReferenceValues Refusal → Type 0
Fine b s (Err x) = T true
Fine b s (Ok (N.Single t p e)) = Fits b s t single_rest
Fine b s (Ok (N.Array t c e)) = Fits b s t array_rest × (c ≡ corners_for s.columns s.rows (steps_of c))

-- the answer is the step's
pub record GivesReference (b : List ℕ) (s : ReferencePlaces) (e : Entry) (m : Made D.SaidBody) (r : Result ReferenceValues Refusal) : Type 0 where
  pub is : ready_of b s r ≡ run stopped e m ready
  pub fine : Fine b s r
