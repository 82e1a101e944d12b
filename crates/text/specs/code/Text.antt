-- What the code of a text answers, and the bytes of its records with their length by the sheet alone (document 01, "TEXT: LAYER, TEXTTYPE, PRESENTATION .., transform, XY, STRING"). Assumes nothing.
use Rattle.std.proofs.Math.Option.{Option, some}
use Rattle.std.specs.Prelude.{List, [], ℕ, ◌+◌, ◌*◌, ◌%◌, leb, Float, Result}
use Rattle.refusal.specs.declared.Refusal.{Refusal}
use Rattle.refusal.specs.declared.Refusal.TheVariants as R
use Rattle.big_endian.specs.Big.{number_at}
use Rattle.conversion.specs.declared.DatabasePoint.{DatabasePoint}
use Rattle.conversion.specs.declared.GdsRoundingPolicy.{GdsRoundingPolicy}
use Rattle.conversion.specs.code.Answer.{grid_point_of}
use Rattle.conversion.specs.Made.{Made, Done, pure, need, ◌>>=◌}
use Rattle.conversion.specs.Points.{write_point}
use Rattle.conversion.specs.Field.{origin_field}
use Rattle.sheet.specs.Element as S
use Rattle.stream.specs.Strings.{padded}
use Rattle.stream.specs.Structure as D
use Rattle.stream.specs.Record.{stream_bytes}
use Rattle.stream.specs.Records.{text_records}
use Rattle.cell.specs.Limits.{max_string_length}
use Rattle.cell.specs.Write.{write_transform}
use Rattle.block_places.specs.declared.TextPlaces.{TextPlaces}
use Rattle.block_places.specs.code.Place.{string_at}
use Rattle.transform.specs.declared.Strans.{Strans}
use Rattle.transform.specs.code.Strans.{said_of, transform_length}
use Rattle.steps.specs.code.Ready.{Ready, ready_by}
use Rattle.text.specs.declared.TextValues.{TextValues}

-- what the records of a text say
abbrev pub SaidText : Type 0
SaidText = D.Text (Option ℕ) (Option D.Strans)

unfoldable pub text_bytes : SaidText → List ℕ
text_bytes w = stream_bytes (text_records w [])

-- ---- lengths

-- TEXT of 4 bytes; LAYER, TEXTTYPE and PRESENTATION of 6 each; a transform of t; XY of 12; STRING of 4 and its n bytes, made even
abbrev pub size_of : ℕ → ℕ → ℕ
size_of t n = 4 + (6 + (6 + (6 + (t + (12 + (4 + (n + n % 2)))))))

unfoldable pub text_length : List ℕ → TextPlaces → ℕ
text_length b s = size_of (transform_length s.degrees s.magnification s.reflection) (number_at 2 b s.string)

-- ---- the checks and conversions, all before the first byte

-- the step of a string of n bytes
unfoldable pub string_check : ℕ → Made Done
string_check n = need (leb n max_string_length) R.StringLength

-- after the checks: the transform and the origin
unfoldable pub after_checks : GdsRoundingPolicy → Float → S.Text → Made SaidText
after_checks policy d e = do
  u ← write_transform e.degrees e.magnification e.reflection
  o ← write_point policy d origin_field 0 e.origin
  pure (record { layer = e.layer; texttype = e.texttype; presentation = some (4 * e.vertical + e.horizontal); transform = u; origin = o; string = padded e.string })

-- by the places, and the values that the sheet does not hold as they are
unfoldable pub text_of : List ℕ → TextPlaces → Strans → DatabasePoint → SaidText
text_of b s t p =
    record {
      layer = s.layer;
      texttype = s.texttype;
      presentation = some (4 * s.vertical + s.horizontal);
      transform = said_of t;
      origin = grid_point_of p;
      string = padded (string_at b s.string);
    }

abbrev pub ready_of : List ℕ → TextPlaces → Result TextValues Refusal → Ready SaidText
ready_of b s = ready_by (λ (v : TextValues). text_of b s v.strans v.point) (λ (v : TextValues). v.entry)
