-- What the code of a transform answers, and the bytes of its records with their length (document 01, "Transform"). Assumes nothing.
use Rattle.std.specs.Prelude.{Bool, not, ◌||◌, cond, List, [], ℕ, ◌+◌, Float, Result, Ok, Err, is_some}
use Rattle.std.specs.Option.{option_map}
use Rattle.std.specs.declared.option.Option as CodeOption
use Rattle.std.proofs.Math.Option.{Option, some}
use Rattle.std.specs.Float.Ieee.{eq}
use Rattle.refusal.specs.declared.Refusal.{Refusal}
use Rattle.big_endian.specs.Big.{bytes_of}
use Rattle.binary64.specs.Value.{zero64, one64}
use Rattle.conversion.specs.Made.{Made, refused, pure}
use Rattle.stream.specs.Structure as D
use Rattle.stream.specs.Record.{stream_bytes}
use Rattle.stream.specs.Records.{strans_records}
use Rattle.cell.specs.Write.{strans_of}
use Rattle.records.specs.code.Bytes.{option_of}
use Rattle.transform.specs.declared.Strans.{Strans}

-- ---- the step that each answer stands for

-- the bytes of a real that may be missing
abbrev pub eight_of : CodeOption.Option ℕ → Option (List ℕ)
eight_of p = option_of (option_map (bytes_of 8) p)

-- a real that is written
abbrev pub pattern_of : Result ℕ Refusal → Made (Option (List ℕ))
pattern_of (Err r) = refused r
pattern_of (Ok p) = pure (some (bytes_of 8 p))

-- a real that may be missing
abbrev pub real_of : Result (CodeOption.Option ℕ) Refusal → Made (Option (List ℕ))
real_of (Err r) = refused r
real_of (Ok p) = pure (eight_of p)

-- what the records say
abbrev pub said_of : Strans → Option D.Strans
said_of s = strans_of s.reflection (eight_of s.magnification) (eight_of s.angle)

abbrev pub transform_of : Result Strans Refusal → Made (Option D.Strans)
transform_of (Err r) = refused r
transform_of (Ok s) = pure (said_of s)

-- ---- bytes

unfoldable pub strans_bytes : Option D.Strans → List ℕ
strans_bytes t = stream_bytes (strans_records t [])

-- MAG or ANGLE: a head of 4 bytes and a real of 8
abbrev pub real_length : Bool → ℕ
real_length there = cond there 12 0

-- "nothing if magnification equals 1, degrees equal 0 .. and no reflection; else STRANS .., MAG if not 1, ANGLE if not 0", a STRANS of 6 bytes
unfoldable pub length_of : Bool → Bool → Bool → ℕ
length_of reflection scaled turned = cond (reflection || scaled || turned) (6 + (real_length scaled + real_length turned)) 0

abbrev pub strans_length : Strans → ℕ
strans_length s = length_of s.reflection (is_some s.magnification) (is_some s.angle)

-- STRANS, MAG and ANGLE
abbrev pub max_strans_length : ℕ
max_strans_length = 30

-- the same by the sheet alone
abbrev pub transform_length : Float → Float → Bool → ℕ
transform_length degrees magnification reflection = length_of reflection (not (eq magnification one64)) (not (eq degrees zero64))
