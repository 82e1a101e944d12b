-- What document 01 ("Eight-byte reals") asks of the encoder of doubles, and document 02 (request 8) of the decoder, as statements about their answers. Assumes nothing.
use Rattle.std.specs.Prelude.{◌≡◌, ◌⊎◌, false, List, ℕ, ◌/◌, ◌≤◌, ◌<◌, T, pos, length, get_or, Float}
use Rattle.std.proofs.Math.Option.{Option, none, some}
use Rattle.std.specs.Float.{binary64}
use Rattle.std.specs.Float.Ieee.{fits}
use Rattle.std.specs.Float.Ieee.Scale.{finite}
use Rattle.big_endian.specs.Big.{Bytes, bytes_of}
use Rattle.binary64.specs.Value.{size_of, negative, scaled}
use Rattle.gds_format.specs.Real8.{real8_value, min_magnitude, max_magnitude, encoding, Values, values_of, real8}
use Rattle.gds_format.specs.Decode.{double_of}

-- the first of the fourteen hex digits of the fraction
abbrev pub leading_hex_digit : List ℕ → ℕ
leading_hex_digit b = get_or b 1 0 / 16

-- eight bytes with a non-zero leading hex digit
pub record Normalized (b : List ℕ) : Type 0 where
  pub bytes : Bytes b
  pub eight : length b ≡ 8
  pub leading : leading_hex_digit b ≡ 0 → ⊥

-- numerical equality: the same whole number of 2 ^ -1074
abbrev pub Equals : List ℕ → Float → Type 0
Equals b x = real8_value b ≡ scaled x

-- an encoding with a non-zero leading hex digit equals x
pub record Encodable (x : Float) : Type 0 where
  pub bytes : List ℕ
  pub normalized : Normalized bytes
  pub equal : Equals bytes x

abbrev pub Zero : Float → Type 0
Zero x = scaled x ≡ pos 0

-- "below 2^-260, or from 2^252"
abbrev pub OutOfLimits : Float → Type 0
OutOfLimits x = (size_of x < min_magnitude) ⊎ (max_magnitude ≤ size_of x)

-- What an encoder answers for the double x, eight bytes or none, is faithful to it.
pub record Faithful (x : Float) (answer : Option (List ℕ)) : Type 0 where
  -- what is accepted is finite, and the bytes equal it
  pub accepted : (b : List ℕ) → answer ≡ some b → T (finite x) × Equals b x
  -- "Both zeros give eight zero bytes."
  pub zeros : T (finite x) → Zero x → answer ≡ some (bytes_of 8 0)
  -- of any other double that is accepted the leading hex digit is not zero
  pub leading : (b : List ℕ) → answer ≡ some b → (Zero x → ⊥) → Normalized b
  -- "A finite non-zero double is refused exactly when no encoding with a non-zero leading hex digit equals it":
  -- a refused one has no such encoding, and what is not zero and has none is refused (what is not finite is never accepted)
  pub refused : T (finite x) → answer ≡ none → (Zero x → ⊥) × (Encodable x → ⊥)
  pub refuses : (Zero x → ⊥) → (Encodable x → ⊥) → answer ≡ none
  -- "below 2^-260, or from 2^252": these are the ones that are refused
  pub outside : T (finite x) → answer ≡ none → OutOfLimits x
  pub limits : (Zero x → ⊥) → OutOfLimits x → answer ≡ none

-- ---- reading

-- not minus zero
abbrev pub Plain : Float → Type 0
Plain x = size_of x ≡ 0 → negative x ≡ false

-- the double x equals the eight bytes, and a zero is plus zero
pub record Reads (b : List ℕ) (x : Float) : Type 0 where
  pub fit : T (fits binary64 x)
  pub finite : T (finite x)
  pub equal : Equals b x
  pub plain : Plain x

-- What a decoder answers for eight bytes, a double or none, is faithful to them.
pub record FaithfulDecoding (b : List ℕ) (answer : Option Float) : Type 0 where
  pub read : (x : Float) → answer ≡ some x → Reads b x
  -- "29 a real that no double equals": where none is read, no finite double equals the bytes
  pub unread : answer ≡ none → (x : Float) → T (fits binary64 x) → T (finite x) → Equals b x → ⊥

-- ---- the claims

-- What `Real8::encode` promises of its answer's values: they are the definition's, and the bytes are faithful to x.
pub record EncodesReal (x : Float) (v : Values) : Type 0 where
  pub answer : v ≡ values_of (encoding x)
  pub faithful : Faithful x v.bytes

-- The encoder is faithful to every double.
abbrev pub EncoderFaithful : Type 0
EncoderFaithful = (x : Float) → T (fits binary64 x) → Faithful x (real8 x)

-- The normalized encoding is unique: bytes that are worth the same are the same.
abbrev pub NormalizedUnique : Type 0
NormalizedUnique = (a b : List ℕ) → Normalized a → Normalized b → real8_value a ≡ real8_value b → a ≡ b

-- The decoder is faithful to every eight bytes.
abbrev pub DecoderFaithful : Type 0
DecoderFaithful = (b : List ℕ) → FaithfulDecoding b (double_of b)

-- A real that was written is read as the double that it was written for.
abbrev pub WrittenIsRead : Type 0
WrittenIsRead = (x : Float) (b : List ℕ) → T (fits binary64 x) → Plain x → real8 x ≡ some b → double_of b ≡ some x
