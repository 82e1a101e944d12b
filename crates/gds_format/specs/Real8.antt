-- Eight-byte reals (the GDSII manual's data type 5; document 01, "Eight-byte reals"; write/gds_format.rs). Assumes nothing.
-- The first byte is a sign bit and the exponent e plus 64, the other seven are a fraction m of 56 bits: the value is m * 2 ^ -56 * 16 ^ e.
-- Values are counted in units of 2 ^ -1074, of which every finite double and every eight-byte real is a whole number.
use Rattle.std.proofs.Math.Option.{Option, none, some}
use Rattle.std.specs.Prelude.{List, [], ◌∷◌, Bool, cond, ℕ, ◌+◌, ◌-◌, ◌*◌, ◌/◌, ◌%◌, ◌^◌, leb, ltb, eqb, ℤ, pos, negsuc, nat_abs, ◌+ℤ◌, ◌-ℤ◌, Result, Ok, Err, Float}
use Rattle.std.specs.Float.Ieee.{size}
use Rattle.std.specs.Float.Ieee.Scale.{finite}
use Rattle.big_endian.specs.Big.{number, bytes_of}
use Rattle.binary64.specs.Value.{size_of, negative, signed, floor_div}
use Rattle.refusal.specs.declared.Refusal.TheVariants as the
use Rattle.refusal.specs.Number as R
use Rattle.gds_format.specs.declared.Real8.{Real8}
use Rattle.gds_format.specs.declared.GdsReal8Error.{GdsReal8Error}
use Rattle.gds_format.specs.declared.GdsReal8Error.TheVariants.{NonFinite, MagnitudeTooSmall, MagnitudeTooLarge}

-- ---- reading

-- What eight bytes are worth. With c the seven bits of the exponent, 2 ^ -56 * 16 ^ (c - 64) is 2 ^ (4 c + 762) units.
-- It is meant for eight bytes, and asks no length; of no bytes at all it is 0.
unfoldable pub real8_value : List ℕ → ℤ
real8_value [] = pos 0
real8_value (c ∷ m) = signed (leb 128 c) (number m * 2 ^ (4 * (c % 128) + 762))

-- ---- the two limits: 2 ^ -260, the least magnitude that has an encoding, and 2 ^ 252, the first that is too large

abbrev pub min_magnitude : ℕ
min_magnitude = 2 ^ (1074 - 260)

abbrev pub max_magnitude : ℕ
max_magnitude = 2 ^ (1074 + 252)

-- ---- writing

-- the binary exponent of a magnitude of n units: n units lie from 2 ^ e up to 2 ^ (e + 1)
abbrev pub binary_exponent : ℕ → ℤ
binary_exponent n = pos (size n) -ℤ pos 1075

-- What `floor_div` leaves, from 0 to d - 1, so that z is the quotient times d plus this: of -(n + 1) it is what n leaves, counted back from d - 1.
unfoldable pub floor_mod : ℤ → ℕ → ℕ
floor_mod (pos n) d = n % d
floor_mod (negsuc n) d = d - 1 - n % d

-- "The code's exponent comes from the binary exponent divided by 4, rounded down also below zero":
-- that, plus 1, since the fraction m * 2 ^ -56 is below 1, and plus 64. Between the limits it is from 0 to 127.
abbrev pub exponent_bits : ℤ → ℕ
exponent_bits e = nat_abs (floor_div e 4 +ℤ pos 65)

-- the leading 53 binary digits of a magnitude: of a double's they are all
abbrev pub significand : ℕ → ℕ
significand n = n / 2 ^ (size n - 53)

-- "the remainder shifts the 53-bit significand"
abbrev pub fraction : ℕ → ℕ
fraction n = significand n * 2 ^ floor_mod (binary_exponent n) 4

-- the eight bytes as one number: the sign bit, seven bits of exponent, 56 bits of fraction
abbrev pub pattern : Bool → ℕ → ℕ
pattern s n = cond s (2 ^ 63) 0 + exponent_bits (binary_exponent n) * 2 ^ 56 + fraction n

-- what the encoder answers: an eight-byte real, or why there is none
abbrev pub Encoding : Type 0
Encoding = Result Real8 GdsReal8Error

abbrev pub encoded : ℕ → Encoding
encoded p = Ok (record { pattern = p })

-- The answer for a sign and a magnitude. "Both zeros give eight zero bytes."
unfoldable pub encode_magnitude : Bool → ℕ → Encoding
encode_magnitude s n =
    cond (eqb n 0) (encoded 0)
    (cond (ltb n min_magnitude) (Err MagnitudeTooSmall)
    (cond (ltb n max_magnitude) (encoded (pattern s n)) (Err MagnitudeTooLarge)))

-- the encoder's answer for every double
unfoldable pub encoding : Float → Encoding
encoding x = cond (finite x) (encode_magnitude (negative x) (size_of x)) (Err NonFinite)

-- In numbers (document 01, its last paragraph, "Where an answer is an enum"): the refusal's number, 14 for each of the three reasons, or 0; and the eight bytes, none where refused.
pub record Values : Type 0 where
  pub number : ℕ
  pub bytes : Option (List ℕ)

abbrev pub values_of : Encoding → Values
values_of (Err e) = record { number = R.number the.Real; bytes = none }
values_of (Ok r) = record { number = 0; bytes = some (bytes_of 8 r.pattern) }

unfoldable pub real8 : Float → Option (List ℕ)
real8 x = (values_of (encoding x)).bytes
