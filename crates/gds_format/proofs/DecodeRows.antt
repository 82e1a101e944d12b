-- Eight-byte reals and the doubles that they are read as (document 02, request 8), as data under one computed proof. Assumes nothing.
use mathlib.Core.Path.{◌≡◌, refl}
use mathlib.Core.Option.{Option, none, some, map}
use mathlib.Core.List.{List, [], ◌∷◌}
use Prim.Native.Nat.{ℕ}
use lib.Ieee.{binary64, to_bits, round, size}
use Rattle.big_endian.specs.Big.{bytes_of}
use Rattle.binary64.specs.Value.{size_of, negative, scaled}
use Rattle.gds_format.specs.Real8.{real8_value}
use Rattle.gds_format.specs.Decode.{double_near, double_of}

-- eight bytes by their pattern, and the bits of the double that equals them, or none where no double does
pub record Row : Type 0 where
  pub pattern : ℕ
  pub expected : Option ℕ

pub rows : List Row
rows =
    record { pattern = 0x4110000000000000; expected = some 0x3FF0000000000000 }  -- 1
    ∷ record { pattern = 0xC120000000000000; expected = some 0xC000000000000000 }  -- -2
    ∷ record { pattern = 0x3E4189374BC6A7F0; expected = some 0x3F50624DD2F1A9FC }  -- 0.001
    ∷ record { pattern = 0x4202000000000000; expected = some 0x4000000000000000 }  -- 2, with leading zero digits
    ∷ record { pattern = 0x0000000000000000; expected = some 0x0000000000000000 }  -- 0
    ∷ record { pattern = 0x8000000000000000; expected = some 0x0000000000000000 }  -- 0 with a sign
    ∷ record { pattern = 0xC500000000000000; expected = some 0x0000000000000000 }  -- 0 with a sign and an exponent
    ∷ record { pattern = 0x41FFFFFFFFFFFFF8; expected = some 0x402FFFFFFFFFFFFF }  -- 53 binary digits
    ∷ record { pattern = 0x41FFFFFFFFFFFFFF; expected = none }  -- 56 digits
    ∷ record { pattern = 0x4180000000000008; expected = some 0x4020000000000001 }  -- 53 digits, of which most are 0
    ∷ record { pattern = 0x4180000000000004; expected = none }  -- one more
    ∷ record { pattern = 0x413FFFFFFFFFFFFE; expected = some 0x400FFFFFFFFFFFFF }  -- 53 digits that end at the last but one
    ∷ record { pattern = 0x413FFFFFFFFFFFFF; expected = none }  -- 54 digits
    ∷ record { pattern = 0x0010000000000000; expected = some 0x2FB0000000000000 }  -- 2 ^ -260
    ∷ record { pattern = 0x0000000000000001; expected = some 0x2C70000000000000 }  -- 2 ^ -312, the least above 0
    ∷ record { pattern = 0x7FFFFFFFFFFFFFF8; expected = some 0x4FAFFFFFFFFFFFFF }  -- the greatest double below 2 ^ 252
    ∷ record { pattern = 0xFFFFFFFFFFFFFFFF; expected = none }  -- the least of all
    ∷ []

pub answers : List Row → List (Option ℕ)
answers [] = []
answers (r ∷ rs) = map (to_bits binary64) (double_of (bytes_of 8 r.pattern)) ∷ answers rs

pub expectations : List Row → List (Option ℕ)
expectations [] = []
expectations (r ∷ rs) = r.expected ∷ expectations rs

pub rows-read : answers rows ≡ expectations rows
unfolding rows answers expectations double_of double_near real8_value scaled size_of negative round to_bits size
rows-read = refl
