-- The starred rows for reals of document 01 ("Rows"), as data under one computed proof. Assumes nothing.
use mathlib.Core.Path.{◌≡◌, refl}
use mathlib.Core.Option.{Option, none, some}
use mathlib.Core.List.{List, [], ◌∷◌}
use Prim.Native.Nat.{ℕ}
use lib.Ieee.{binary64, of_bits, size}
use Rattle.big_endian.specs.Big.{bytes_of}
use Rattle.binary64.specs.Value.{size_of, negative, floor_div}
use Rattle.gds_format.specs.Real8.{floor_mod, encode_magnitude, encoding, Values, values_of, real8}

-- a double by its bits, and the pattern of its eight bytes, or none where it is refused
pub record Row : Type 0 where
  pub double : ℕ
  pub expected : Option ℕ

pub rows : List Row
rows =
    record { double = 0x3FF0000000000000; expected = some 0x4110000000000000 }  -- 1
    ∷ record { double = 0xC000000000000000; expected = some 0xC120000000000000 }  -- -2
    ∷ record { double = 0x3F50624DD2F1A9FC; expected = some 0x3E4189374BC6A7F0 }  -- 0.001
    ∷ record { double = 0x8000000000000000; expected = some 0 }  -- -0
    ∷ record { double = 0x2FB0000000000000; expected = some 0x0010000000000000 }  -- 2 ^ -260
    ∷ record { double = 0x4FB0000000000000; expected = none }  -- 2 ^ 252
    ∷ []

pub expected_bytes : Option ℕ → Option (List ℕ)
expected_bytes none = none
expected_bytes (some p) = some (bytes_of 8 p)

pub answers : List Row → List (Option (List ℕ))
answers [] = []
answers (r ∷ rs) = real8 (of_bits binary64 r.double) ∷ answers rs

pub expectations : List Row → List (Option (List ℕ))
unfolding expected_bytes
expectations [] = []
expectations (r ∷ rs) = expected_bytes r.expected ∷ expectations rs

pub rows-hold : answers rows ≡ expectations rows
unfolding rows answers expectations real8 encoding encode_magnitude floor_mod floor_div size_of negative of_bits size
rows-hold = refl

-- ---- numbers: each of the three refusals is 14, and what is encoded has 0

-- 1; infinity, 2 ^ -261, 2 ^ 252
pub numbers : List ℕ
numbers = 0x3FF0000000000000 ∷ 0x7FF0000000000000 ∷ 0x2FA0000000000000 ∷ 0x4FB0000000000000 ∷ []

pub values : List ℕ → List Values
values [] = []
values (b ∷ bs) = values_of (encoding (of_bits binary64 b)) ∷ values bs

pub refusal : Values
refusal = record { number = 14; bytes = none }

pub numbers-hold : values numbers ≡ record { number = 0; bytes = some (bytes_of 8 0x4110000000000000) } ∷ refusal ∷ refusal ∷ refusal ∷ []
unfolding numbers values refusal encoding encode_magnitude floor_mod floor_div size_of negative of_bits size
numbers-hold = refl
