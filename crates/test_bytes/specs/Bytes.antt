-- The bytes of an answer, from its numbers. Their layout stands in tools/pack_cases.py. Assumes nothing.
use Rattle.std.specs.Prelude.{List, ◌∷◌, ◌++◌, ℕ, Float}
use Rattle.std.specs.Float.{binary64}
use Rattle.std.specs.Float.Ieee.{to_bits}
use Rattle.big_endian.specs.Big.{bytes_of}

-- 0, the number in 1 byte, the block in 4
unfoldable pub refused_bytes : ℕ → ℕ → List ℕ
refused_bytes n block = 0 ∷ bytes_of 1 n ++ bytes_of 4 block

-- 1, the length of what is written and the entry count in 4 bytes each, the greatest error's bits
unfoldable pub front_bytes : ℕ → ℕ → Float → List ℕ
front_bytes size entries greatest = 1 ∷ bytes_of 4 size ++ bytes_of 4 entries ++ bytes_of 8 (to_bits binary64 greatest)

-- 0, the number in 1 byte, the cell and the block in 4 each
unfoldable pub library_refused_bytes : ℕ → ℕ → ℕ → List ℕ
library_refused_bytes n cell block = 0 ∷ bytes_of 1 n ++ bytes_of 4 cell ++ bytes_of 4 block
