-- Block 0 and what it holds, the sheet's cell blocks, and the records that a file has of its own, all by hand (document 02, request 1: its first paragraph, and "HEADER 0x0258, BGNLIB, LIBNAME,
-- UNITS, the structures, ENDLIB"). Assumes nothing.
use Rattle.std.proofs.Math.Option.{Option, none, some}
use Rattle.std.specs.Prelude.{List, [], ◌∷◌, ◌++◌, ℕ}
use Rattle.sheet.specs.Library.{LibraryHead}
use Rattle.stream.specs.Library.{FileHead}
use Rattle.guards.specs.Question.{x, bits}

-- ---- what block 0 holds

-- the name, the user unit's bits and the twelve numbers
abbrev head : List ℕ → ℕ → List ℕ → LibraryHead
head n u t = record { name = n; user_unit = bits u; stamps = t }

abbrev zeros : List ℕ
zeros = 0 ∷ 0 ∷ 0 ∷ 0 ∷ 0 ∷ 0 ∷ 0 ∷ 0 ∷ 0 ∷ 0 ∷ 0 ∷ 0 ∷ []

-- numbers that differ, so that none stands for another; whether they are dates is not asked here
abbrev counted : List ℕ
counted = 257 ∷ 2 ∷ 3 ∷ 4 ∷ 5 ∷ 6 ∷ 7 ∷ 8 ∷ 9 ∷ 10 ∷ 11 ∷ 65535 ∷ []

pub record Block : Type 0 where
  pub bytes : List ℕ
  pub holds : Option LibraryHead

abbrev block : List ℕ → Option LibraryHead → Block
block b h = record { bytes = b; holds = h }

unfoldable pub blocks : List Block
blocks =
    block (x 35 0x00014c3ff0000000000000000000000000000000000000000000000000000000000000) (some (head (76 ∷ []) 0x3ff0000000000000 zeros)) {- "L", 1, zeros -}
    ∷ block (x 29 0x00034c49423f50624dd2f1a9fc01010002000300040005000600070008 ++ x 8 0x0009000a000bffff) (some (head (76 ∷ 73 ∷ 66 ∷ []) 0x3f50624dd2f1a9fc counted)) {- "LIB", 0.001 -}
    ∷ block (x 26 0x00003ff000000000000001010002000300040005000600070008 ++ x 8 0x0009000a000bffff) (some (head [] 0x3ff0000000000000 counted)) {- no name -}
    ∷ block (x 36 0x000200000000000000000000000000000000000000000000000000000000000000000000) (some (head (0 ∷ 0 ∷ []) 0 zeros)) {- zero bytes stay; a unit of 0 is held -}
    ∷ block (x 35 0x0001ff7ff8000000000001000000000000000000000000000000000000000000000000) (some (head (255 ∷ []) 0x7ff8000000000001 zeros)) {- any byte; a NaN is held -}
    ∷ block [] none
    ∷ block (x 1 0) none {- the length cut -}
    ∷ block (x 3 0x00024c) none {- the name cut -}
    ∷ block (x 35 0x00024c0000000000000000000000000000000000000000000000000000000000000000) none {- a name of one byte less than its length: the last number is cut -}
    ∷ block (x 10 0x00014c3ff00000000000) none {- the unit cut -}
    ∷ block (x 11 0x00014c3ff0000000000000) none {- no numbers -}
    ∷ block (x 34 0x00014c3ff00000000000000000000000000000000000000000000000000000000000) none {- the last number cut by a byte -}
    ∷ block (x 33 0x00014c3ff000000000000000000000000000000000000000000000000000000000) none {- eleven numbers -}
    ∷ block (x 36 0x00014c3ff000000000000000000000000000000000000000000000000000000000000000) none {- a byte more -}
    ∷ block (x 37 0x00014c3ff00000000000000000000000000000000000000000000000000000000000000000) none {- thirteen numbers -}
    ∷ []

-- ---- "Every further block is a cell sheet": a sheet of three blocks, of one alone, and of four

pub record Cells : Type 0 where
  pub sheet : List ℕ
  pub sheets : List (List ℕ)

unfoldable pub cells : List Cells
cells =
    record { sheet = x 28 0x000000030000001c000000010000001d000000030000002000000002 ++ x 6 0xaab1b2b3c1c2; sheets = (0xb1 ∷ 0xb2 ∷ 0xb3 ∷ []) ∷ (0xc1 ∷ 0xc2 ∷ []) ∷ [] }
    ∷ record { sheet = x 14 0x000000010000000c00000002a1a2; sheets = [] }
    ∷ record { sheet = x 40 0x000000040000002400000001000000250000000100000026000000010000002700000001a1b1c1d1; sheets = (0xb1 ∷ []) ∷ (0xc1 ∷ []) ∷ (0xd1 ∷ []) ∷ [] }
    ∷ []

-- ---- the file's own records

pub record Own : Type 0 where
  pub head : FileHead
  pub bytes : List ℕ

-- user unit and database unit of UNITS as their eight bytes: 1 and 2; 0.001 and 1e-9
unfoldable pub own : List Own
own =
    record {
      head = record { stamps = counted; name = 76 ∷ 73 ∷ []; user_unit = x 8 0x4110000000000000; database_unit = x 8 0x4120000000000000 };
      bytes = x 6 0x000600020258 ++ x 4 0x001c0102 ++ x 16 0x01010002000300040005000600070008 ++ x 8 0x0009000a000bffff ++ x 6 0x000602064c49 ++ x 20 0x0014030541100000000000004120000000000000;
    }
    ∷ record {
      head = record { stamps = zeros; name = []; user_unit = x 8 0x3e4189374bc6a7f0; database_unit = x 8 0x3944b82fa09b5a54 };
      bytes = x 6 0x000600020258 ++ x 28 0x001c0102000000000000000000000000000000000000000000000000 ++ x 4 0x00040206 ++ x 20 0x001403053e4189374bc6a7f03944b82fa09b5a54;
    }
    ∷ []

-- "ENDLIB"
unfoldable pub end : List ℕ
end = x 4 0x00040400

-- ---- from block 0 to the records: names of no, one, two and three bytes, of which the odd ones gain one zero byte; the user unit is in front, and d behind it

pub record Front : Type 0 where
  pub unit : ℕ
  pub block : List ℕ
  pub bytes : List ℕ

abbrev front : ℕ → List ℕ → List ℕ → List ℕ → List ℕ → Front
front d n u s b = record { unit = d; block = n ++ u ++ s; bytes = x 6 0x000600020258 ++ x 4 0x001c0102 ++ s ++ b }

-- two dates
abbrev dates : List ℕ
dates = x 12 0x07e80002001d0017003b003b ++ x 12 0x270f000c001f000000000000

unfoldable pub fronts : List Front
fronts =
    front 0x3ff0000000000000 (x 3 0x00014c) (x 8 0x3ff0000000000000) (x 24 0) (x 6 0x000602064c00 ++ x 20 0x0014030541100000000000004110000000000000)
    ∷ front 0x3e112e0be826d695 (x 4 0x00024c49) (x 8 0x3f50624dd2f1a9fc) dates (x 6 0x000602064c49 ++ x 20 0x001403053e4189374bc6a7f03944b82fa09b5a54)
    ∷ front 0x4000000000000000 (x 5 0x00034c4942) (x 8 0x3fe0000000000000) dates (x 8 0x000802064c494200 ++ x 20 0x0014030540800000000000004120000000000000)
    ∷ front 0x3fe0000000000000 (x 2 0) (x 8 0x4000000000000000) (x 24 0) (x 4 0x00040206 ++ x 20 0x0014030541200000000000004080000000000000)
    ∷ front 0x3ff0000000000000 (x 4 0x00024c00) (x 8 0x3ff0000000000000) (x 24 0) (x 6 0x000602064c00 ++ x 20 0x0014030541100000000000004110000000000000)
    ∷ front 0x3ff0000000000000 (x 3 0x000100) (x 8 0x3ff0000000000000) (x 24 0) (x 6 0x000602060000 ++ x 20 0x0014030541100000000000004110000000000000)
    ∷ []
