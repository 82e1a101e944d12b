-- "The drawing statement holds for each structure of an accepted file" (document 02, request 1). Assumes nothing.
use Rattle.std.specs.Prelude.{◌≡◌, List, ◌++◌, ℕ, T, length, take, Float}
use Rattle.std.proofs.Math.Option.{some}
use Rattle.std.specs.Float.{binary64}
use Rattle.std.specs.Float.Ieee.{fits}
use Rattle.big_endian.specs.Big.{Bytes, joined}
use Rattle.sheet.specs.Blocks.{block_of}
use Rattle.sheet.specs.Library.{LibraryHead, library_head_of, cell_sheets}
use Rattle.stream.specs.Library.{FileHead, file_head_bytes, file_end_bytes}
use Rattle.cell.specs.Draws.{Each, Draws}
use Rattle.library.specs.Library.{file_head_of, write_library, out_after}
use Rattle.library.specs.Answer.{accepted, answer_of}

-- the parts in a row
abbrev pub concat : List (List ℕ) → List ℕ
concat bs = joined (λ b. b) bs

-- The file is its own records, then one part for each cell sheet, in the order of the blocks, then ENDLIB, and nothing else. Each part, read alone, is a structure that draws its cell.
pub record DrawsLibrary (policy : ℕ) (d : Float) (sheet file : List ℕ) : Type 0 where
  pub head : LibraryHead
  pub held : library_head_of (block_of sheet 0) ≡ some head
  pub front : FileHead
  pub encoded : file_head_of d head ≡ some front
  pub parts : List (List ℕ)
  pub whole : file ≡ file_head_bytes front ++ (concat parts ++ file_end_bytes)
  pub bytewise : Bytes file
  pub each : Each (Draws policy d) (cell_sheets sheet) parts

-- For every policy, unit, library sheet of bytes and pair of buffers: where the answer is a file of n bytes, the output's first n bytes draw the sheet's library.
-- (Every f64 fits binary64, and every &[u8] is of bytes.)
abbrev pub WrittenDraws : Type 0
WrittenDraws = (policy : ℕ) (d : Float) (sheet out report : List ℕ) (n entries : ℕ) (greatest : Float) → T (fits binary64 d) → Bytes sheet
    → answer_of (write_library policy d sheet (length out) (length report)) ≡ accepted n entries greatest
    → DrawsLibrary policy d sheet (take n (out_after (write_library policy d sheet (length out) (length report)) out))
