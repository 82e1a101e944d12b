-- The library sheet (document 02, request 1): the cell sheet's counted pairs; block 0 is the library's head, every further block a cell sheet. Assumes nothing.
use Rattle.std.proofs.Math.Option.{Option}
use Rattle.std.specs.Prelude.{List, ℕ, ◌-◌, Float}
use Rattle.parsing.specs.Parse.{pure, times, whole, ◌>>=◌}
use Rattle.sheet.specs.Form.{Form, num, double, string}
use Rattle.sheet.specs.Blocks.{pair_count, blocks_from}

-- "Its block 0 holds the library name string, the user unit as a double and twelve stamp numbers."
pub record LibraryHead : Type 0 where
  pub name : List ℕ
  pub user_unit : Float
  pub stamps : List ℕ

unfoldable pub library_head_form : Form LibraryHead
library_head_form = do
  n ← string
  u ← double
  t ← times 12 (num 2)
  pure (record { name = n; user_unit = u; stamps = t })

unfoldable pub library_head_of : List ℕ → Option LibraryHead
library_head_of = whole library_head_form

-- "Every further block is a cell sheet."
abbrev pub cell_sheets : List ℕ → List (List ℕ)
cell_sheets s = blocks_from (pair_count s - 1) 1 s
