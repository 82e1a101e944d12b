-- A library's cells, and a refusal in one of them, are what each sheet alone gives (document 02, request 1: "each is compared with the Rust cell by cell"; "A refusal inside a cell gives the cell's number beside its block"). Assumes nothing.
use Rattle.std.specs.Prelude.{◌≡◌, List, ◌∷◌, ◌++◌, ℕ, length, Float}
use Rattle.refusal.specs.declared.Refusal.{Refusal}
use Rattle.sheet.specs.Library.{cell_sheets}
use Rattle.cell.specs.Cell as C
use Rattle.cell.specs.Cell.{cell_structure}
use Rattle.cell.specs.Draws.{Each}
use Rattle.library.specs.Library.{no_cell, stopped, written, WrittenCell, LibraryFile, library_file}

-- the cell sheet alone, under the same policy and d, gives this structure and these entries
abbrev pub Alone : ℕ → Float → List ℕ → WrittenCell → Type 0
Alone policy d s w = cell_structure policy d s ≡ C.written w.structure w.entries

-- so of an accepted library, each cell in turn
abbrev pub CellsAlone : Type 0
CellsAlone = (policy : ℕ) (d : Float) (sheet : List ℕ) (l : LibraryFile) → library_file policy d sheet ≡ written l → Each (Alone policy d) (cell_sheets sheet) l.cells

-- cell c, whose sheet alone is refused so
pub record RefusedCell (policy : ℕ) (d : Float) (sheet : List ℕ) (r : Refusal) (c k : ℕ) : Type 0 where
  pub before : List (List ℕ)
  pub cell : List ℕ
  pub after : List (List ℕ)
  pub split : cell_sheets sheet ≡ before ++ cell ∷ after
  pub number : c ≡ length before
  pub alone : cell_structure policy d cell ≡ C.stopped r k

-- so of every refusal that has a cell
abbrev pub RefusedAlone : Type 0
RefusedAlone = (policy : ℕ) (d : Float) (sheet : List ℕ) (r : Refusal) (c k : ℕ) → library_file policy d sheet ≡ stopped r c k → (c ≡ no_cell → ⊥) → RefusedCell policy d sheet r c k
