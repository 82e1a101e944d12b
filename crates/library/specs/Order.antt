-- The order of a library's refusals (document 02, request 1, "Errors": "23 .., after 3; 24 .., after the library stamp's 6; 25 .., after 24"; "cells are checked in turn from their 4 on, and 21 and 22 come once, at the end").
-- `First r c k`: refusal r, with cell c and block k, is the first in this order. Its cases stand in the order, and each says that all before it have passed.
-- The order within a cell is the cell's own (cell/specs/Order). Assumes nothing.
use Rattle.std.specs.Prelude.{◌≡◌, List, ◌∷◌, ◌++◌, ℕ, ◌*◌, ◌≤◌, ◌<◌, T, length, Float}
use Rattle.std.proofs.Math.Option.{none, some}
use Rattle.std.specs.Float.Ieee.Positive.{positive}
use Rattle.refusal.specs.declared.Refusal.{Refusal}
use Rattle.refusal.specs.declared.Refusal.TheVariants as R
use Rattle.parsing.specs.All.{All}
use Rattle.gds_format.specs.Real8.{real8}
use Rattle.conversion.specs.declared.GdsRoundingPolicy.{GdsRoundingPolicy}
use Rattle.conversion.specs.declared.Entry.{Entry}
use Rattle.conversion.specs.Policy.{policy_of}
use Rattle.sheet.specs.Blocks.{pairs_fit, block_of}
use Rattle.sheet.specs.Library.{LibraryHead, library_head_of, cell_sheets}
use Rattle.stream.specs.Structure.{Structure}
use Rattle.cell.specs.Limits.{max_sheet_length}
use Rattle.cell.specs.Stamps.{stamps_fit}
use Rattle.cell.specs.Cell as C
use Rattle.cell.specs.Cell.{write_sheet}
use Rattle.cell.specs.Order.{Called}
use Rattle.library.specs.Library.{no_cell, stopped, written, LibraryFile, max_library_name_length, file_bytes, library_entry_length, entries_in, library_file, write_library}

-- a cell sheet that none of its checks from 4 on refuses
pub record Accepted (policy : GdsRoundingPolicy) (d : Float) (s : List ℕ) : Type 0 where
  pub structure : Structure
  pub entries : List Entry
  pub writes : write_sheet policy d s ≡ C.written structure entries

-- the reals of UNITS, of the user unit u and of d: both positive, both encodable
pub record Encodable (u d : Float) : Type 0 where
  pub positive-user : T (positive u)
  pub user : List ℕ
  pub user-is : real8 u ≡ some user
  pub database : List ℕ
  pub database-is : real8 d ≡ some database

-- "24 user unit not finite or not positive, or a real of UNITS not finite or not encodable"
pub data UnitsRefused (u d : Float) : Type 0 where
  user_not_positive : (T (positive u) → ⊥) → UnitsRefused u d
  user_not_encodable : real8 u ≡ none → UnitsRefused u d
  database_not_encodable : real8 d ≡ none → UnitsRefused u d

module _ (policy : ℕ) (d : Float) (sheet : List ℕ) where
  -- 1 to 3 have passed, and 23
  pub record Formed : Type 0 where
    pub called : Called policy d sheet
    pub pairs : T (pairs_fit sheet)
    pub head : LibraryHead
    pub held : library_head_of (block_of sheet 0) ≡ some head

  -- and the library's 6, 24 and 25
  pub record Headed : Type 0 where
    pub formed : Formed
    pub stamps : T (stamps_fit formed.head.stamps)
    pub units : Encodable formed.head.user_unit d
    pub name : length formed.head.name ≤ max_library_name_length

  -- and the cells before cell c, whose sheet is s
  pub record Reached (s : List ℕ) (c : ℕ) : Type 0 where
    pub headed : Headed
    pub before : List (List ℕ)
    pub after : List (List ℕ)
    pub split : cell_sheets sheet ≡ before ++ s ∷ after
    pub cell : c ≡ length before
    pub accepted : All (Accepted headed.formed.called.rounding d) before

  pub data First (out report : ℕ) : Refusal → ℕ → ℕ → Type 0 where
    -- 1, 2, 3, as of a cell
    policy_above3 : policy_of policy ≡ none → First out report R.Policy no_cell 0
    unit_not_positive : (rounding : GdsRoundingPolicy) → policy_of policy ≡ some rounding → (T (positive d) → ⊥) → First out report R.DatabaseUnit no_cell 0
    sheet_too_long : (rounding : GdsRoundingPolicy) → policy_of policy ≡ some rounding → T (positive d) → max_sheet_length < length sheet → First out report R.SheetSize no_cell 0
    -- 23: the pairs, then block 0
    pairs_ill_formed : Called policy d sheet → (T (pairs_fit sheet) → ⊥) → First out report R.LibraryForm no_cell 0
    head_ill_formed : Called policy d sheet → T (pairs_fit sheet) → library_head_of (block_of sheet 0) ≡ none → First out report R.LibraryForm no_cell 0
    -- the library stamp's 6
    head_stamps : (at : Formed) → (T (stamps_fit at.head.stamps) → ⊥) → First out report R.Stamp no_cell 0
    -- 24
    head_units : (at : Formed) → T (stamps_fit at.head.stamps) → UnitsRefused at.head.user_unit d → First out report R.LibraryUnits no_cell 0
    -- 25
    head_name : (at : Formed) → T (stamps_fit at.head.stamps) → Encodable at.head.user_unit d → max_library_name_length < length at.head.name
        → First out report R.LibraryName no_cell 0
    -- the cells in turn, each from its 4 on
    cell_refused : (s : List ℕ) (c : ℕ) (at : Reached s c) (r : Refusal) (k : ℕ) → write_sheet at.headed.formed.called.rounding d s ≡ C.stopped r k → First out report r c k
    -- 21, 22
    output_too_short : (l : LibraryFile) → library_file policy d sheet ≡ written l → out < length (file_bytes l) → First out report R.OutputShort no_cell 0
    report_too_short : (l : LibraryFile) → library_file policy d sheet ≡ written l → length (file_bytes l) ≤ out
        → report < library_entry_length * entries_in l.cells → First out report R.ReportShort no_cell 0

-- The answer is a refusal exactly where that is the first in the order: so it is one refusal, the first, or a file.
pub record Ordered (policy : ℕ) (d : Float) (sheet : List ℕ) (out report : ℕ) : Type 0 where
  pub is_first : (r : Refusal) (c k : ℕ) → write_library policy d sheet out report ≡ stopped r c k → First policy d sheet out report r c k
  pub first_is : (r : Refusal) (c k : ℕ) → First policy d sheet out report r c k → write_library policy d sheet out report ≡ stopped r c k
