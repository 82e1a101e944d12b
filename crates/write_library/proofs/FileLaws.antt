-- The library from its 23 on, measured: one law for each way out of the code. Assumes nothing.
use mathlib.Core.Path.{◌≡◌, refl, sym, ap, ap₂, ◌∙◌}
use mathlib.Core.Bool.{Bool, true, false}
use mathlib.Core.Option.{Option, none, some}
use mathlib.Core.List.{List, [], ◌++◌}
use Prim.Native.Nat.{ℕ, ◌+◌, ◌≤◌}
use native.Mathlib.Nat.{zero-add}
use native.Mathlib.Omega.{arith}
use lib.Dec.{leb}
use lib.ListN.{length, length-append}
use lib.Ieee.{Float}
use Rattle.binary64.specs.Value.{zero64}
use Rattle.refusal.specs.declared.Refusal.{Refusal}
use Rattle.refusal.specs.declared.Refusal.TheVariants as R
use Rattle.conversion.specs.declared.GdsRoundingPolicy.{GdsRoundingPolicy}
use Rattle.conversion.specs.Made.{Made, refused, made, pure, need, ◌>>=◌, ◌>>◌}
use Rattle.sheet.specs.Blocks.{pairs_fit, block_of}
use Rattle.sheet.specs.Library.{LibraryHead, library_head_of, cell_sheets}
use Rattle.stream.specs.Library.{ENDLIB, FileHead, file_head_bytes, file_end_bytes}
use Rattle.stream.specs.Record.{stream_bytes}
use Rattle.stream.specs.Records.{empty_record}
use Rattle.records.proofs.RecordLaws.{length-first}
use Rattle.cell.specs.Stamps.{stamps_fit}
use Rattle.std.proofs.Common.{Result as Answered, Ok, Err}
use Rattle.library.specs.Answer as L
use Rattle.library.specs.Library.{Result, stopped, written, WrittenCell, no_cell, check, write_cells, LibraryFile, max_library_name_length, file_with, file_head_of, write_named, write_headed, write_library_sheet, cells_bytes, file_bytes, entries_in, greatest_in}
use Rattle.library.specs.Answer.{LibraryAnswer, answer_of}
use Rattle.library.proofs.ResultLaws.{check-on, check-off}
use Rattle.library_head.specs.declared.HeadChecked.{HeadChecked}
use Rattle.library_head.specs.code.Head.{units_step, head_step, file_head_at, step_of, HeadRead}
use Rattle.write_library.specs.code.File.{max_front_length, totals_from}

-- ENDLIB has 4 bytes
pub end-length : length file_end_bytes ≡ 4
unfolding stream_bytes
end-length = let l = length-first (empty_record ENDLIB) [] in omega arith

pub file-length : (f : FileHead) (ws : List WrittenCell) → length (file_bytes (record { head = f; cells = ws })) ≡ length (file_head_bytes f) + 4 + length (cells_bytes ws)
unfolding file_bytes
file-length f ws =
    let a = length-append (file_head_bytes f) (cells_bytes ws ++ file_end_bytes) in
    let b = length-append (cells_bytes ws) file_end_bytes in
    let e = end-length in
    omega arith

-- what the cells give, on top of the file's own records
answer-file : (f : FileHead) (x : Result (List WrittenCell)) → answer_of (file_with f x) ≡ totals_from (length (file_head_bytes f) + 4) 0 zero64 x
unfolding totals_from
answer-file f (stopped r c k) = refl
answer-file f (written ws) = ap₂ (λ (n k : ℕ). L.accepted n k (greatest_in zero64 ws)) (file-length f ws) (sym (zero-add (entries_in ws)))

module _ (policy : GdsRoundingPolicy) (d : Float) (s : List ℕ) where
  -- what follows the head's checks, or what they refuse
  abbrev pub after_head : Made FileHead → Result LibraryFile
  after_head (refused r) = stopped r no_cell 0
  after_head (made f vs) = file_with f (write_cells policy d 0 (cell_sheets s))

  -- the head's checks are the definition's
  head-steps : (x : Option LibraryHead) → write_headed policy d s x ≡ after_head (head_step d x)
  unfolding write_headed write_named need ◌>>◌ ◌>>=◌
  head-steps none = refl
  head-steps (some h) = by-stamps (stamps_fit h.stamps) (file_head_of d h)
    where
      by_name : (t : Bool) (f : FileHead) → check t R.LibraryName (file_with f (write_cells policy d 0 (cell_sheets s))) ≡ after_head (need t R.LibraryName >> pure f)
      by_name true f = refl
      by_name false f = refl

      by_units : (y : Option FileHead) → write_named policy d s h y ≡ after_head (units_step h y)
      by_units none = refl
      by_units (some f) = by_name (leb (length h.name) max_library_name_length) f

      passed : (y : Option FileHead) → after_head (units_step h y) ≡ after_head (need true R.Stamp >> units_step h y)
      passed none = refl
      passed (some f) = again (leb (length h.name) max_library_name_length)
        where
          again : (t : Bool) → after_head (need t R.LibraryName >> pure f) ≡ after_head (need true R.Stamp >> (need t R.LibraryName >> pure f))
          again true = refl
          again false = refl

      by-stamps : (t : Bool) (y : Option FileHead) → check t R.Stamp (write_named policy d s h y) ≡ after_head (need t R.Stamp >> units_step h y)
      by-stamps true y = by_units y ∙ passed y
      by-stamps false y = refl

  pub pairs-stop : pairs_fit s ≡ false → L.refused R.LibraryForm no_cell 0 ≡ answer_of (write_library_sheet policy d s)
  unfolding write_library_sheet
  pairs-stop e = sym (ap answer_of (check-off (pairs_fit s) R.LibraryForm _ e))

  -- the pairs fit, and b is block 0
  module _ (p : pairs_fit s ≡ true) {b : List ℕ} (i : b ≡ block_of s 0) where
    to-head : write_library_sheet policy d s ≡ after_head (head_step d (library_head_of b))
    unfolding write_library_sheet
    to-head =
        check-on (pairs_fit s) R.LibraryForm _ p
        ∙ head-steps (library_head_of (block_of s 0))
        ∙ ap (λ (c : List ℕ). after_head (head_step d (library_head_of c))) (sym i)

    -- r is the answer on it
    pub as-checked : {r : Answered HeadChecked Refusal} → HeadRead d b (library_head_of b) r → write_library_sheet policy d s ≡ after_head (step_of b r)
    as-checked w = to-head ∙ ap after_head (sym w.step)

    pub head-stop : (x : Refusal) → HeadRead d b (library_head_of b) (Err x) → L.refused x no_cell 0 ≡ answer_of (write_library_sheet policy d s)
    head-stop x w = sym (ap answer_of (as-checked w))

    module _ (q : HeadChecked) (w : HeadRead d b (library_head_of b) (Ok q)) where
      pub front-small : q.length + 4 ≤ max_front_length
      front-small = let h = w.places.small in omega arith

      pub cells-through : {a : LibraryAnswer} → a ≡ totals_from (q.length + 4) 0 zero64 (write_cells policy d 0 (cell_sheets s)) → a ≡ answer_of (write_library_sheet policy d s)
      cells-through f =
          f
          ∙ ap (λ (m : ℕ). totals_from (m + 4) 0 zero64 (write_cells policy d 0 (cell_sheets s))) w.places.count
          ∙ sym (ap answer_of (as-checked w) ∙ answer-file (file_head_at b q.parts) (write_cells policy d 0 (cell_sheets s)))
