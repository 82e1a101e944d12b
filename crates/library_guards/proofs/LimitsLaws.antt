-- 3, 25 and the count of pairs one below, at and above their limits, and what comes before and after them, by law: their sheets and names are too long to compute. Assumes nothing.
use mathlib.Core.Path.{◌≡◌, refl, ap, ◌∙◌}
use mathlib.Core.Bool.{Bool, true, false, ◌&&◌}
use mathlib.Core.Option.{none, some}
use mathlib.Core.List.{List, [], ◌∷◌}
use Prim.Native.Nat.{ℕ, ◌+◌, ◌*◌, ◌≤◌, ◌<◌, ◌^◌}
use native.Mathlib.Omega.{arith}
use borrow.Author.Tests.{le-leb, lt-leb}
use lib.Dec.{T, leb, leb→le}
use lib.ListN.{length, take, drop}
use lib.Ieee.{Float}
use lib.Ieee.Fits.{and_l, and_r}
use Rattle.refusal.specs.declared.Refusal.{Refusal}
use Rattle.refusal.specs.declared.Refusal.TheVariants as R
use Rattle.parsing.specs.All.{All}
use Rattle.conversion.specs.declared.GdsRoundingPolicy.{GdsRoundingPolicy}
use Rattle.conversion.specs.declared.GdsRoundingPolicy.TheVariants.{Nearest}
use Rattle.conversion.specs.Made.{Made, refused, pure}
use Rattle.conversion.specs.Policy.{caller_policy}
use Rattle.sheet.specs.Blocks.{pair_count, chained, pairs_fit, block_of}
use Rattle.sheet.specs.Encode.{blocks_sheet}
use Rattle.sheet.specs.Library.{LibraryHead, library_head_of, cell_sheets}
use Rattle.sheet.proofs.BlocksLaws.{Some, pairs-fit}
use Rattle.stream.specs.Library.{FileHead, file_head_bytes}
use Rattle.cell.specs.Stamps.{stamps_fit}
use Rattle.cell.specs.Call.{checked_call}
use Rattle.cell.proofs.CallLaws.{call-refused, call_long, call-with}
use Rattle.cell.proofs.OrderLaws.{off}
use Rattle.library.specs.Library.{Result, stopped, check, LibraryFile, file_with, file_head_for, file_head_of, write_cells, write_named, write_headed, write_library_sheet, after_caller, library_file, fitting, write_library}
use Rattle.library.proofs.ResultLaws.{check-on, check-off}
use Rattle.cases.specs.Limits.{repeated}
use Rattle.cases.proofs.Open.{opened}
use Rattle.guards.specs.Question.{bits}
use Rattle.guards.specs.Values.{one}

-- ---- 3: "sheet over 16,777,216 bytes", of the library sheet

module _ (n : ℕ) (d : Float) (sheet : List ℕ) (out report : ℕ) where
  by_call : (m : Made GdsRoundingPolicy) → checked_call n d sheet ≡ m → write_library n d sheet out report ≡ fitting out report (after_caller m d sheet)
  unfolding write_library library_file
  by_call m e = rw e

  -- 1 and 2 come before it, and all else
  pub caller-first : (r : Refusal) → caller_policy n d ≡ refused r → write_library n d sheet out report ≡ stopped r 4294967295 0
  unfolding after_caller fitting
  caller-first r e = by_call (refused r) (call-refused n d sheet r e)

  -- and it before 23, whatever the pairs are
  pub too_long : (p : GdsRoundingPolicy) → caller_policy n d ≡ pure p → 16777216 < length sheet → write_library n d sheet out report ≡ stopped R.SheetSize 4294967295 0
  unfolding after_caller fitting
  too_long p e l = by_call (refused R.SheetSize) (call_long n d sheet p e l)

  pub long-enough : (p : GdsRoundingPolicy) → caller_policy n d ≡ pure p → length sheet ≤ 16777216 → write_library n d sheet out report ≡ fitting out report (write_library_sheet p d sheet)
  unfolding after_caller
  long-enough p e l = by_call (pure p) (call-with n d sheet p e l)

-- so with figures: policy 4 and d = 0; policy 0 and d = 0; policy 0 and d = 1
no-policy : caller_policy 4 (bits 0) ≡ refused R.Policy
unfolding opened
no-policy = refl

no-unit : caller_policy 0 (bits 0) ≡ refused R.DatabaseUnit
unfolding opened
no-unit = refl

good-call : caller_policy 0 one ≡ pure Nearest
unfolding opened
good-call = refl

pub policy-first : (sheet : List ℕ) (out report : ℕ) → write_library 4 (bits 0) sheet out report ≡ stopped R.Policy 4294967295 0
policy-first sheet out report = caller-first 4 (bits 0) sheet out report R.Policy no-policy

pub unit-first : (sheet : List ℕ) (out report : ℕ) → write_library 0 (bits 0) sheet out report ≡ stopped R.DatabaseUnit 4294967295 0
unit-first sheet out report = caller-first 0 (bits 0) sheet out report R.DatabaseUnit no-unit

pub size_above : (sheet : List ℕ) (out report : ℕ) → length sheet ≡ 16777217 → write_library 0 one sheet out report ≡ stopped R.SheetSize 4294967295 0
size_above sheet out report e = too_long 0 one sheet out report Nearest good-call (omega arith)

pub size-at : (sheet : List ℕ) (out report : ℕ) → length sheet ≡ 16777216 → write_library 0 one sheet out report ≡ fitting out report (write_library_sheet Nearest one sheet)
size-at sheet out report e = long-enough 0 one sheet out report Nearest good-call (omega arith)

-- ---- 23: "a 4-byte pair count n (1 to 16,384)", as of a cell

module _ (p : GdsRoundingPolicy) (d : Float) where
  pub pairs-above : (sheet : List ℕ) → pair_count sheet ≡ 16385 → write_library_sheet p d sheet ≡ stopped R.LibraryForm 4294967295 0
  unfolding write_library_sheet pairs_fit
  pairs-above sheet e = check-off (pairs_fit sheet) R.LibraryForm (write_headed p d sheet (library_head_of (block_of sheet 0))) (off (pairs_fit sheet) never)
    where
      third : (a b c d e : Bool) → T (a && b && c && d && e) → T c
      third a b c d e t = and_r (a && b) c (and_l (a && b && c) d (and_l (a && b && c && d) e t))

      never : T (pairs_fit sheet) → ⊥
      never t =
          let z = leb→le (pair_count sheet) 16384 (third (leb 4 (length sheet)) (leb 1 (pair_count sheet)) (leb (pair_count sheet) 16384) (leb (4 + 8 * pair_count sheet) (length sheet)) (chained (pair_count sheet) 0 (4 + 8 * pair_count sheet) sheet) t) in
          omega arith

  -- any 16,384 blocks of which none is empty
  pub pairs-at : (bs : List (List ℕ)) → length bs ≡ 16384 → All Some bs → length (blocks_sheet bs) < 2 ^ 32
      → write_library_sheet p d (blocks_sheet bs) ≡ write_headed p d (blocks_sheet bs) (library_head_of (block_of (blocks_sheet bs) 0))
  unfolding write_library_sheet
  pairs-at bs n s l =
      check-on (pairs_fit (blocks_sheet bs)) R.LibraryForm (write_headed p d (blocks_sheet bs) (library_head_of (block_of (blocks_sheet bs) 0)))
      (pairs-fit bs (record { least = omega arith; most = omega arith; some = s; short = l }))

-- ---- the library's 6, 24 and 25, whatever the name and the cells

module _ (p : GdsRoundingPolicy) (d : Float) (sheet : List ℕ) (h : LibraryHead) where
  pub stamps-first : stamps_fit h.stamps ≡ false → write_headed p d sheet (some h) ≡ stopped R.Stamp 4294967295 0
  unfolding write_headed
  stamps-first e = check-off (stamps_fit h.stamps) R.Stamp (write_named p d sheet h (file_head_of d h)) e

  -- 24 before 25
  pub units-next : stamps_fit h.stamps ≡ true → file_head_of d h ≡ none → write_headed p d sheet (some h) ≡ stopped R.LibraryUnits 4294967295 0
  unfolding write_headed write_named
  units-next e u = check-on (stamps_fit h.stamps) R.Stamp (write_named p d sheet h (file_head_of d h)) e ∙ ap (write_named p d sheet h) u

  module _ (f : FileHead) (e : stamps_fit h.stamps ≡ true) (u : file_head_of d h ≡ some f) where
    abbrev cells : Result LibraryFile
    cells = file_with f (write_cells p d 0 (cell_sheets sheet))

    named : write_headed p d sheet (some h) ≡ check (leb (length h.name) 65530) R.LibraryName cells
    unfolding write_headed write_named
    named = check-on (stamps_fit h.stamps) R.Stamp (write_named p d sheet h (file_head_of d h)) e ∙ ap (write_named p d sheet h) u

    -- "25 library name over 65,530 bytes", of the bytes of the string; before every cell
    pub name-above : length h.name ≡ 65531 → write_headed p d sheet (some h) ≡ stopped R.LibraryName 4294967295 0
    name-above l = named ∙ check-off (leb (length h.name) 65530) R.LibraryName cells (lt-leb (length h.name) 65530 (omega arith))

    pub name-at : length h.name ≡ 65530 → write_headed p d sheet (some h) ≡ cells
    name-at l = named ∙ check-on (leb (length h.name) 65530) R.LibraryName cells (le-leb (length h.name) 65530 (omega arith))

    pub name_below : length h.name ≡ 65529 → write_headed p d sheet (some h) ≡ cells
    name_below l = named ∙ check-on (leb (length h.name) 65530) R.LibraryName cells (le-leb (length h.name) 65530 (omega arith))

-- ---- 65,529 bytes are padded, 65,530 are not: both have a record of 65,534 bytes

-- the first four bytes of LIBNAME
abbrev lead : ℕ → List ℕ
lead n = take 4 (drop 34 (file_head_bytes (file_head_for (record { name = repeated n 65; user_unit = one; stamps = repeated 12 0 }) (repeated 8 0) (repeated 8 0))))

pub lead-below : lead 65529 ≡ 0xff ∷ 0xfe ∷ 0x02 ∷ 0x06 ∷ []
unfolding opened repeated
lead-below = refl

pub lead-at : lead 65530 ≡ 0xff ∷ 0xfe ∷ 0x02 ∷ 0x06 ∷ []
unfolding opened repeated
lead-at = refl
