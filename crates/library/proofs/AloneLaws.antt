-- A library's cells, and a refusal in one of them, are what each sheet alone gives (specs/Alone). Assumes nothing.
use mathlib.Core.Path.{◌≡◌, refl, ap, ◌∙◌, subst}
use mathlib.Core.Option.{Option, none, some}
use mathlib.Core.List.{List, [], ◌∷◌, ◌++◌}
use Prim.Native.Nat.{ℕ, suc, ◌-◌, ◌≤◌}
use lib.Dec.{leb}
use lib.ListN.{length}
use lib.Ieee.{Float}
use Rattle.refusal.specs.declared.Refusal.{Refusal}
use Rattle.parsing.specs.All.{All, more}
use Rattle.conversion.specs.declared.GdsRoundingPolicy.{GdsRoundingPolicy}
use Rattle.conversion.specs.Made.{Made}
use Rattle.sheet.specs.Blocks.{pair_count, pairs_fit, block_of}
use Rattle.sheet.specs.Library.{LibraryHead, library_head_of, cell_sheets}
use Rattle.sheet.proofs.CountLaws.{blocks-within}
use Rattle.stream.specs.Structure.{Structure}
use Rattle.stream.specs.Library.{FileHead}
use Rattle.cell.specs.Limits.{max_sheet_length}
use Rattle.cell.specs.Stamps.{stamps_fit}
use Rattle.cell.specs.Call.{checked_call}
use Rattle.cell.specs.Cell as C
use Rattle.cell.specs.Cell.{write_sheet, cell_structure}
use Rattle.cell.specs.Draws.{Each}
use Rattle.cell.specs.Draws as W
use Rattle.cell.specs.Order.{Called}
use Rattle.cell.proofs.CallLaws.{call-passed, Calling, unnamed, no_unit, too_long, passes, calling}
use Rattle.library.specs.Library.{no_cell, Result, stopped, written, WrittenCell, write_one, write_cells, LibraryFile, max_library_name_length, file_with, file_head_of, write_named, write_headed, write_library_sheet, after_caller, library_file}
use Rattle.library.specs.Alone.{Alone, CellsAlone, RefusedCell, RefusedAlone}
use Rattle.library.specs.Order.{First}
use Rattle.library.specs.Order as O
use Rattle.library.proofs.ResultLaws.{Whenever, check-whenever, Stops}
use Rattle.library.proofs.OrderLaws.{measured-first}

module _ (policy : ℕ) (d : Float) (sheet : List ℕ) (at : Called policy d sheet) where
  -- 1 to 3 pass for each cell sheet too
  sheet-is : (s : List ℕ) → length s ≤ max_sheet_length → cell_structure policy d s ≡ write_sheet at.rounding d s
  unfolding cell_structure C.after_caller
  sheet-is s h = ap (λ (m : Made GdsRoundingPolicy). C.after_caller m d s) (call-passed policy d s (record { rounding = at.rounding; named = at.named; unit = at.unit; size = h }))

  -- one cell in front of the others
  front-alone : (c : ℕ) (s : List ℕ) (ss : List (List ℕ)) (x : C.Result Structure) (others : Result (List WrittenCell)) → cell_structure policy d s ≡ x
      → Whenever (Each (Alone policy d) ss) others → Whenever (Each (Alone policy d) (s ∷ ss)) (write_one c x others)
  unfolding write_one
  front-alone c s ss (C.stopped r k) others e g = tt
  front-alone c s ss (C.written t es) (stopped r i k) e g = tt
  front-alone c s ss (C.written t es) (written ws) e g = W.more e g

  each-alone : (c : ℕ) (ss : List (List ℕ)) → All (λ s. length s ≤ max_sheet_length) ss → Whenever (Each (Alone policy d) ss) (write_cells at.rounding d c ss)
  unfolding write_cells
  each-alone c [] h = W.done
  each-alone c (s ∷ ss) (more h hs) = front-alone c s ss (write_sheet at.rounding d s) (write_cells at.rounding d (suc c) ss) (sheet-is s h) (each-alone (suc c) ss hs)

  abbrev EachAlone : LibraryFile → Type 0
  EachAlone l = Each (Alone policy d) (cell_sheets sheet) l.cells

  file-alone : (f : FileHead) (x : Result (List WrittenCell)) → Whenever (Each (Alone policy d) (cell_sheets sheet)) x → Whenever EachAlone (file_with f x)
  file-alone f (stopped r c k) g = tt
  file-alone f (written ws) g = g

  named-alone : (h : LibraryHead) (y : Option FileHead) → Whenever EachAlone (write_named at.rounding d sheet h y)
  unfolding write_named
  named-alone h none = tt
  named-alone h (some f) =
      check-whenever EachAlone (leb (length h.name) max_library_name_length) _ _
      (λ m. file-alone f (write_cells at.rounding d 0 (cell_sheets sheet)) (each-alone 0 (cell_sheets sheet) (blocks-within (pair_count sheet - 1) 1 max_sheet_length sheet at.size)))

  headed-alone : (x : Option LibraryHead) → Whenever EachAlone (write_headed at.rounding d sheet x)
  unfolding write_headed
  headed-alone none = tt
  headed-alone (some h) = check-whenever EachAlone (stamps_fit h.stamps) _ _ (λ t. named-alone h (file_head_of d h))

  sheet-alone : Whenever EachAlone (write_library_sheet at.rounding d sheet)
  unfolding write_library_sheet
  sheet-alone = check-whenever EachAlone (pairs_fit sheet) _ _ (λ p. headed-alone (library_head_of (block_of sheet 0)))

pub cells-alone : CellsAlone
unfolding library_file after_caller
cells-alone policy d sheet l e = subst (Whenever (λ l. Each (Alone policy d) (cell_sheets sheet) l.cells)) e (go (checked_call policy d sheet) (calling policy d sheet))
  where
    go : (m : Made GdsRoundingPolicy) → Calling policy d sheet m → Whenever (λ l. Each (Alone policy d) (cell_sheets sheet) l.cells) (after_caller m d sheet)
    go m (unnamed e) = tt
    go m (no_unit rounding e never) = tt
    go m (too_long rounding e u k) = tt
    go m (passes at) = sheet-alone policy d sheet at

-- ---- refusals

-- an element of a list
pub middle : {A : Type 0} {P : A → Type 0} (s : List A) (a : A) (t : List A) → All P (s ++ a ∷ t) → P a
middle [] a t (more h hs) = h
middle (b ∷ s) a t (more h hs) = middle s a t hs

pub refused-alone : RefusedAlone
refused-alone policy d sheet r c k e n = go r c k (subst (Stops (First policy d sheet 0 0)) e (measured-first policy d sheet 0 0)) n
  where
    go : (r : Refusal) (c k : ℕ) → First policy d sheet 0 0 r c k → (c ≡ no_cell → ⊥) → RefusedCell policy d sheet r c k
    go r c k (O.policy_above3 e) n = absurd (n refl)
    go r c k (O.unit_not_positive p e u) n = absurd (n refl)
    go r c k (O.sheet_too_long p e u l) n = absurd (n refl)
    go r c k (O.pairs_ill_formed at p) n = absurd (n refl)
    go r c k (O.head_ill_formed at p e) n = absurd (n refl)
    go r c k (O.head_stamps at t) n = absurd (n refl)
    go r c k (O.head_units at t u) n = absurd (n refl)
    go r c k (O.head_name at t e l) n = absurd (n refl)
    go r c k (O.cell_refused s i at x j e) n =
        let called = at.headed.formed.called in
        let short = middle at.before s at.after (subst (All (λ b. length b ≤ max_sheet_length)) at.split (blocks-within (pair_count sheet - 1) 1 max_sheet_length sheet called.size)) in
        record { before = at.before; cell = s; after = at.after; split = at.split; number = at.cell; alone = sheet-is policy d sheet called s short ∙ e }
    go r c k (O.output_too_short l e m) n = absurd (n refl)
    go r c k (O.report_too_short l e m i) n = absurd (n refl)
