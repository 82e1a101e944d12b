-- Every report entry tells its side: the deviations of each element do (StepLaws), and an entry is one of them. Assumes nothing.
use mathlib.Core.Path.{refl, subst}
use mathlib.Core.Bool.{Bool, true, false}
use mathlib.Core.Option.{Option, none, some}
use mathlib.Core.List.{List, [], ◌∷◌, ◌++◌}
use Prim.Native.Nat.{ℕ, suc, ◌*◌}
use lib.Dec.{T, leb}
use lib.ListN.{length}
use lib.Ieee.{Float, binary64, fits}
use lib.Ieee.Scale.{finite}
use lib.Ieee.Positive.{positive-finite}
use Rattle.parsing.specs.All.{All, done, more}
use Rattle.refusal.specs.declared.Refusal.{Refusal}
use Rattle.conversion.specs.declared.GdsRoundingPolicy.{GdsRoundingPolicy}
use Rattle.conversion.specs.declared.Deviation.{Deviation}
use Rattle.conversion.specs.declared.Entry.{Entry}
use Rattle.conversion.specs.Made.{Made, refused, made}
use Rattle.conversion.specs.Entry.{entry_of, entry_length}
use Rattle.conversion.specs.Side.{EntryTellsSide}
use Rattle.conversion.proofs.SideLaws.{AllTold, entry-tells}
use Rattle.sheet.specs.Element as S
use Rattle.sheet.specs.Element.{Head, head_of, element_of, kind_of}
use Rattle.sheet.specs.Blocks.{pairs_fit, block_of}
use Rattle.sheet.specs.Cell.{element_blocks}
use Rattle.stream.specs.Structure as D
use Rattle.cell.specs.Stamps.{stamps_fit}
use Rattle.cell.specs.Names.{is_name}
use Rattle.cell.specs.Write.{write_element}
use Rattle.cell.specs.Call.{checked_call}
use Rattle.cell.specs.Cell.{Result, stopped, written, check, write_one, write_block, write_blocks, structure_with, write_headed, write_sheet, after_caller, cell_structure, structure_bytes, fitting, write_cell}
use Rattle.cell.specs.Sides.{EntriesTellSides}
use Rattle.cell.proofs.CallLaws.{Calling, unnamed, no_unit, too_long, passes, calling}
use Rattle.cell.proofs.StepLaws.{Lawful, element-lawful}

-- each entry of what is written, where nothing is said of a refusal
abbrev pub Reports : (Entry → Type 0) → {A : Type 0} → Result A → Type 0
Reports P (stopped r k) = T true
Reports P (written a es) = All P es

all_append : {P : Entry → Type 0} {a b : List Entry} → All P a → All P b → All P (a ++ b)
all_append done k = k
all_append (more p h) k = more p (all_append h k)

check-reports : {A : Type 0} (P : Entry → Type 0) (t : Bool) (r : Refusal) (x : Result A) → Reports P x → Reports P (check t r x)
check-reports P true r x h = h
check-reports P false r x h = tt

module _ (policy : GdsRoundingPolicy) (d : Float) (F : T (fits binary64 d)) (f : T (finite d)) where
  blocks-report : (i : ℕ) (bs : List (List ℕ)) → Reports (EntryTellsSide d) (write_blocks policy d i bs)
  unfolding write_blocks write_block write_one entry_of
  blocks-report i [] = done
  blocks-report i (b ∷ bs) = go (element_of b) (write_blocks policy d (suc i) bs) (blocks-report (suc i) bs)
    where
      its : (k : ℕ) (vs : List Deviation) → AllTold d vs → All (EntryTellsSide d) (entry_of i k vs)
      its k [] h = done
      its k (v ∷ vs) h = more (entry-tells d F f i k v vs h) done

      one : (k : ℕ) (m : Made D.Said) (others : Result (List D.Said)) → Lawful d m → Reports (EntryTellsSide d) others → Reports (EntryTellsSide d) (write_one i k m others)
      one k (refused r) others l h = tt
      one k (made w vs) (stopped r n) l h = tt
      one k (made w vs) (written ws es) l h = all_append (its k vs (l.told w vs refl)) h

      go : (x : Option S.Element) (others : Result (List D.Said)) → Reports (EntryTellsSide d) others → Reports (EntryTellsSide d) (write_block policy d i x others)
      go none others h = tt
      go (some e) others h = one (kind_of e.body) (write_element policy d e) others (element-lawful d policy e) h

  sheet-reports : (sheet : List ℕ) → Reports (EntryTellsSide d) (write_sheet policy d sheet)
  unfolding write_sheet write_headed
  sheet-reports sheet = check-reports _ (pairs_fit sheet) _ _ (go (head_of (block_of sheet 0)))
    where
      whole : (h : Head) (x : Result (List D.Said)) → Reports (EntryTellsSide d) x → Reports (EntryTellsSide d) (structure_with h x)
      whole h (stopped r k) p = tt
      whole h (written ws es) p = p

      go : (x : Option Head) → Reports (EntryTellsSide d) (write_headed policy d sheet x)
      go none = tt
      go (some h) =
          check-reports _ (stamps_fit h.stamps) _ _ (check-reports _ (is_name h.name) _ _ (whole h (write_blocks policy d 0 (element_blocks sheet)) (blocks-report 0 (element_blocks sheet))))

cell-reports : (policy : ℕ) (d : Float) (sheet : List ℕ) → T (fits binary64 d) → Reports (EntryTellsSide d) (cell_structure policy d sheet)
unfolding cell_structure after_caller
cell-reports policy d sheet F = go (checked_call policy d sheet) (calling policy d sheet)
  where
    go : (m : Made GdsRoundingPolicy) → Calling policy d sheet m → Reports (EntryTellsSide d) (after_caller m d sheet)
    go m (unnamed e) = tt
    go m (no_unit rounding e never) = tt
    go m (too_long rounding e u l) = tt
    go m (passes at) = sheet-reports at.rounding d F (positive-finite d at.unit) sheet

-- what is written where the buffers hold it is the same
fitting-reports : (P : Entry → Type 0) (out report : ℕ) (x : Result D.Structure) → Reports P x → Reports P (fitting out report x)
unfolding fitting
fitting-reports P out report (stopped r k) h = tt
fitting-reports P out report (written s es) h = check-reports P (leb (length (structure_bytes s)) out) _ _ (check-reports P (leb (entry_length * length es) report) _ _ h)

pub written-reports : (policy : ℕ) (d : Float) (sheet : List ℕ) (out report : ℕ) → T (fits binary64 d) → Reports (EntryTellsSide d) (write_cell policy d sheet out report)
unfolding write_cell
written-reports policy d sheet out report F = fitting-reports (EntryTellsSide d) out report (cell_structure policy d sheet) (cell-reports policy d sheet F)

pub entries-tell-sides : EntriesTellSides
entries-tell-sides policy d sheet s es F e = subst (Reports (EntryTellsSide d)) e (cell-reports policy d sheet F)
