-- Which refusals measuring can answer: 1 to 20, 26 and 27, never 21 or 22. Assumes nothing.
use mathlib.Core.Path.{refl}
use mathlib.Core.Bool.{Bool, true, false, ◌&&◌, ◌||◌}
use mathlib.Core.Option.{Option, none, some}
use mathlib.Core.List.{List, [], ◌∷◌}
use Prim.Native.Nat.{ℕ, suc}
use lib.Dec.{T, leb}
use lib.Ieee.{Float}
use Rattle.refusal.specs.declared.Refusal.{Refusal}
use Rattle.refusal.specs.Number.{number}
use Rattle.conversion.specs.declared.GdsRoundingPolicy.{GdsRoundingPolicy}
use Rattle.conversion.specs.Made.{Made, refused, made}
use Rattle.sheet.specs.Element as S
use Rattle.sheet.specs.Element.{Head, head_of, element_of, kind_of}
use Rattle.sheet.specs.Blocks.{pairs_fit, block_of}
use Rattle.sheet.specs.Cell.{element_blocks}
use Rattle.stream.specs.Structure as D
use Rattle.cell.specs.Limits.{within}
use Rattle.cell.specs.Stamps.{stamps_fit}
use Rattle.cell.specs.Names.{is_name}
use Rattle.cell.specs.Write.{write_element}
use Rattle.cell.specs.Call.{checked_call}
use Rattle.cell.specs.Cell.{Result, stopped, written, write_one, write_block, write_blocks, structure_with, write_headed, write_sheet, after_caller, cell_structure}
use Rattle.cell.proofs.CallLaws.{Calling, unnamed, no_unit, too_long, passes, calling}
use Rattle.cell.proofs.ResultLaws.{Stops, check-stops}
use Rattle.cell.proofs.StepLaws.{Designer, Lawful, element-lawful}

-- what measuring may answer: 1 to 20, 26 and 27
abbrev Measuring : Refusal → ℕ → Type 0
Measuring r k = T (leb (number r) 20 || within 26 (number r) 27)

designer-measuring : (r : Refusal) (k : ℕ) → Designer r → Measuring r k
designer-measuring r k h = go (leb 7 (number r)) (leb (number r) 20) (within 26 (number r) 27) h
  where
    go : (a b c : Bool) → T (a && b || c) → T (b || c)
    go true b c h = h
    go false true c h = tt
    go false false c h = h

blocks-before : (policy : GdsRoundingPolicy) (d : Float) (i : ℕ) (bs : List (List ℕ)) → Stops Measuring (write_blocks policy d i bs)
unfolding write_blocks write_block write_one
blocks-before policy d i [] = tt
blocks-before policy d i (b ∷ bs) = go (element_of b) (write_blocks policy d (suc i) bs) (blocks-before policy d (suc i) bs)
  where
    one : (k : ℕ) (m : Made D.Said) (others : Result (List D.Said)) → Lawful d m → Stops Measuring others → Stops Measuring (write_one i k m others)
    one k (refused r) others c h = designer-measuring r (suc i) (c.designer r refl)
    one k (made w vs) (stopped r n) c h = h
    one k (made w vs) (written ws es) c h = tt

    go : (x : Option S.Element) (others : Result (List D.Said)) → Stops Measuring others → Stops Measuring (write_block policy d i x others)
    go none others h = tt
    go (some e) others h = one (kind_of e.body) (write_element policy d e) others (element-lawful d policy e) h

sheet-before : (policy : GdsRoundingPolicy) (d : Float) (sheet : List ℕ) → Stops Measuring (write_sheet policy d sheet)
unfolding write_sheet write_headed
sheet-before policy d sheet = check-stops Measuring (pairs_fit sheet) _ _ (λ f. tt) (λ p. go (head_of (block_of sheet 0)))
  where
    whole : (h : Head) (x : Result (List D.Said)) → Stops Measuring x → Stops Measuring (structure_with h x)
    whole h (stopped r k) f = f
    whole h (written ws es) f = tt

    go : (x : Option Head) → Stops Measuring (write_headed policy d sheet x)
    go none = tt
    go (some h) =
        check-stops Measuring (stamps_fit h.stamps) _ _ (λ f. tt)
        (λ t. check-stops Measuring (is_name h.name) _ _ (λ f. tt) (λ n. whole h (write_blocks policy d 0 (element_blocks sheet)) (blocks-before policy d 0 (element_blocks sheet))))

-- Measuring answers with a refusal other than 21 and 22.
pub measured-before : (policy : ℕ) (d : Float) (sheet : List ℕ) → Stops Measuring (cell_structure policy d sheet)
unfolding cell_structure after_caller
measured-before policy d sheet = go (checked_call policy d sheet) (calling policy d sheet)
  where
    go : (m : Made GdsRoundingPolicy) → Calling policy d sheet m → Stops Measuring (after_caller m d sheet)
    go m (unnamed e) = tt
    go m (no_unit rounding e never) = tt
    go m (too_long rounding e u l) = tt
    go m (passes at) = sheet-before at.rounding d sheet
