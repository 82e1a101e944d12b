-- The caller's checks before the sheet is measured: one law for each way out of the code. Assumes nothing.
use mathlib.Core.Path.{◌≡◌, sym, ap}
use mathlib.Core.List.{List}
use Prim.Native.Nat.{ℕ, ◌≤◌}
use lib.ListN.{length}
use lib.Ieee.{Float}
use Rattle.refusal.specs.declared.Refusal.{Refusal}
use Rattle.conversion.specs.declared.GdsRoundingPolicy.{GdsRoundingPolicy}
use Rattle.conversion.specs.Made.{Made, refused, pure}
use Rattle.cell.specs.Limits.{max_sheet_length}
use Rattle.cell.specs.Call.{checked_call}
use Rattle.cell.specs.Cell.{stopped, write_sheet, after_caller, cell_structure}
use Rattle.cell.specs.Answer.{Answer, answer_of, values_of}
use Rattle.cell.proofs.CallLaws.{call-size}
use Rattle.write_cell.specs.Writer.{MeasuresCell}

module _ (n : ℕ) (d : Float) (s : List ℕ) where
  pub call-stop : (r : Refusal) → refused r ≡ checked_call n d s → cell_structure n d s ≡ stopped r 0
  unfolding cell_structure after_caller
  call-stop r f = ap (λ (m : Made GdsRoundingPolicy). after_caller m d s) (sym f)

  module _ {policy : GdsRoundingPolicy} (f : pure policy ≡ checked_call n d s) where
    pub sheet-size : length s ≤ max_sheet_length
    sheet-size = call-size n d s (sym f)

    pub cell-is : cell_structure n d s ≡ write_sheet policy d s
    unfolding cell_structure after_caller
    cell-is = ap (λ (m : Made GdsRoundingPolicy). after_caller m d s) (sym f)

-- the answer's values are what is promised
pub measures : {n : ℕ} {d : Float} {s : List ℕ} {a : Answer} → a ≡ answer_of (cell_structure n d s) → MeasuresCell n d s (values_of a)
measures e = record { answer = ap values_of e }
