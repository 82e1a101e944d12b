-- The caller's checks before the library is measured: one law for each way out of the code. Assumes nothing.
use mathlib.Core.Path.{◌≡◌, sym, ap}
use mathlib.Core.List.{List}
use Prim.Native.Nat.{ℕ, ◌≤◌}
use lib.ListN.{length}
use lib.Ieee.{Float}
use Rattle.refusal.specs.declared.Refusal.{Refusal}
use Rattle.conversion.specs.declared.GdsRoundingPolicy.{GdsRoundingPolicy}
use Rattle.conversion.specs.Made.{Made, refused, pure}
use Rattle.cell.specs.Limits.{max_sheet_length}
use Rattle.cell.specs.Call.{checked_call}
use Rattle.cell.proofs.CallLaws.{call-size}
use Rattle.library.specs.Library.{stopped, no_cell, write_library_sheet, after_caller, library_file}
use Rattle.library.specs.Answer.{LibraryAnswer, answer_of, values_of}
use Rattle.write_library.specs.Writer.{MeasuresLibrary}

module _ (n : ℕ) (d : Float) (s : List ℕ) where
  pub call-stop : {r : Refusal} → refused r ≡ checked_call n d s → library_file n d s ≡ stopped r no_cell 0
  unfolding library_file after_caller
  call-stop e = ap (λ (m : Made GdsRoundingPolicy). after_caller m d s) (sym e)

  module _ {policy : GdsRoundingPolicy} (e : pure policy ≡ checked_call n d s) where
    pub sheet-size : length s ≤ max_sheet_length
    sheet-size = call-size n d s (sym e)

    pub library-is : library_file n d s ≡ write_library_sheet policy d s
    unfolding library_file after_caller
    library-is = ap (λ (m : Made GdsRoundingPolicy). after_caller m d s) (sym e)

-- the answer's values are what is promised
pub measures : {n : ℕ} {d : Float} {s : List ℕ} {a : LibraryAnswer} → a ≡ answer_of (library_file n d s) → MeasuresLibrary n d s (values_of a)
measures e = record { answer = ap values_of e }
