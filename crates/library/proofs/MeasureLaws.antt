-- Measuring and writing a library agree. Assumes nothing.
use mathlib.Core.Path.{◌≡◌, ap, ◌∙◌}
use Prim.Native.Nat.{ℕ, ◌*◌}
use native.Mathlib.Omega.{arith}
use borrow.Author.Tests.{le-leb, lt-leb}
use lib.Dec.{leb}
use lib.ListN.{length}
use lib.Ieee.{Float}
use Rattle.cell.proofs.AnswerLaws.{same-parts}
use Rattle.library.specs.Library.{Result, stopped, written, LibraryFile, library_file, file_bytes, library_entry_length, entries_in, fitting, write_library}
use Rattle.library.specs.Answer as A
use Rattle.library.specs.Answer.{answer_of}
use Rattle.library.specs.Agree.{Agrees, WritingAgrees}
use Rattle.library.proofs.ResultLaws.{check-on, check-off}

fitting-agrees : (out report : ℕ) (x : Result LibraryFile) → Agrees out report (answer_of x) (answer_of (fitting out report x))
unfolding fitting
fitting-agrees out report (stopped r c k) = record {
  refused = λ q i n e. e;
  output_short = λ n i g e l. never e;
  report_short = λ n i g e l m. never e;
  accepted = λ n i g e l m. never e;
}
  where
    never : {X : Type 0} {n i : ℕ} {g : Float} → A.refused r c k ≡ A.accepted n i g → X
    never e = let z : ◌≡◌ {A = ℕ} 0 1 = cc in absurd (omega arith)
fitting-agrees out report (written w) =
    let bytes = length (file_bytes w) in
    let entries = library_entry_length * entries_in w.cells in
    record {
      refused = λ r c k e. let z : ◌≡◌ {A = ℕ} 0 1 = cc in absurd (omega arith);
      output_short = λ n c g e l.
          let same = same-parts _ _ e in
          ap answer_of (check-off (leb bytes out) _ _ (lt-leb bytes out (omega arith)));
      report_short = λ n c g e l m.
          let same = same-parts _ _ e in
          ap answer_of (check-on (leb bytes out) _ _ (le-leb bytes out (omega arith)) ∙ check-off (leb entries report) _ _ (lt-leb entries report (omega arith)));
      accepted = λ n c g e l m.
          let same = same-parts _ _ e in
          ap answer_of (check-on (leb bytes out) _ _ (le-leb bytes out (omega arith)) ∙ check-on (leb entries report) _ _ (le-leb entries report (omega arith))) ∙ e;
    }

pub writing-agrees : WritingAgrees
unfolding write_library
writing-agrees policy d sheet out report = fitting-agrees out report (library_file policy d sheet)
