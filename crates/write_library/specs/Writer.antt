-- What measuring and writing a library promise of their answer, in numbers, for every policy, unit, sheet and pair of buffers
-- (document 02, request 1; document 01, "Result three", "Where an answer is an enum"). Assumes nothing.
use Rattle.std.specs.Prelude.{◌≡◌, List, ℕ, length, take, Float}
use Rattle.library.specs.Library.{Result, LibraryFile, library_file, write_library, out_after, report_after}
use Rattle.library.specs.Answer.{answer_of, Values, values_of}
use Rattle.library.specs.Draws.{DrawsLibrary}

-- what the definition says for buffers of these lengths
abbrev pub defined : ℕ → Float → List ℕ → List ℕ → List ℕ → Result LibraryFile
defined policy d sheet out report = write_library policy d sheet (length out) (length report)

-- measuring: the definition's answer, before 21 and 22
pub record MeasuresLibrary (policy : ℕ) (d : Float) (sheet : List ℕ) (v : Values) : Type 0 where
  pub answer : v ≡ values_of (answer_of (library_file policy d sheet))

-- writing: the answer's values v, and both buffers before and after
pub record WritesLibrary (policy : ℕ) (d : Float) (sheet out report out' report' : List ℕ) (v : Values) : Type 0 where
  -- the answer is the definition's
  pub answer : v ≡ values_of (answer_of (defined policy d sheet out report))
  -- and so is every byte of the output and of the report: as before after the file and the entries, and after a refusal
  pub output : out' ≡ out_after (defined policy d sheet out report) out
  pub entries : report' ≡ report_after (defined policy d sheet out report) report
  -- an accepted library's bytes draw the sheet's cells
  pub draws : v.number ≡ 0 → DrawsLibrary policy d sheet (take v.length out')
