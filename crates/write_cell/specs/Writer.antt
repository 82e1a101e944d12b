-- What measuring and writing a cell promise of their answer, in numbers, for every policy, unit, sheet and pair of buffers
-- (document 01, "Result three", "What a structure draws", "Where an answer is an enum"). Assumes nothing.
use Rattle.std.specs.Prelude.{◌≡◌, List, ℕ, length, take, Float}
use Rattle.stream.specs.Structure.{Structure}
use Rattle.cell.specs.Cell.{Result, cell_structure, write_cell, out_after, report_after}
use Rattle.cell.specs.Answer.{answer_of, Values, values_of}
use Rattle.cell.specs.Draws.{Draws}

-- what the definition says for buffers of these lengths
abbrev pub defined : ℕ → Float → List ℕ → List ℕ → List ℕ → Result Structure
defined policy d sheet out report = write_cell policy d sheet (length out) (length report)

-- measuring: the definition's answer, before 21 and 22
pub record MeasuresCell (policy : ℕ) (d : Float) (sheet : List ℕ) (v : Values) : Type 0 where
  pub answer : v ≡ values_of (answer_of (cell_structure policy d sheet))

-- writing: the answer's values v, and both buffers before and after
pub record WritesCell (policy : ℕ) (d : Float) (sheet out report out' report' : List ℕ) (v : Values) : Type 0 where
  -- demands 1 and 2: the answer is the definition's
  pub answer : v ≡ values_of (answer_of (defined policy d sheet out report))
  -- and so is every byte of the output and of the report: as before after the structure and the entries, and after a refusal
  pub output : out' ≡ out_after (defined policy d sheet out report) out
  pub entries : report' ≡ report_after (defined policy d sheet out report) report
  -- demand 3: an accepted cell's bytes draw the sheet's cell
  pub draws : v.number ≡ 0 → Draws policy d sheet (take v.length out')
