-- What follows 1 to 3 of writing a cell: the answer, and both buffers before and after (document 01, "Result three"). Assumes nothing.
use Rattle.std.specs.Prelude.{◌≡◌, List, ℕ, length, Float}
use Rattle.conversion.specs.declared.GdsRoundingPolicy.{GdsRoundingPolicy}
use Rattle.stream.specs.Structure.{Structure}
use Rattle.cell.specs.Cell.{Result, write_sheet, fitting, out_after, report_after}
use Rattle.cell.specs.Answer.{Answer, answer_of}

abbrev pub fitted : GdsRoundingPolicy → Float → List ℕ → List ℕ → List ℕ → Result Structure
fitted policy d sheet out report = fitting (length out) (length report) (write_sheet policy d sheet)

pub record WritesSheet (policy : GdsRoundingPolicy) (d : Float) (sheet out report out' report' : List ℕ) (r : Answer) : Type 0 where
  pub answer : r ≡ answer_of (fitted policy d sheet out report)
  pub output : out' ≡ out_after (fitted policy d sheet out report) out
  pub entries : report' ≡ report_after (fitted policy d sheet out report) report
