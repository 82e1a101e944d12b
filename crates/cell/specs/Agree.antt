-- Measuring and writing agree (document 01, "Who can cause which refusal": "Caller, last: 21 output too short; 22 report too short."). Assumes nothing.
-- Where measuring refuses, writing refuses likewise whatever the buffers; elsewhere writing gives what was measured, but for 21 and then 22, exactly where a buffer is shorter than measured.
use Rattle.std.specs.Prelude.{◌≡◌, List, ℕ, ◌*◌, ◌≤◌, ◌<◌, Float}
use Rattle.refusal.specs.declared.Refusal.{Refusal}
use Rattle.refusal.specs.declared.Refusal.TheVariants as R
use Rattle.conversion.specs.Entry.{entry_length}
use Rattle.cell.specs.Cell.{cell_structure, write_cell}
use Rattle.cell.specs.Answer as A
use Rattle.cell.specs.Answer.{Answer, answer_of}

-- what writing answers where measuring answered a, given so much output and report
pub record Agrees (out report : ℕ) (a b : Answer) : Type 0 where
  pub refused : (r : Refusal) (k : ℕ) → a ≡ A.refused r k → b ≡ A.refused r k
  pub output_short : (n c : ℕ) (g : Float) → a ≡ A.accepted n c g → out < n → b ≡ A.refused R.OutputShort 0
  pub report_short : (n c : ℕ) (g : Float) → a ≡ A.accepted n c g → n ≤ out → report < entry_length * c → b ≡ A.refused R.ReportShort 0
  pub accepted : (n c : ℕ) (g : Float) → a ≡ A.accepted n c g → n ≤ out → entry_length * c ≤ report → b ≡ A.accepted n c g

abbrev pub WritingAgrees : Type 0
WritingAgrees = (policy : ℕ) (d : Float) (sheet : List ℕ) (out report : ℕ)
    → Agrees out report (answer_of (cell_structure policy d sheet)) (answer_of (write_cell policy d sheet out report))
