-- Measuring and writing a library agree (document 02, request 1: "21 and 22 come once, at the end"). Assumes nothing.
-- Where measuring refuses, writing refuses likewise whatever the buffers; elsewhere writing gives what was measured, but for 21 and then 22, exactly where a buffer is shorter than measured.
use Rattle.std.specs.Prelude.{◌≡◌, List, ℕ, ◌*◌, ◌≤◌, ◌<◌, Float}
use Rattle.refusal.specs.declared.Refusal.{Refusal}
use Rattle.refusal.specs.declared.Refusal.TheVariants as R
use Rattle.library.specs.Library.{no_cell, library_entry_length, library_file, write_library}
use Rattle.library.specs.Answer as A
use Rattle.library.specs.Answer.{LibraryAnswer, answer_of}

-- what writing answers where measuring answered a, given so much output and report
pub record Agrees (out report : ℕ) (a b : LibraryAnswer) : Type 0 where
  pub refused : (r : Refusal) (c k : ℕ) → a ≡ A.refused r c k → b ≡ A.refused r c k
  pub output_short : (n e : ℕ) (g : Float) → a ≡ A.accepted n e g → out < n → b ≡ A.refused R.OutputShort no_cell 0
  pub report_short : (n e : ℕ) (g : Float) → a ≡ A.accepted n e g → n ≤ out → report < library_entry_length * e → b ≡ A.refused R.ReportShort no_cell 0
  pub accepted : (n e : ℕ) (g : Float) → a ≡ A.accepted n e g → n ≤ out → library_entry_length * e ≤ report → b ≡ A.accepted n e g

abbrev pub WritingAgrees : Type 0
WritingAgrees = (policy : ℕ) (d : Float) (sheet : List ℕ) (out report : ℕ)
    → Agrees out report (answer_of (library_file policy d sheet)) (answer_of (write_library policy d sheet out report))
