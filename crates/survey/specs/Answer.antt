-- The answer as the code gives it, and its number and counts (document 01, its last paragraph, "Where an answer is an enum"; document 02, request 12). Assumes nothing.
use Rattle.std.specs.Prelude.{ℕ, Result, Ok, Err}
use Rattle.refusal.specs.declared.Refusal.{Refusal}
use Rattle.refusal.specs.Number.{number}
use Rattle.conversion.specs.Made.{Made, refused, made}
use Rattle.survey.specs.declared.Counts.{Counts}

abbrev pub answer_of : Made Counts → Result Counts Refusal
answer_of (refused r) = Err r
answer_of (made k ds) = Ok k

-- the refusal's number, or 0; and the three counts, which are 0 where there is a refusal
pub record Values : Type 0 where
  pub number : ℕ
  pub clean : ℕ
  pub due : ℕ
  pub refused : ℕ

abbrev pub values_of : Result Counts Refusal → Values
values_of (Err r) = record { number = number r; clean = 0; due = 0; refused = 0 }
values_of (Ok k) = record { number = 0; clean = k.clean; due = k.due; refused = k.refused }
