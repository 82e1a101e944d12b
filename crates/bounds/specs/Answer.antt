-- The answer as the code gives it, and its number and values (document 01, its last paragraph, "Where an answer is an enum"; document 02, request 11). Assumes nothing.
use Rattle.std.specs.Prelude.{ℕ, ℤ, pos, Result, Ok, Err}
use Rattle.refusal.specs.declared.Refusal.{Refusal}
use Rattle.refusal.specs.Number.{number}
use Rattle.conversion.specs.Made.{Made, refused, made}
use Rattle.bounds.specs.declared.DatabaseRange.{DatabaseRange}
use Rattle.bounds.specs.Range.{Range}

abbrev pub answer_of : Made Range → Result DatabaseRange Refusal
answer_of (refused r) = Err r
answer_of (made r ds) = Ok (record { least = r.least; greatest = r.greatest })

-- the refusal's number, or 0; and the two values, which are 0 where there is a refusal
pub record Values : Type 0 where
  pub number : ℕ
  pub least : ℤ
  pub greatest : ℤ

abbrev pub values_of : Result DatabaseRange Refusal → Values
values_of (Err r) = record { number = number r; least = pos 0; greatest = pos 0 }
values_of (Ok r) = record { number = 0; least = r.least; greatest = r.greatest }
