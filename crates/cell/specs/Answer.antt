-- The answer as the code gives it, and its number and values (document 01, "Result three", and its last paragraph, "Where an answer is an enum"). Assumes nothing.
use Rattle.std.specs.Prelude.{ℕ, length, Float, Result as Answered, Ok, Err}
use Rattle.binary64.specs.Value.{zero64}
use Rattle.refusal.specs.declared.Refusal.{Refusal}
use Rattle.refusal.specs.Number.{number}
use Rattle.conversion.specs.Entry.{greatest_from}
use Rattle.stream.specs.Structure.{Structure}
use Rattle.cell.specs.declared.Accepted.{Accepted}
use Rattle.cell.specs.declared.CellRefusal.{CellRefusal}
use Rattle.cell.specs.Cell.{Result, stopped, written, structure_bytes}

abbrev pub Answer : Type 0
Answer = Answered Accepted CellRefusal

-- a refusal and its block
abbrev pub refused : Refusal → ℕ → Answer
refused r k = Err (record { refusal = r; block = k })

-- the length, the number of entries and the greatest error
abbrev pub accepted : ℕ → ℕ → Float → Answer
accepted n entries greatest = Ok (record { length = n; entries = entries; greatest = greatest })

-- "Success gives structure length, entry count and greatest error (0 if none)."
abbrev pub answer_of : Result Structure → Answer
answer_of (stopped r k) = refused r k
answer_of (written s es) = accepted (length (structure_bytes s)) (length es) (greatest_from zero64 es)

-- in numbers: the refusal's number, or 0, and its block; the structure's length, its entries and the greatest error; 0 for what a case does not have
pub record Values : Type 0 where
  pub number : ℕ
  pub block : ℕ
  pub length : ℕ
  pub entries : ℕ
  pub greatest : Float

abbrev pub values_of : Answer → Values
values_of (Err e) = record { number = number e.refusal; block = e.block; length = 0; entries = 0; greatest = zero64 }
values_of (Ok a) = record { number = 0; block = 0; length = a.length; entries = a.entries; greatest = a.greatest }
