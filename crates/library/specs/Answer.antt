-- The answer as the code gives it, and its number and values (document 02, request 1; document 01, its last paragraph, "Where an answer is an enum"). Assumes nothing.
use Rattle.std.specs.Prelude.{ℕ, length, Float, Result as Answered, Ok, Err}
use Rattle.binary64.specs.Value.{zero64}
use Rattle.refusal.specs.declared.Refusal.{Refusal}
use Rattle.refusal.specs.Number.{number}
use Rattle.cell.specs.declared.Accepted.{Accepted}
use Rattle.library.specs.declared.LibraryRefusal.{LibraryRefusal}
use Rattle.library.specs.Library.{Result, stopped, written, LibraryFile, file_bytes, entries_in, greatest_in}

abbrev pub LibraryAnswer : Type 0
LibraryAnswer = Answered Accepted LibraryRefusal

-- a refusal, its cell and its block
abbrev pub refused : Refusal → ℕ → ℕ → LibraryAnswer
refused r c k = Err (record { refusal = r; cell = c; block = k })

-- the length, the number of entries and the greatest error
abbrev pub accepted : ℕ → ℕ → Float → LibraryAnswer
accepted n entries greatest = Ok (record { length = n; entries = entries; greatest = greatest })

-- as of a cell: file length, entry count and greatest error (0 if none)
abbrev pub answer_of : Result LibraryFile → LibraryAnswer
answer_of (stopped r c k) = refused r c k
answer_of (written l) = accepted (length (file_bytes l)) (entries_in l.cells) (greatest_in zero64 l.cells)

-- in numbers: the refusal's number, or 0, its cell and its block; the file's length, its entries and the greatest error; 0 for what a case does not have
pub record Values : Type 0 where
  pub number : ℕ
  pub cell : ℕ
  pub block : ℕ
  pub length : ℕ
  pub entries : ℕ
  pub greatest : Float

abbrev pub values_of : LibraryAnswer → Values
values_of (Err e) = record { number = number e.refusal; cell = e.cell; block = e.block; length = 0; entries = 0; greatest = zero64 }
values_of (Ok a) = record { number = 0; cell = 0; block = 0; length = a.length; entries = a.entries; greatest = a.greatest }
