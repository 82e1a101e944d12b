-- A library with its answer, and that the definitions give it; bytes and doubles as in specs/Case. Assumes nothing.
use Rattle.std.specs.Prelude.{Bool, true, false, ◌&&◌, List, [], ◌∷◌, ℕ, ◌*◌, eqb}
use Rattle.std.specs.Float.Ieee.{of_bits, to_bits}
use Rattle.std.specs.Float.{binary64}
use Rattle.library.specs.Library.{Result, stopped, written, LibraryFile, file_bytes, report_from, write_library}
use Rattle.library.specs.Answer.{Values, answer_of, values_of}
use Rattle.cases.specs.Case.{unpacked, same_bytes}

-- number, cell and block; or length, entries, error bits, the file and the entries
pub data LibraryExpected : Type 0 where
  no : ℕ → ℕ → ℕ → LibraryExpected
  ok : ℕ → ℕ → ℕ → ℕ → ℕ → LibraryExpected

-- a policy, a unit's bits, a library sheet, the lengths of output and report, and the answer
pub record LibraryCase : Type 0 where
  pub policy : ℕ
  pub unit : ℕ
  pub size : ℕ
  pub sheet : ℕ
  pub out : ℕ
  pub report : ℕ
  pub expected : LibraryExpected

-- "A library's report entries gain a leading 4-byte cell number": 37 bytes
abbrev entry_size : ℕ
entry_size = 37

-- the answer's values are those of the line
abbrev same_library_values : Values → LibraryExpected → Bool
same_library_values v (no n c b) = eqb v.number n && eqb v.cell c && eqb v.block b
same_library_values v (ok n k x file entries) = eqb v.number 0 && eqb v.length n && eqb v.entries k && eqb (to_bits binary64 v.greatest) x

-- the file and the report are as expected
abbrev same_file : Result LibraryFile → LibraryExpected → Bool
same_file (stopped r c k) e = true
same_file (written l) (no n c b) = false
same_file (written l) (ok n k x file entries) = same_bytes (file_bytes l) (unpacked n file) && same_bytes (report_from 0 l.cells) (unpacked (entry_size * k) entries)

abbrev agrees_library : Result LibraryFile → LibraryExpected → Bool
agrees_library r e = same_library_values (values_of (answer_of r)) e && same_file r e

abbrev pub passes_library : LibraryCase → Bool
passes_library c = agrees_library (write_library c.policy (of_bits binary64 c.unit) (unpacked c.size c.sheet) c.out c.report) c.expected

abbrev pub pass_libraries : List LibraryCase → Bool
pass_libraries [] = true
pass_libraries (c ∷ cs) = passes_library c && pass_libraries cs
