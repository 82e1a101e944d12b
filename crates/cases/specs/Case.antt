-- A cell with its answer, and that the definitions give it. Bytes are written as one number with their count, a double by its bits. Assumes nothing.
use Rattle.std.specs.Prelude.{Bool, true, false, ◌&&◌, cond, List, [], ◌∷◌, ◌++◌, ℕ, zero, suc, ◌-◌, ◌*◌, ◌/◌, ◌%◌, ◌^◌, leb, eqb}
use Rattle.std.proofs.Math.Option.{Option, none, some}
use Rattle.std.specs.Float.Ieee.{of_bits, to_bits}
use Rattle.std.specs.Float.{binary64}
use Rattle.big_endian.specs.Big.{bytes_of}
use Rattle.conversion.specs.Entry.{report_bytes, entry_length}
use Rattle.stream.specs.Structure.{Structure}
use Rattle.stream.specs.Read.{structure_of}
use Rattle.cell.specs.Cell.{Result, stopped, written, structure_bytes, write_cell}
use Rattle.cell.specs.Answer.{Values, answer_of, values_of}

-- as the program prints it: number and block; or length, entries, error bits, the stream and the entries
pub data Expected : Type 0 where
  no : ℕ → ℕ → Expected
  ok : ℕ → ℕ → ℕ → ℕ → ℕ → Expected

-- a policy, a unit's bits, a sheet, the lengths of output and report, and the answer
pub record Case : Type 0 where
  pub policy : ℕ
  pub unit : ℕ
  pub size : ℕ
  pub sheet : ℕ
  pub out : ℕ
  pub report : ℕ
  pub expected : Expected

-- v as n bytes, by halves where they are many: a byte of a long number costs by the number's length
unfoldable pub halved : ℕ → ℕ → ℕ → List ℕ
halved zero n v = bytes_of n v
halved (suc k) n v = cond (leb n 128) (bytes_of n v) (halved k (n - n / 2) (v / 256 ^ (n / 2)) ++ halved k (n / 2) (v % 256 ^ (n / 2)))

abbrev pub unpacked : ℕ → ℕ → List ℕ
unpacked n v = halved 9 n v

abbrev pub same_bytes : List ℕ → List ℕ → Bool
same_bytes [] [] = true
same_bytes [] (b ∷ t) = false
same_bytes (a ∷ s) [] = false
same_bytes (a ∷ s) (b ∷ t) = eqb a b && same_bytes s t

-- a structure is read
abbrev pub is_read : Option Structure → Bool
is_read none = false
is_read (some s) = true

-- the answer's values are those of the line
abbrev pub same_values : Values → Expected → Bool
same_values v (no n b) = eqb v.number n && eqb v.block b
same_values v (ok n k x stream entries) = eqb v.number 0 && eqb v.length n && eqb v.entries k && eqb (to_bits binary64 v.greatest) x

-- the stream is as expected and a structure is read from it, and the report is as expected
abbrev pub same_output : Result Structure → Expected → Bool
same_output (stopped r k) e = true
same_output (written s es) (no n b) = false
same_output (written s es) (ok n k x stream entries) =
    same_bytes (structure_bytes s) (unpacked n stream) && is_read (structure_of (structure_bytes s)) && same_bytes (report_bytes es) (unpacked (entry_length * k) entries)

abbrev pub agrees : Result Structure → Expected → Bool
agrees r e = same_values (values_of (answer_of r)) e && same_output r e

abbrev pub passes : Case → Bool
passes c = agrees (write_cell c.policy (of_bits binary64 c.unit) (unpacked c.size c.sheet) c.out c.report) c.expected

abbrev pub pass_all : List Case → Bool
pass_all [] = true
pass_all (c ∷ cs) = passes c && pass_all cs
