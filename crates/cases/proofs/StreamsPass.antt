-- What is read from every stream is known: by the grammar alone a structure or its fault, the first in byte order; to a sheet its number and block, or the sheet and the canonical structure. Computed. Assumes nothing.
use mathlib.Core.Path.{◌≡◌, refl}
use mathlib.Core.Bool.{Bool, true, false, ◌&&◌}
use mathlib.Core.Option.{Option, none, some}
use mathlib.Core.List.{List, [], ◌∷◌}
use Prim.Native.Nat.{ℕ}
use lib.Dec.{T, eqb}
use Rattle.binary64.specs.Value.{one64}
use Rattle.refusal.specs.Number.{number}
use Rattle.parsing.specs.Parse.{Outcome, refused, given}
use Rattle.stream.specs.Structure.{Structure}
use Rattle.stream.specs.Read.{Fault, Stop, unlimited, read_structure}
use Rattle.cell.specs.Cell.{Result, cell_structure, structure_bytes}
use Rattle.cell.specs.Cell as C
use Rattle.reading.specs.Read.{Reading, stopped, made, measure_structure, nearest}
use Rattle.cases.specs.Case.{halved, unpacked, same_bytes}
use Rattle.cases.specs.Streams.{Answer, no, own, other, Stream, streams}
use Rattle.cases.proofs.Open.{opened}

-- ---- by the grammar alone

abbrev fault_of : Outcome Stop Structure → Option Fault
fault_of (refused c) = some c.fault
fault_of (given s) = none

abbrev pub found : List Stream → List (Option Fault)
found [] = []
found (s ∷ ss) = fault_of (read_structure unlimited (unpacked s.size s.bytes)) ∷ found ss

abbrev pub known : List Stream → List (Option Fault)
known [] = []
known (s ∷ ss) = s.fault ∷ known ss

pub faults-pass : found streams ≡ known streams
unfolding opened halved streams
faults-pass = refl

-- ---- to a sheet

-- the sheet is written to these bytes, with d = 1 and nearest and with nothing to report
abbrev pub is_written : Result Structure → List ℕ → Bool
is_written (C.stopped r k) bytes = false
is_written (C.written s []) bytes = same_bytes (structure_bytes s) bytes
is_written (C.written s (e ∷ es)) bytes = false

abbrev pub agrees : Reading → Answer → List ℕ → Bool
agrees (stopped r k) (no n b) bytes = eqb (number r) n && eqb k b
agrees (stopped r k) (own n v) bytes = false
agrees (stopped r k) (other n v m w) bytes = false
agrees (made sheet) (no n b) bytes = false
agrees (made sheet) (own n v) bytes = same_bytes sheet (unpacked n v) && is_written (cell_structure nearest one64 sheet) bytes
agrees (made sheet) (other n v m w) bytes = same_bytes sheet (unpacked n v) && is_written (cell_structure nearest one64 sheet) (unpacked m w)

abbrev pub passes : List ℕ → Answer → Bool
passes bytes a = agrees (measure_structure bytes) a bytes

abbrev pub read_all : List Stream → Bool
read_all [] = true
read_all (s ∷ ss) = passes (unpacked s.size s.bytes) s.reading && read_all ss

pub readings-pass : T (read_all streams)
unfolding opened halved streams
readings-pass = tt
