-- `structure::put_hex` meets its contract. Assumes nothing.
use Rattle.structure.proofs.HexLaws.{Put}
use Rattle.structure.proofs.put_hex.Given as goal

abbrev pub invariant-loop-i : goal.invariant-loop-i
invariant-loop-i l = Put l.bytes l.initial.text l.text l.i
