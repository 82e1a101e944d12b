-- Every cell in turn: what is left stands at the places reached (PutLaws). Assumes nothing.
use Rattle.write_library.proofs.PutLaws.{Turns}
use Rattle.write_library.proofs.put_cells.Given as goal

abbrev pub invariant-loop-cell : goal.invariant-loop-cell
invariant-loop-cell l = Turns l.converter.policy l.converter.d l.sheet l.initial.out l.initial.report l.cells l.out l.report l.cell l.to l.at
