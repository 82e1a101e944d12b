-- Every report entry tells which side of the physical value the database value lies on (document 02, request 2: "Which side of the grid"). Assumes nothing.
use Rattle.std.specs.Prelude.{◌≡◌, List, ℕ, T, Float}
use Rattle.std.specs.Float.{binary64}
use Rattle.std.specs.Float.Ieee.{fits}
use Rattle.parsing.specs.All.{All}
use Rattle.conversion.specs.declared.Entry.{Entry}
use Rattle.conversion.specs.Side.{EntryTellsSide}
use Rattle.stream.specs.Structure.{Structure}
use Rattle.cell.specs.Cell.{written, cell_structure}

-- For every policy, unit and sheet: where the cell is a structure with the report entries es, each of them has the deviation of its own p and q as its error, which counts, and whose sign tells the side. (Every f64 fits binary64.)
abbrev pub EntriesTellSides : Type 0
EntriesTellSides = (policy : ℕ) (d : Float) (sheet : List ℕ) (s : Structure) (es : List Entry) → T (fits binary64 d) → cell_structure policy d sheet ≡ written s es → All (EntryTellsSide d) es
