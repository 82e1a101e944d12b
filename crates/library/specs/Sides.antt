-- Every report entry of a library tells which side of the physical value the database value lies on (document 02, requests 1 and 2). Assumes nothing.
use Rattle.std.specs.Prelude.{◌≡◌, List, ℕ, T, Float}
use Rattle.std.specs.Float.{binary64}
use Rattle.std.specs.Float.Ieee.{fits}
use Rattle.parsing.specs.All.{All}
use Rattle.conversion.specs.Side.{EntryTellsSide}
use Rattle.library.specs.Library.{written, LibraryFile, library_file}

-- For every policy, unit and sheet: where the library is a file, each entry of each of its cells has the deviation of its own p and q as its error, which counts, and whose sign tells the side. (Every f64 fits binary64.)
abbrev pub LibraryTellsSides : Type 0
LibraryTellsSides = (policy : ℕ) (d : Float) (sheet : List ℕ) (l : LibraryFile) → T (fits binary64 d) → library_file policy d sheet ≡ written l → All (λ w. All (EntryTellsSide d) w.entries) l.cells
