-- Every report entry of a library tells its side, since each cell's does and each is what its sheet alone gives (AloneLaws). Assumes nothing.
use mathlib.Core.Path.{◌≡◌, refl}
use mathlib.Core.List.{List}
use Prim.Native.Nat.{ℕ, ◌*◌}
use lib.Dec.{T, leb}
use lib.ListN.{length}
use lib.Ieee.{Float, binary64, fits}
use Rattle.parsing.specs.All.{All, done, more}
use Rattle.conversion.specs.Side.{EntryTellsSide}
use Rattle.cell.specs.Draws.{Each}
use Rattle.cell.specs.Draws as W
use Rattle.cell.proofs.SideLaws.{entries-tell-sides}
use Rattle.library.specs.Library.{Result, stopped, written, WrittenCell, LibraryFile, library_file, file_bytes, library_entry_length, entries_in, fitting, write_library}
use Rattle.library.specs.Alone.{Alone}
use Rattle.library.specs.Sides.{LibraryTellsSides}
use Rattle.library.proofs.ResultLaws.{Whenever, check-whenever}
use Rattle.library.proofs.AloneLaws.{cells-alone}

abbrev pub CellsTell : Float → LibraryFile → Type 0
CellsTell d l = All (λ w. All (EntryTellsSide d) w.entries) l.cells

pub library-tells-sides : LibraryTellsSides
library-tells-sides policy d sheet l F e = go (cells-alone policy d sheet l e)
  where
    go : {ss : List (List ℕ)} {ws : List WrittenCell} → Each (Alone policy d) ss ws → All (λ w. All (EntryTellsSide d) w.entries) ws
    go W.done = done
    go (W.more a h) = more (entries-tell-sides policy d _ _ _ F a) (go h)

-- what is written where the buffers hold it is the same
pub written-tells : (policy : ℕ) (d : Float) (sheet : List ℕ) (out report : ℕ) → T (fits binary64 d) → Whenever (CellsTell d) (write_library policy d sheet out report)
unfolding write_library fitting
written-tells policy d sheet out report F = go (library_file policy d sheet) (λ l e. library-tells-sides policy d sheet l F e)
  where
    go : (x : Result LibraryFile) → ((l : LibraryFile) → x ≡ written l → CellsTell d l) → Whenever (CellsTell d) (fitting out report x)
    go (stopped r c k) h = tt
    go (written l) h = check-whenever (CellsTell d) (leb (length (file_bytes l)) out) _ _ (λ m. check-whenever (CellsTell d) (leb (library_entry_length * entries_in l.cells) report) _ _ (λ n. h l refl))
