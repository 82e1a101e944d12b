-- The entries that the library's writer leaves in the report tell their sides (document 02, requests 1 and 2). Assumes nothing.
use mathlib.Core.Path.{◌≡◌, sym, ap, ◌∙◌}
use mathlib.Core.List.{List}
use Prim.Native.Nat.{ℕ}
use native.Mathlib.Omega.{arith}
use lib.Dec.{T}
use lib.ListN.{length}
use lib.Ieee.{Float, binary64, fits}
use Rattle.parsing.specs.All.{All}
use Rattle.big_endian.specs.Buffer.{over}
use Rattle.refusal.specs.Number.{number}
use Rattle.refusal.proofs.NumberLaws.{number-above}
use Rattle.conversion.specs.Side.{EntryTellsSide}
use Rattle.library.specs.Library.{Result, stopped, written, WrittenCell, LibraryFile, report_from, entries_in, report_after}
use Rattle.library.specs.Answer.{answer_of, Values, values_of}
use Rattle.library.proofs.ResultLaws.{Whenever}
use Rattle.library.proofs.SideLaws.{CellsTell, written-tells}
use Rattle.write_library.specs.Writer.{defined, WritesLibrary}

-- the report is as before after the bytes of the cells' entries, each of which tells its side
pub record LeavesSides (d : Float) (v : Values) (report report' : List ℕ) : Type 0 where
  pub cells : List WrittenCell
  pub count : v.entries ≡ entries_in cells
  pub bytes : report' ≡ over (report_from 0 cells) report
  pub told : All (λ w. All (EntryTellsSide d) w.entries) cells

-- of whatever keeps the writer's promise: for every policy, unit, sheet and pair of buffers
pub writes-sides : {policy : ℕ} {d : Float} {sheet out report out' report' : List ℕ} {v : Values} → T (fits binary64 d)
    → WritesLibrary policy d sheet out report out' report' v → v.number ≡ 0 → LeavesSides d v report report'
writes-sides {policy} {d} {sheet} {out} {report} {out'} {report'} {v} F w z =
    go (defined policy d sheet out report) (written-tells policy d sheet (length out) (length report) F) w.answer w.entries
  where
    go : (x : Result LibraryFile) → Whenever (CellsTell d) x → v ≡ values_of (answer_of x) → report' ≡ report_after x report → LeavesSides d v report report'
    go (stopped r c k) h a b = let n : number r ≡ 0 = sym (ap (λ (u : Values). u.number) a) ∙ z in let l = number-above r in absurd (omega arith)
    go (written l) h a b = record { cells = l.cells; count = ap (λ (u : Values). u.entries) a; bytes = b; told = h }
