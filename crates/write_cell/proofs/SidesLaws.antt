-- The entries that the writer leaves in the report tell their sides (document 02, request 2). Assumes nothing.
use mathlib.Core.Path.{◌≡◌, sym, ap, ◌∙◌}
use mathlib.Core.List.{List}
use Prim.Native.Nat.{ℕ}
use native.Mathlib.Omega.{arith}
use lib.Dec.{T}
use lib.ListN.{length}
use lib.Ieee.{Float, binary64, fits}
use Rattle.parsing.specs.All.{All}
use Rattle.big_endian.specs.Buffer.{over}
use Rattle.refusal.specs.Number.{number}
use Rattle.refusal.proofs.NumberLaws.{number-above}
use Rattle.conversion.specs.declared.Entry.{Entry}
use Rattle.conversion.specs.Entry.{report_bytes}
use Rattle.conversion.specs.Side.{EntryTellsSide}
use Rattle.stream.specs.Structure.{Structure}
use Rattle.cell.specs.Cell.{Result, stopped, written, report_after}
use Rattle.cell.specs.Answer.{answer_of, Values, values_of}
use Rattle.cell.proofs.SideLaws.{Reports, written-reports}
use Rattle.write_cell.specs.Writer.{defined, WritesCell}

-- the report is as before after the bytes of so many entries, each of which tells its side
pub record LeavesSides (d : Float) (v : Values) (report report' : List ℕ) : Type 0 where
  pub entries : List Entry
  pub count : v.entries ≡ length entries
  pub bytes : report' ≡ over (report_bytes entries) report
  pub told : All (EntryTellsSide d) entries

-- of whatever keeps the writer's promise: for every policy, unit, sheet and pair of buffers
pub writes-sides : {policy : ℕ} {d : Float} {sheet out report out' report' : List ℕ} {v : Values} → T (fits binary64 d)
    → WritesCell policy d sheet out report out' report' v → v.number ≡ 0 → LeavesSides d v report report'
writes-sides {policy} {d} {sheet} {out} {report} {out'} {report'} {v} F w z =
    go (defined policy d sheet out report) (written-reports policy d sheet (length out) (length report) F) w.answer w.entries
  where
    go : (x : Result Structure) → Reports (EntryTellsSide d) x → v ≡ values_of (answer_of x) → report' ≡ report_after x report → LeavesSides d v report report'
    go (stopped r k) h a b = let n : number r ≡ 0 = sym (ap (λ (u : Values). u.number) a) ∙ z in let l = number-above r in absurd (omega arith)
    go (written s es) h a b = record { entries = es; count = ap (λ (u : Values). u.entries) a; bytes = b; told = h }
