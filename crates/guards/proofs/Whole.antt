-- Demand 3 as a whole, written out once more; and that the writer's structure of the sheet of specs/Sample, which draws it, is the one that the tables edit. Assumes nothing.
use mathlib.Core.Path.{◌≡◌, refl, subst}
use mathlib.Core.List.{List}
use Prim.Native.Nat.{ℕ, ◌<◌}
use lib.Dec.{T}
use lib.ListN.{length, take, get_or}
use lib.Ieee.{Float, binary64, fits}
use Rattle.cell.specs.Cell.{write_cell, out_after}
use Rattle.cell.specs.Answer.{accepted, answer_of}
use Rattle.cell.specs.Draws.{Draws}
use Rattle.cell.proofs.DrawsLaws.{demand3}
use Rattle.cases.specs.Case.{halved}
use Rattle.cases.proofs.Open.{opened}
use Rattle.guards.specs.Told.{all_bytes}
use Rattle.guards.specs.Question.{x, bits}
use Rattle.guards.specs.Sample.{sheet, records, flat}
use Rattle.guards.specs.Values.{one}
use Rattle.guards.proofs.DecidedLaws.{all-bytes}

pub demand : (policy : ℕ) (d : Float) (sheet out report : List ℕ) (n entries : ℕ) (greatest : Float) → T (fits binary64 d) → ((i : ℕ) → get_or sheet i 0 < 256)
    → answer_of (write_cell policy d sheet (length out) (length report)) ≡ accepted n entries greatest
    → Draws policy d sheet (take n (out_after (write_cell policy d sheet (length out) (length report)) out))
demand = demand3

-- what draws is bytes
pub bytes : (policy : ℕ) (d : Float) (sheet b : List ℕ) → Draws policy d sheet b → (i : ℕ) → get_or b i 0 < 256
bytes policy d sheet b h = h.bytewise

-- ---- the structure of the tables

sheet-bytes : T (all_bytes sheet)
unfolding opened halved sheet
sheet-bytes = tt

out : List ℕ
out = x 488 0

report : List ℕ
report = x 66 0

-- 488 bytes, and two entries: the node's 1.5, with the greatest error, 1/2, and the box's 5.25
answer : answer_of (write_cell 0 one sheet (length out) (length report)) ≡ accepted 488 2 (bits 0x3fe0000000000000)
unfolding opened halved sheet out report
answer = refl

written : take 488 (out_after (write_cell 0 one sheet (length out) (length report)) out) ≡ flat records
unfolding opened halved sheet records out report
written = refl

fitting : T (fits binary64 one)
unfolding opened fits
fitting = tt

pub drawn : Draws 0 one sheet (flat records)
drawn = subst (λ (b : List ℕ). Draws 0 one sheet b) written (demand 0 one sheet out report 488 2 (bits 0x3fe0000000000000) fitting (all-bytes sheet sheet-bytes) answer)
