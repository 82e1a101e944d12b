-- What the writer's definition gives of the sheet of specs/Files: the file that the tables edit, and both buffers afterwards. Computed. Assumes nothing.
use mathlib.Core.Path.{◌≡◌, refl}
use mathlib.Core.List.{List, ◌++◌}
use Prim.Native.Nat.{ℕ}
use lib.ListN.{length, take}
use Rattle.library.specs.Library.{write_library, out_after, report_after}
use Rattle.library.specs.Answer.{accepted, answer_of}
use Rattle.cases.specs.Case.{halved}
use Rattle.cases.proofs.Open.{opened}
use Rattle.guards.specs.Question.{x, bits}
use Rattle.guards.specs.Sample.{flat}
use Rattle.guards.specs.Values.{one}
use Rattle.library_guards.specs.Files.{sheet_a, sheet_b, sheet, records}

-- ---- into buffers of two bytes more than it needs

pub out : List ℕ
out = x 176 0xeeee

pub report : List ℕ
report = x 39 0xeeee

-- 174 bytes, and one entry, of an error of 1/2: the node's 2.5
pub answer : answer_of (write_library 0 one sheet (length out) (length report)) ≡ accepted 174 1 (bits 0x3fe0000000000000)
unfolding opened halved sheet_a sheet_b sheet out report
answer = refl

pub file-written : take 174 (out_after (write_library 0 one sheet (length out) (length report)) out) ≡ flat records
unfolding opened halved sheet_a sheet_b sheet records out report
file-written = refl

-- bytes after the file and after the entries stay
pub out-after : out_after (write_library 0 one sheet (length out) (length report)) out ≡ flat records ++ x 2 0xeeee
unfolding opened halved sheet_a sheet_b sheet records out report
out-after = refl

pub report-after : report_after (write_library 0 one sheet (length out) (length report)) report ≡ x 4 0 ++ x 33 0x000000000400000000000000014004000000000000000000033fe0000000000000 ++ x 2 0xeeee
unfolding opened halved sheet_a sheet_b sheet out report
report-after = refl

-- ---- where a buffer is a byte short, both stay

pub out_stays : out_after (write_library 0 one sheet 174 36) (x 174 0xeeee) ≡ x 174 0xeeee
unfolding opened halved sheet_a sheet_b sheet
out_stays = refl

pub report-stays : report_after (write_library 0 one sheet 173 37) (x 37 0xeeee) ≡ x 37 0xeeee
unfolding opened halved sheet_a sheet_b sheet
report-stays = refl
