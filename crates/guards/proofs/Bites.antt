-- Each clause of cell/specs/Draws bites: no edit of `wrong` draws the sheet's cell, and every edit of `alike` does. Computed. Assumes nothing.
use mathlib.Core.Path.{◌≡◌, refl}
use mathlib.Core.Bool.{Bool, ◌&&◌}
use mathlib.Core.Option.{some}
use mathlib.Core.List.{List}
use Prim.Native.Nat.{ℕ}
use lib.Dec.{T}
use Rattle.parsing.specs.All.{All}
use Rattle.conversion.specs.declared.GdsRoundingPolicy.TheVariants.{Nearest}
use Rattle.conversion.specs.Policy.{policy_of}
use Rattle.sheet.specs.Cell.{Cell, cell_of}
use Rattle.stream.specs.Read.{structure_of}
use Rattle.cell.specs.Draws.{Draws}
use Rattle.cases.specs.Case.{halved}
use Rattle.cases.proofs.Open.{opened}
use Rattle.guards.specs.Told.{all_bytes, told_of}
use Rattle.guards.specs.Sample.{sheet, records}
use Rattle.guards.specs.Values.{one, cell}
use Rattle.guards.specs.Edits.{asked, edit, wrong, alike}
use Rattle.guards.proofs.DecidedLaws.{drawing, all_draw, all_differ, drawn, refused}

-- ---- the sheet is read once

pub sheet-holds : cell_of sheet ≡ some cell
unfolding opened halved sheet cell
sheet-holds = refl

nearest : policy_of 0 ≡ some Nearest
unfolding opened
nearest = refl

unfoldable pub quick : Cell → List ℕ → Bool
quick c b = all_bytes b && told_of one (some Nearest) (some c) (structure_of b)

pub same : (s : List ℕ) (c : Cell) → cell_of s ≡ some c → (b : List ℕ) → quick c b ≡ drawing (asked s b)
unfolding quick
same s c h b = rw (nearest, h)

-- ---- the tables

wrong-differ : T (all_differ (asked sheet) (quick cell) wrong)
unfolding opened halved records cell quick edit wrong all_differ
wrong-differ = tt

pub wrong-refused : All (λ b. Draws 0 one sheet b → ⊥) wrong
wrong-refused = refused (asked sheet) (quick cell) (same sheet cell sheet-holds) wrong wrong-differ

alike-draw : T (all_draw (quick cell) alike)
unfolding opened halved records cell quick edit alike all_draw
alike-draw = tt

pub alike-drawn : All (λ b. Draws 0 one sheet b) alike
alike-drawn = drawn (asked sheet) (quick cell) (same sheet cell sheet-holds) alike alike-draw
