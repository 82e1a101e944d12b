-- The numbers are zero if the `n - i` that are left are. Assumes nothing.
use mathlib.Core.Path.{◌≡◌}
use Prim.Native.Nat.{◌+◌, ◌*◌, ◌-◌}
use Rattle.cell.specs.Stamps.{all_zero}
use Rattle.block_places.specs.code.Place.{words_from}
use Rattle.validation.proofs.all_zero.Given as goal

abbrev pub invariant-loop-i : goal.invariant-loop-i
invariant-loop-i l = all_zero (words_from l.n l.b l.from) ≡ all_zero (words_from (l.n - l.i) l.b (l.from + 2 * l.i))
