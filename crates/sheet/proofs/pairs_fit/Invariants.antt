use Prim.Native.Nat.{ℕ, ◌-◌, ◌≤◌}
use mathlib.Core.Path.{◌≡◌}
use mathlib.Core.List.{List}
use lib.ListN.{length}
use Rattle.sheet.specs.Blocks.{chained, pairs_fit}
use Rattle.sheet.proofs.pairs_fit.Given as goal

pub record Inv (s : List ℕ) (n k end : ℕ) : Type 0 where
  pub ends : end ≤ length s
  pub rest : pairs_fit s ≡ chained (n - k) k end s

abbrev pub invariant-loop-k : goal.invariant-loop-k
invariant-loop-k l = Inv l.sheet l.n l.k l.end
