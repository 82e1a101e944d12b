-- `points::put_passing` meets its contract: the points so far pass, and their bytes stand in the output. Assumes nothing.
use lib.ListN.{length}
use mathlib.Core.Path.{◌≡◌}
use mathlib.Core.List.{List}
use Prim.Native.Nat.{ℕ, ◌+◌, ◌*◌, ◌≤◌}
use lib.Ieee.{Float}
use Rattle.std.specs.Iterator.Adapters.{enumerate_count}
use Rattle.big_endian.specs.Buffer.{WroteAt}
use Rattle.stream.specs.Records.{points_bytes}
use Rattle.points.specs.code.Integers.{count_of, integers_from, AllPass}
use Rattle.points.proofs.ChunkLaws.{Reached}
use Rattle.points.proofs.put_passing.Given as goal

pub record Inv (d : Float) (s out₀ : List ℕ) (start : ℕ) (out : List ℕ) (i to : ℕ) : Type 0 where
  pub within : i ≤ count_of s
  pub place : to ≡ start + 8 * i
  pub long : length out ≡ length out₀
  pub pass : AllPass d s i 0
  pub wrote : WroteAt (points_bytes (integers_from i s 0)) out₀ out start to

abbrev pub invariant-loop-i : goal.invariant-loop-i
invariant-loop-i l =
    (goal.iterator-loop-i).can_next l.i-iterator × (goal.iterator-loop-i).is_finite l.i-iterator
    × Reached l.list l.i-iterator × Inv l.d l.list l.initial.out l.start l.out (enumerate_count l.i-iterator) l.to
