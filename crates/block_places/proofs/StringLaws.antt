-- A string at a place. Assumes nothing.
use mathlib.Core.Path.{◌≡◌}
use mathlib.Core.List.{List}
use Prim.Native.Nat.{ℕ, ◌≤◌}
use native.Mathlib.Omega.{arith}
use lib.ListN.{length, length-take, length-drop}
use Rattle.big_endian.specs.Big.{number_at}
use Rattle.block_places.specs.code.Place.{string_at, string_end}

-- a string that lies in the block is as long as its number says
pub length-string : (b : List ℕ) (at : ℕ) → string_end b at ≤ length b → length (string_at b at) ≡ number_at 2 b at
unfolding string_at
length-string b at h = simp (length-take, length-drop) (omega arith)
