-- A name's bytes. Assumes nothing.
use mathlib.Core.Path.{◌≡◌, refl, ap}
use mathlib.Core.Bool.{Bool, ◌&&◌}
use mathlib.Core.List.{List, [], ◌∷◌}
use Prim.Native.Nat.{ℕ}
use Rattle.std.specs.List.{list_all}
use Rattle.cell.specs.Names.{name_byte, name_bytes}

-- each of them
pub all-name_bytes : (s : List ℕ) → list_all name_byte s ≡ name_bytes s
all-name_bytes [] = refl
all-name_bytes (b ∷ s) = ap (λ (t : Bool). name_byte b && t) (all-name_bytes s)
