-- Each record and step is refused by its number, or by none. Computed. Assumes nothing.
use mathlib.Core.Path.{◌≡◌, refl}
use mathlib.Core.Option.{Option}
use mathlib.Core.List.{List, [], ◌∷◌}
use Prim.Native.Nat.{ℕ}
use Rattle.refusal.specs.Number.{number}
use Rattle.stream.specs.Read.{map_option}
use Rattle.cases.specs.Limits.{Row, repeated, rows}
use Rattle.cases.proofs.Open.{opened}

abbrev pub found : List Row → List (Option ℕ)
found [] = []
found (r ∷ rs) = map_option number r.found ∷ found rs

abbrev pub known : List Row → List (Option ℕ)
known [] = []
known (r ∷ rs) = r.number ∷ known rs

pub limits-pass : found rows ≡ known rows
unfolding opened repeated rows
limits-pass = refl
