-- A library's refusal is the first in the order, with its cell and block. Computed. Assumes nothing.
use mathlib.Core.Path.{◌≡◌, refl}
use mathlib.Core.List.{List, [], ◌∷◌}
use Prim.Native.Nat.{ℕ}
use Rattle.library.specs.Library.{write_library}
use Rattle.library.specs.Answer.{Values, answer_of, values_of}
use Rattle.cases.specs.Case.{halved}
use Rattle.cases.proofs.Open.{opened}
use Rattle.guards.specs.Question.{bits}
use Rattle.library_guards.specs.Orders.{Row, outsides, insides, ends}

-- number, cell, block, length and entries
numbers : Values → List ℕ
numbers v = v.number ∷ v.cell ∷ v.block ∷ v.length ∷ v.entries ∷ []

pub answers : List Row → List (List ℕ)
unfolding numbers
answers [] = []
answers (r ∷ rs) = numbers (values_of (answer_of (write_library r.policy (bits r.unit) r.sheet r.out r.report))) ∷ answers rs

pub known : List Row → List (List ℕ)
known [] = []
known (r ∷ rs) = (r.number ∷ r.cell ∷ r.block ∷ r.length ∷ r.entries ∷ []) ∷ known rs

pub outsides-hold : answers outsides ≡ known outsides
unfolding opened halved outsides answers known numbers
outsides-hold = refl

pub insides-hold : answers insides ≡ known insides
unfolding opened halved insides answers known numbers
insides-hold = refl

pub ends-hold : answers ends ≡ known ends
unfolding opened halved ends answers known numbers
ends-hold = refl
