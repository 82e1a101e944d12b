-- What a reader with limits accepts, the grammar alone reads alike. Assumes nothing.
use mathlib.Core.Path.{◌≡◌, ap, subst}
use mathlib.Core.Bool.{true}
use mathlib.Core.Option.{Option, none, some}
use mathlib.Core.List.{List, [], append-nil}
use Prim.Native.Nat.{ℕ}
use native.Mathlib.Omega.{arith}
use lib.Dec.{T}
use Rattle.refusal.specs.declared.Refusal.{Refusal}
use Rattle.parsing.specs.Parse.{Part, given, accepted}
use Rattle.stream.specs.Record.{Rec, run_of}
use Rattle.stream.specs.Structure.{Structure}
use Rattle.stream.specs.Read.{Fault, Stop, Limits, unlimited, structure, closed, read_structure, structure_of}
use Rattle.stream.proofs.BesideLaws.{Beside, excused, fault, value, SideBySide, Looser, alike, looser, Excused, by-structure}

-- every refusal is excused
abbrev Any : Fault → Type 0
Any c = T true

free : (o : Option Refusal) → Looser Any o none
free none = alike
free (some r) = looser tt

module _ (limits : Limits) where
  lax : SideBySide (Excused Any) (structure limits) (structure unlimited)
  lax = by-structure limits unlimited Any tt (λ kind i r. free (limits.admit kind i r)) (λ z. free (limits.step z))

  closes : (rest : List ℕ) (x y : Part Stop Rec Structure) (s : Structure) → Beside (Excused Any) [] x y → closed rest x ≡ given s → closed rest y ≡ given s
  closes rest _ y s (excused w) e = let z : ◌≡◌ {A = ℕ} 0 1 = cc in absurd (omega arith)
  closes rest _ _ s fault e = e
  closes rest _ _ s (value {a} {r}) e = rw (append-nil r) e

  pub lenient : (bytes : List ℕ) (s : Structure) → read_structure limits bytes ≡ given s → structure_of bytes ≡ some s
  unfolding structure_of read_structure
  lenient bytes s e = ap accepted (closes (run_of bytes).rest _ _ s (subst (λ (rs : List Rec). Beside (Excused Any) [] (structure limits (run_of bytes).records) (structure unlimited rs)) (append-nil (run_of bytes).records) (lax.beside (run_of bytes).records [])) e)
