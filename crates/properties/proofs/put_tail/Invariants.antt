-- What is left to write stands at the place reached, after the properties that are there, and succeeds. Assumes nothing.
use mathlib.Core.Path.{◌≡◌}
use mathlib.Core.List.{List}
use Prim.Native.Nat.{ℕ, ◌+◌, ◌-◌, ◌≤◌}
use lib.ListN.{length}
use Rattle.conversion.specs.declared.Entry.{Entry}
use Rattle.conversion.specs.code.Fold.{run}
use Rattle.cell.specs.Write.{write_properties}
use Rattle.block_places.specs.code.Place.{place_from, property_end, properties_from}
use Rattle.steps.specs.code.Steps.{Succeeds}
use Rattle.steps.proofs.StepLaws.{Outcome, stopped, putting}
use Rattle.properties.specs.code.Tail.{tail_bytes, tail_length}
use Rattle.properties.proofs.put_tail.Given as goal

pub record Inv (b : List ℕ) (from n : ℕ) (out₀ : List ℕ) (start : ℕ) (entry : Entry) (out : List ℕ) (i at to : ℕ) : Type 0 where
  pub place : place_from property_end (n - i) b at ≤ length b
  pub accepted : Succeeds (write_properties (properties_from (n - i) b at))
  pub long : length out ≡ length out₀
  pub room : to + tail_length (n - i) b at ≤ length out₀
  pub rest : ◌≡◌ {A = Outcome} (run stopped entry (write_properties (properties_from n b from)) (putting tail_bytes start out₀))
      (run stopped entry (write_properties (properties_from (n - i) b at)) (putting tail_bytes to out))

abbrev pub invariant-loop : goal.invariant-loop
invariant-loop l = Inv l.b l.initial.at l.end l.initial.out l.start l.entry l.out l.counter l.at l.to
