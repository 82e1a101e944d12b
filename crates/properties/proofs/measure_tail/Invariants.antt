-- What is left to measure comes on top of what was counted, after the properties that are there. Assumes nothing.
use mathlib.Core.Path.{◌≡◌}
use mathlib.Core.List.{List}
use Prim.Native.Nat.{ℕ, ◌+◌, ◌-◌, ◌*◌, ◌≤◌}
use lib.ListN.{length}
use Rattle.std.proofs.Common.{Result, Err}
use Rattle.refusal.specs.declared.Refusal.{Refusal}
use Rattle.conversion.specs.declared.Entry.{Entry}
use Rattle.conversion.specs.code.Fold.{run}
use Rattle.cell.specs.Write.{write_properties}
use Rattle.block_places.specs.code.Place.{place_from, property_end, properties_from}
use Rattle.steps.specs.declared.Measured.{Measured}
use Rattle.steps.specs.code.Steps.{sizing}
use Rattle.properties.specs.code.Tail.{tail_bytes}
use Rattle.properties.proofs.TailLaws.{counting}
use Rattle.properties.proofs.measure_tail.Given as goal

pub record Inv (b : List ℕ) (from n : ℕ) (entry : Entry) (i at size : ℕ) : Type 0 where
  pub place : place_from property_end (n - i) b at ≤ length b
  pub small : size + 3 * from ≤ 3 * at
  pub rest : ◌≡◌ {A = Result Measured Refusal} (run Err entry (write_properties (properties_from n b from)) (sizing tail_bytes))
      (run Err entry (write_properties (properties_from (n - i) b at)) (counting size))

abbrev pub invariant-loop : goal.invariant-loop
invariant-loop l = Inv l.b l.initial.at l.end l.entry l.counter l.at l.size
