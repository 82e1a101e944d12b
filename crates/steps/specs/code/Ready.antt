-- What code answers that makes all checks and conversions of a step before it writes the first byte. Assumes nothing.
use Rattle.std.specs.Prelude.{Result, Ok, Err}
use Rattle.refusal.specs.declared.Refusal.{Refusal}
use Rattle.conversion.specs.declared.Entry.{Entry}

-- a refusal; or the step's value, and the entry after it
pub data Ready (A : Type 0) : Type 0 where
  stopped : Refusal → Ready A
  ready : A → Entry → Ready A

-- of code's values and the entry with them, the value that they stand for
abbrev pub ready_by : {V A : Type 0} → (V → A) → (V → Entry) → Result V Refusal → Ready A
ready_by value entry (Err r) = stopped r
ready_by value entry (Ok v) = ready (value v) (entry v)
