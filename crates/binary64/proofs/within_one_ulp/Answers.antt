-- `binary64::within_one_ulp` meets its contract. Assumes nothing.
use mathlib.Core.Path.{ap, ap₂, ◌∙◌}
use mathlib.Core.Bool.{◌&&◌}
use Prim.Native.Nat.{ℕ, ◌+◌}
use lib.Dec.{leb}
use Rattle.binary64.specs.Step.{ordered_bits, ordered, one_step}
use Rattle.binary64.proofs.within_one_ulp.Goals as goal

pub returns : goal.returns
unfolding one_step ordered
returns c =
    c.within_one.ensures
    ∙ ap₂ (λ (a b : ℕ). leb a (b + 1) && leb b (a + 1)) (c.ordered_bits.ensures ∙ ap ordered_bits c.to_bits.ensures) (c.ordered_bits-2.ensures ∙ ap ordered_bits c.to_bits-2.ensures)
