-- `binary64::ordered_bits` meets its contract. Assumes nothing.
use Prim.Native.Nat.{◌^◌}
use borrow.Author.Tests.{le-leb, lt-leb}
use Rattle.binary64.specs.Step.{ordered_bits}
use Rattle.binary64.proofs.ordered_bits.Goals as goal

pub returns-then-bits-ge-SIGN : goal.returns-then-bits-ge-SIGN
unfolding ordered_bits
returns-then-bits-ge-SIGN c = rw (le-leb (2 ^ 63) c.args.bits c.if-bits-ge-SIGN.true)

pub returns-else-bits-ge-SIGN : goal.returns-else-bits-ge-SIGN
unfolding ordered_bits
returns-else-bits-ge-SIGN c = rw (lt-leb (2 ^ 63) c.args.bits c.if-bits-ge-SIGN.false)
