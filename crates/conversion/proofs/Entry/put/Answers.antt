-- `Entry::put` meets its contract: its first 13 bytes, and then three numbers. Assumes nothing.
use mathlib.Core.Path.{ap}
use mir.Val.{SFits, of_z}
use mir.Syntax.{w32}
use mir.ValLaws.{to_z-of_z}
use lib.IntN.{ℤ}
use Rattle.big_endian.specs.Big.{bytes_of}
use Rattle.big_endian.proofs.BufferLaws.{then_at, same_bytes}
use Rattle.conversion.specs.Entry.{entry_bytes}
use borrow.Author.Rules.{rules}
use Rattle.conversion.proofs.Entry.put.Goals as goal

pub returns : goal.returns
unfolding entry_bytes
returns c =
    let signed : SFits w32 c.args.self.database = search rules in
    then_at
    (then_at
    (then_at c.put_place-a.ensures (same_bytes (ap (bytes_of 8) c.to_bits.ensures) c.put_u64_at-b.ensures))
    (same_bytes (ap (λ (z : ℤ). bytes_of 4 (of_z w32 z)) (to_z-of_z w32 c.args.self.database signed)) c.put_i32_at-c.ensures))
    (same_bytes (ap (bytes_of 8) c.to_bits-2.ensures) c.put_u64_at.ensures)
