-- The attribute, then the value from its part of the block. Assumes nothing.
use mathlib.Core.Path.{ap}
use mathlib.Core.List.{List}
use Prim.Native.Nat.{ℕ}
use lib.ListN.{length}
use native.Mathlib.Omega.{arith}
use Rattle.properties.proofs.TailLaws.{value_long, value-recorded, property-placed}
use Rattle.properties.proofs.put_property_at.Goals as goal

pub put_string_at-requires : goal.put_string_at-requires
put_string_at-requires c =
    let long = value_long c.args.b.now c.args.at c.requires.value_in_bounds in
    let put = c.put_word_at-a.ensures in
    let same = ap (λ (s : List ℕ). length s) c.string_at-value.ensures in
    record { s_len_bound = omega (arith, long, same); s_in_bounds = omega (arith, long, same, put.long, put.end) }

-- what was written is the value that was read
pub returns : goal.returns
returns c =
    let word = rw c.u16_at-attribute.ensures at c.put_word_at-a.ensures in
    property-placed c.args.b.now c.args.at c.requires.value_in_bounds word (value-recorded c.string_at-value.ensures c.put_string_at.ensures)
