-- `block_places::unit_at` meets its contract where it reads an integer. Assumes nothing.
use native.Mathlib.Omega.{arith}
use Prim.Native.Nat.{◌%◌}
use Rattle.block_places.proofs.UnitLaws.{back, lower-four}
use Rattle.block_places.specs.code.Place.{unit_at}
use Rattle.block_places.proofs.unit_at.Goals as goal

pub returns-then-u8_at-eq-INTEGER : goal.returns-then-u8_at-eq-INTEGER
unfolding unit_at
returns-then-u8_at-eq-INTEGER c =
    let b = c.args.b.now in
    let l = lower-four b c.args.at c.requires (λ i. (c.type_inv.b i).fits) in
    let value = back (c.u64_at-raw.result % 4294967296) (omega arith) in
    rw (← c.u8_at.ensures, c.if-u8_at-eq-INTEGER.true, c.double-units.ensures, c.as_i32-value.ensures, value, c.u64_at-raw.ensures, l)
