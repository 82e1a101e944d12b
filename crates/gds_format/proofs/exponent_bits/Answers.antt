-- `gds_format::exponent_bits` meets its contract. Assumes nothing.
use Rattle.std.proofs.Common.{arith}
use Rattle.std.proofs.lemmas.Int.{to_z-of_z}
use Rattle.gds_format.proofs.FloorDivision.{div_euclid-is}
use Rattle.gds_format.proofs.exponent_bits.Goals as goal

pub returns : goal.returns
returns c = grind (arith, to_z-of_z, div_euclid-is)
