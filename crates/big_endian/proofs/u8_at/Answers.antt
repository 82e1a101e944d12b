use native.Mathlib.Omega.{arith}
use Rattle.big_endian.proofs.PlaceLaws.{number-one}
use Rattle.big_endian.proofs.u8_at.Goals as goal

pub returns : goal.returns
returns c = omega (arith, number-one c.args.s.now c.args.at c.requires)
