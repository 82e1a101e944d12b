-- `conversion::ranged` meets its contract: what 32 bits hold is what the definition has in range. Assumes nothing.
use Rattle.std.proofs.Common.{rules}
use mir.Syntax.{w64}
use mir.ValLaws.{to_z-of_z}
use Rattle.conversion.proofs.GridLaws.{ranged-of}
use Rattle.conversion.proofs.ranged.Goals as goal

pub returns : goal.returns
returns c =
    let z = c.args.z in
    ranged-of _ z (to_z-of_z w64 z c.ranges.z) c.try_from.result c.try_from.ensures c.map_err.result (search rules)
