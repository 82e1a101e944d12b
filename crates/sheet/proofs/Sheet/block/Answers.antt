use mathlib.Core.Path.{refl}
use Rattle.sheet.proofs.CountLaws.{block_in}
use Rattle.sheet.proofs.Sheet.block.Goals as goal

pub block-requires : goal.block-requires
block-requires c = block_in c.self.inside.bytes.now _ c.args.k c.self.invariant refl (rw c.self.view_is c.requires)
