use native.Mathlib.Nat.{add-sub_cancel_left}
use Rattle.sheet.specs.Blocks.{block_of}
use Rattle.sheet.proofs.block.Goals as goal

pub returns : goal.returns
unfolding block_of
returns c = simp (add-sub_cancel_left, ← c.u32_at-length.ensures, ← c.u32_at-offset.ensures)
