-- A copy into the part from the place on. Assumes nothing.
use mathlib.Core.List.{◌++◌}
use Prim.Native.Nat.{◌+◌}
use native.Mathlib.Omega.{arith}
use lib.ListN.{length, take}
use borrow.Rule.Slice.PartMut.{Post-is}
use Rattle.big_endian.specs.Buffer.{splice}
use Rattle.big_endian.proofs.put_bytes_at.Goals as goal

pub returns : goal.returns
unfolding splice
returns c =
    let at = c.args.at in
    let d = c.args.out.now in
    let after = Post-is at (at + length c.args.s.now) d (omega arith) in
    record {
      count = omega arith;
      fits = c.requires;
      out = (λ i. take at d ++ (c.copy_from_slice.ensures.after i ++ after i));
    }
