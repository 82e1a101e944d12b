-- The record, or nothing. Assumes nothing.
use Prim.Native.Nat.{◌≤◌}
use native.Mathlib.Omega.{arith}
use lib.ListN.{length}
use Rattle.records.specs.code.Bytes.{opt_bytes}
use Rattle.records.proofs.RecordLaws.{opt-missing}
use Rattle.records.proofs.put_opt_at.Goals as goal

pub returns-in-None : goal.returns-in-None
unfolding opt_bytes
returns-in-None g c = let h : c.args.at ≤ length c.args.out.now = omega arith in rw c.in-None.is (opt-missing h)

pub returns-in-Some : goal.returns-in-Some
unfolding opt_bytes
returns-in-Some g c = rw c.in-Some.is c.put_number_at.ensures
