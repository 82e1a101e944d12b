-- `normal` meets its contract, by the laws of `NormalLaws`. Assumes nothing.
use Prim.Native.Nat.{ℕ, ◌≤◌}
use native.Mathlib.Omega.{arith}
use lib.Count.{count_leading_zeros}
use Rattle.mul_add.specs.code.Places.{excess}
use Rattle.mul_add.proofs.LeadLaws.{Lead}
use Rattle.mul_add.proofs.NormalLaws.{normal, led, zeros-many}
use Rattle.mul_add.proofs.normal.Goals as goal

abbrev z : goal.Start → ℕ
z c = count_leading_zeros 64 c.args.m

leads : (c : goal.Start) → Lead c.args.m (z c)
leads c = led c.args.m c.requires.m_nonzero c.requires.m_bound

pub overflow_sub-z : goal.overflow_sub-z
overflow_sub-z c = go (z c) (zeros-many c.args.m c.requires.m_nonzero c.requires.m_bound)
  where
    go : (z : ℕ) → excess ≤ z → 1 ≤ z
    go z h = omega arith

pub returns : goal.returns
returns c = normal c.args.m c.requires.m_nonzero c.requires.m_bound c.args.power
