use native.Mathlib.Omega.{arith}
use Rattle.sheet.proofs.CountLaws.{pairs-count}
use Rattle.sheet.proofs.Sheet.count.Goals as goal

pub u32_at-requires : goal.u32_at-requires
u32_at-requires c = (pairs-count c.self.inside.bytes.now c.self.invariant).word

pub returns-clause-least : goal.returns-clause-least
returns-clause-least c = omega (arith, (pairs-count c.self.inside.bytes.now c.self.invariant).least)

pub returns-clause-most : goal.returns-clause-most
returns-clause-most c = omega (arith, (pairs-count c.self.inside.bytes.now c.self.invariant).most)
