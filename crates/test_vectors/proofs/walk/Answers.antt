-- `test_vectors::walk` meets its contract. Assumes nothing.
use mathlib.Core.Path.{sym, ap₂}
use Prim.Native.Nat.{ℕ}
use native.Mathlib.Omega.{arith}
use Rattle.test_vectors.proofs.CaseLaws.{next-within, reached-start, reached-turn, reached-end}
use Rattle.test_vectors.proofs.walk.Goals as goal

pub loop-at-init : goal.loop-at-init
loop-at-init c = reached-start c.args.cases.now

pub loop-at-smaller : goal.loop-at-smaller
loop-at-smaller c =
    let o = next-within c.args.cases.now c.loop-at.at c.loop-at-test.true in
    let e = c.next_place-at.ensures in
    omega arith

pub loop-at-preserved : goal.loop-at-preserved
loop-at-preserved c =
    let l = c.loop-at in
    reached-turn _ l.at l.count l.found _ _ _ l.invariant c.loop-at-test.true (sym c.agrees.ensures) c.next_place-at.ensures c.tell_case-found.ensures

pub returns : goal.returns
returns c =
    let r = reached-end c.args.cases.now c.loop-at.at c.loop-at.count c.loop-at.found c.loop-at.invariant c.loop-at-test.false in
    ap₂ (λ (n m : ℕ). record { cases = n; differ = m }) r.0 r.1
