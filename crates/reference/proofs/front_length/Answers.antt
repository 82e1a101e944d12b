-- `reference::front_length` meets its contract. Assumes nothing.
use native.Mathlib.Omega.{arith}
use Rattle.transform.proofs.StransLaws.{strans-short}
use borrow.Author.Rules.{rules}
use Rattle.reference.proofs.front_length.Goals as goal

pub overflow_add-result-3 : goal.overflow_add-result-3
overflow_add-result-3 c =
    let k = strans-short c.args.strans in
    let e = c.length.ensures in
    search rules

pub returns : goal.returns
returns c =
    let k = strans-short c.args.strans in
    let e = c.length.ensures in
    let n = c.u16_at-n.ensures in
    record { value = omega arith; upper_bound = omega arith }
