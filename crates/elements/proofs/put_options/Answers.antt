-- `elements::put_options` meets its contract: the first record, then the records of the options. Assumes nothing.
use Rattle.elements.proofs.OptionLaws.{mapped-by, options-put}
use mir.Val.{to_z}
use mir.Syntax.{w32}
use borrow.Author.Rules.{rules}
use native.Mathlib.Omega.{arith}
use Rattle.elements.proofs.put_options.Goals as goal

pub returns : goal.returns
returns c =
    let h = c.requires.options_in_bounds in
    let e = c.options_length.ensures in
    options-put c.args.options c.u32_at-first.result c.options_length.result (λ i. search rules) e.0 (omega arith) c.u32_at-first.ensures (mapped-by (to_z w32) _ c.map.result c.map.ensures.cases (λ a b p. search rules))
    c.put_u32_at-a.ensures c.put_opt_two_at-b.ensures c.put_opt_long_at.ensures
