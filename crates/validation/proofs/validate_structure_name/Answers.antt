-- `validate_structure_name` meets its contract: the length, then each byte. Assumes nothing.
use Rattle.std.proofs.Common.{rules, tests}
use Rattle.std.proofs.lemmas.Iterator.{YieldsList-from_slice}
use Rattle.std.proofs.lemmas.Iterator.Search.{all_from_yields_List}
use Rattle.cell.specs.Names.{name_byte, is_name}
use Rattle.validation.proofs.NameLaws.{all-name_bytes}
use Rattle.validation.proofs.validate_structure_name.Goals as goal

pub returns-then-within : goal.returns-then-within
unfolding is_name
returns-then-within c =
    let s = c.args.s.now in
    let each = all_from_yields_List name_byte _ _ c.all.result c.all.ensures.ran (YieldsList-from_slice s cc) (λ x b q k. search (rules, tests)) in
    rw (← all-name_bytes s, ← c.within.ensures, c.if-within.true) each

pub returns-else-within : goal.returns-else-within
unfolding is_name
returns-else-within c = rw (← c.within.ensures, c.if-within.false)
