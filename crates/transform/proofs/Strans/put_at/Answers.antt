-- The records that are there, in turn. Assumes nothing.
use mathlib.Core.Path.{sym, ◌∙◌}
use Rattle.transform.proofs.StransLaws.{strans-placed, strans-gone}
use Rattle.transform.proofs.Strans.put_at.Goals as goal

pub returns-then-is_there : goal.returns-then-is_there
returns-then-is_there c =
    strans-placed c.args.self c.strans_bits.result (sym c.is_there.ensures ∙ c.if-is_there.true) c.strans_bits.ensures
    c.put_word_at-a1.ensures c.put_opt_real_at-a2.ensures c.put_opt_real_at.ensures

pub returns : goal.returns
returns c = strans-gone c.args.self (sym c.is_there.ensures ∙ c.if-is_there.false) c.requires
