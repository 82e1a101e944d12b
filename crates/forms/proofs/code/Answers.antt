-- `forms::code` meets its contract.
-- Assumes nothing.
use Rattle.forms.proofs.Step.{code_at}
use Rattle.forms.proofs.code.Goals as goal

pub returns : goal.returns
returns c =
    rw c.u8_at.ensures (code_at c.args.most c.args.b.now c.args.at c.requires)
