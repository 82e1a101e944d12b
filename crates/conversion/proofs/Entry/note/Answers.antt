-- `Entry::note` meets its contract: the first deviation as the representative, and otherwise `add`. Assumes nothing.
use mathlib.Core.Path.{refl, ◌∙◌}
use Rattle.conversion.proofs.FoldLaws.{noted-first, noted_more}
use Rattle.conversion.proofs.Entry.note.Goals as goal

pub returns-then-self-eq0 : goal.returns-then-self-eq0
returns-then-self-eq0 c =
    let a = c.args in
    c.of.ensures ∙ noted-first a.self a.v _ refl c.if-self-eq0.true

pub returns : goal.returns
returns c =
    let a = c.args in
    c.add.ensures ∙ noted_more a.self a.v c.if-self-eq0.false
