-- `Entry::add` meets its contract: the entry with the new representative where its magnitude is larger, and otherwise with one deviation more. Assumes nothing.
use mathlib.Core.Path.{◌≡◌, refl, sym, ap₂, ◌∙◌}
use lib.Ieee.{lt}
use Rattle.binary64.specs.Value.{abs}
use Rattle.conversion.proofs.FoldLaws.{larger, smaller}
use Rattle.conversion.proofs.Entry.add.Goals as goal

pub returns-then-held-new : goal.returns-then-held-new
returns-then-held-new c =
    let magnitudes : lt c.abs-held.result c.abs-new.result ≡ lt (abs c.args.self.error) (abs c.args.v.error) = ap₂ lt c.abs-held.ensures c.abs-new.ensures in
    let a = c.args in
    c.of.ensures ∙ larger a.self a.v _ refl (sym magnitudes ∙ c.if-held-new.true)

pub returns : goal.returns
returns c =
    let magnitudes : lt c.abs-held.result c.abs-new.result ≡ lt (abs c.args.self.error) (abs c.args.v.error) = ap₂ lt c.abs-held.ensures c.abs-new.ensures in
    let a = c.args in
    smaller a.self a.v (sym magnitudes ∙ c.if-held-new.false)
