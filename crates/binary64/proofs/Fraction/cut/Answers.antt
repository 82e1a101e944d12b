-- `binary64::Fraction::cut` meets its contract, by `cut-places`. Assumes nothing.
use mathlib.Core.Path.{ap, ◌∙◌}
use Prim.Native.Nat.{ℕ, ◌/◌, ◌^◌}
use Rattle.binary64.proofs.WholeLaws.{cut-places}
use Rattle.binary64.proofs.Fraction.cut.Goals as goal

pub returns : goal.returns
returns c =
    let f = c.args.self in
    ap (λ (n : ℕ). f.digits / 2 ^ n) c.places.ensures ∙ cut-places f.digits 53 f.power 1074 f.few f.below
