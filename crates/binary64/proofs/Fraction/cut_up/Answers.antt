-- `binary64::Fraction::cut_up` meets its contract, by `up-places`. Assumes nothing.
use mathlib.Core.Path.{ap, ◌∙◌}
use Prim.Native.Nat.{ℕ, ◌+◌, ◌-◌, ◌/◌, ◌^◌}
use native.Mathlib.Omega.{arith}
use Rattle.binary64.proofs.Powers.{one_shifted}
use Rattle.binary64.proofs.WholeLaws.{up-places}
use Rattle.binary64.proofs.Fraction.cut_up.Goals as goal

pub returns : goal.returns
returns c =
    let f = c.args.self in
    ap (λ (z : ℕ). (f.digits + z - 1) / 2 ^ c.places-n.result) (one_shifted c.places-n.result (omega arith))
    ∙ ap (λ (n : ℕ). (f.digits + 2 ^ n - 1) / 2 ^ n) c.places-n.ensures
    ∙ up-places f.digits 53 f.power 1074 f.few f.below
