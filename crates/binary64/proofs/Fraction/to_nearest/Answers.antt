-- `binary64::Fraction::to_nearest` meets its contract, by `nearest-places`. Assumes nothing.
use mathlib.Core.Path.{ap, ◌∙◌}
use Prim.Native.Nat.{ℕ, ◌+◌, ◌-◌, ◌/◌, ◌^◌}
use native.Mathlib.Omega.{arith}
use Rattle.binary64.proofs.Powers.{one_shifted}
use Rattle.binary64.proofs.WholeLaws.{nearest-places}
use Rattle.binary64.proofs.Fraction.to_nearest.Goals as goal

pub returns : goal.returns
returns c =
    let f = c.args.self in
    ap (λ (z : ℕ). (f.digits + z) / 2 ^ c.places-n.result) (one_shifted (c.places-n.result - 1) (omega arith))
    ∙ ap (λ (n : ℕ). (f.digits + 2 ^ (n - 1)) / 2 ^ n) c.places-n.ensures
    ∙ nearest-places f.digits 53 f.power 1074 f.few f.below
