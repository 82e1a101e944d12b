-- `gds_format::fraction` meets its contract: no bit of the digits is lost. Assumes nothing.
use mathlib.Core.Path.{◌≡◌, ap, ◌∙◌}
use Prim.Native.Nat.{ℕ, ◌+◌, ◌*◌, ◌^◌, ◌≤◌}
use lib.IntN.{nat_abs, pos, ◌-ℤ◌}
use lib.Pow.{shl_exact}
use mir.Syntax.{w32}
use mir.Val.{to_z, of_z}
use Rattle.std.proofs.Common.{arith}
use Rattle.std.proofs.lemmas.Int.{to_z-of_z}
use Rattle.gds_format.specs.Real8.{floor_mod}
use Rattle.gds_format.proofs.FloorDivision.{rem_euclid-is}
use Rattle.gds_format.proofs.fraction.Goals as goal

pub returns : goal.returns
returns c =
    let shift = nat_abs (to_z w32 (of_z w32 c.rem_euclid.result)) in
    let is : shift ≡ floor_mod (pos c.args.power -ℤ pos 1022) 4 = grind (arith, to_z-of_z, rem_euclid-is) in
    let room : 53 + shift ≤ 64 = grind (arith, to_z-of_z) in
    shl_exact 53 shift 64 c.requires.digits_bound room ∙ ap (λ (k : ℕ). c.args.digits * 2 ^ k) is
