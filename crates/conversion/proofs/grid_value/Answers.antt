-- `conversion::grid_value` meets its contract: the size by the policy and by whether s is on the grid. Assumes nothing.
use mathlib.Core.Path.{◌≡◌, sym, ap, ◌∙◌, subst}
use mathlib.Core.Bool.{not}
use Prim.Native.Nat.{ℕ, ◌^◌, ◌<◌}
use native.Mathlib.Nat.{lt_of_le_of_lt, lt_trans}
use lib.Dec.{T, lit<}
use mir.Syntax.{w64}
use mir.ValLaws.{to_z-of_z}
use Rattle.binary64.specs.Value.{signed, round_away}
use Rattle.binary64.proofs.PartsLaws.{cut_fits}
use Rattle.conversion.specs.Convert.{ranged, grid_value}
use Rattle.conversion.proofs.SnapLaws.{nearest-small-enough}
use Rattle.conversion.proofs.GridLaws.{grid-nearest, grid-on, grid-off, grid-test, nearest-value, floor-value, ceil-value, grid-far}
use borrow.Author.Rules.{rules}
use Rattle.conversion.proofs.grid_value.Goals as goal
use Rattle.conversion.proofs.grid_value.Goals.{in_default, in-Floor, in-Ceil, in-Nearest, in-Nearest-2}

pub returns-then-power-ge-WHOLE : goal.returns-then-power-ge-WHOLE
returns-then-power-ge-WHOLE c =
    let u = c.unpack-u in
    grid-far c.args.s u.result.negative u.result.digits u.result.power u.ensures (subst T (sym c.well_formed.1.0.1) tt) c.requires c.if-power-ge-WHOLE.true c.args.policy

pub on_grid-requires : goal.on_grid-requires
on_grid-requires c =
    let u = c.unpack-u in
    record { s_finite = c.requires; n_bound = nearest-small-enough u.result.digits u.result.power c.size_toward-n.result u.ensures.digits c.if-power-ge-WHOLE.false c.size_toward-n.ensures }

pub returns-in-ErrorIfOffGrid : goal.returns-in-ErrorIfOffGrid
returns-in-ErrorIfOffGrid c =
    let u = c.unpack-u in
    grid-off c.args.policy c.args.s (search rules) (grid-test c.args.s u.result.negative u.result.digits u.result.power u.ensures c.size_toward-n.result c.size_toward-n.ensures _ (sym c.on_grid.ensures ∙ c.if-on_grid.false))

pub with_sign-requires : goal.with_sign-requires
with_sign-requires c =
    let u = c.unpack-u in
    let n = c.size_toward-n in
    let small : n.result < 2 ^ 63 = lt_trans (nearest-small-enough u.result.digits u.result.power n.result u.ensures.digits c.if-power-ge-WHOLE.false n.ensures) (lit< tt) in
    elim c.match-policy.branch [
      | in_default w ↦ subst (λ (k : ℕ). k < 2 ^ 63) (sym w.size-is) small
      | in-Floor w ↦ subst (λ (k : ℕ). k < 2 ^ 63) (sym w.size-is) (lt_of_le_of_lt (cut_fits u.result.negative u.result.digits u.result.power w.size_toward-size.result u.ensures.digits c.if-power-ge-WHOLE.false w.size_toward-size.ensures) (lit< tt))
      | in-Ceil w ↦ subst (λ (k : ℕ). k < 2 ^ 63) (sym w.size-is) (lt_of_le_of_lt (cut_fits (not u.result.negative) u.result.digits u.result.power w.size_toward-size-in-Ceil.result u.ensures.digits c.if-power-ge-WHOLE.false w.size_toward-size-in-Ceil.ensures) (lit< tt))
      | in-Nearest w ↦ subst (λ (k : ℕ). k < 2 ^ 63) (sym w.size-is) small
      | in-Nearest-2 w ↦ subst (λ (k : ℕ). k < 2 ^ 63) (sym w.size-is) small
    ]

pub returns : goal.returns
returns c =
    let u = c.unpack-u in
    let x = c.args.s in
    let policy = c.args.policy in
    let g = u.result.negative in
    let m = u.result.digits in
    let j = u.result.power in
    let n = c.size_toward-n in
    let v = c.with_sign in
    let sized : ℕ → Type 0 = λ k. ranged (signed g k) ≡ grid_value policy x in
    let nearest : ranged (signed g n.result) ≡ ranged (round_away x) = nearest-value x g m j u.ensures n.result n.ensures in
    let value : ranged (signed g c.match-policy.size) ≡ grid_value policy x = elim c.match-policy.branch [
      | in_default w ↦ subst sized (sym w.size-is) (nearest ∙ grid-on policy x (grid-test x g m j u.ensures n.result n.ensures _ (sym w.on_grid.ensures ∙ w.if-on_grid.true)))
      | in-Floor w ↦ subst sized (sym w.size-is) (floor-value x g m j u.ensures w.size_toward-size.result w.size_toward-size.ensures policy (cc) (grid-test x g m j u.ensures n.result n.ensures _ (sym w.on_grid.ensures ∙ w.if-on_grid.false)))
      | in-Ceil w ↦ subst sized (sym w.size-is) (ceil-value x g m j u.ensures w.size_toward-size-in-Ceil.result w.size_toward-size-in-Ceil.ensures policy (search rules) (grid-test x g m j u.ensures n.result n.ensures _ (sym w.on_grid.ensures ∙ w.if-on_grid.false)))
      | in-Nearest w ↦ subst sized (sym w.size-is) (nearest ∙ grid-nearest policy x (search rules))
      | in-Nearest-2 w ↦ subst sized (sym w.size-is) (nearest ∙ grid-nearest policy x (search rules))
    ] in
    c.ranged.ensures ∙ ap ranged (to_z-of_z w64 v.result (record { sfits = v.type_inv }) ∙ v.ensures) ∙ value
