-- `block_places::element_places` meets its contract: the options, the body behind them, and the properties where it ends. Assumes nothing.
use Prim.Native.Nat.{◌+◌, ◌≤◌}
use lib.ListN.{length}
use native.Mathlib.Omega.{arith}
use Rattle.std.proofs.Common.{rules}
use Rattle.block_places.proofs.PlacesLaws.{options-in}
use Rattle.block_places.specs.code.Places.{options_at, shifted, element_places}
use Rattle.block_places.proofs.element_places.Goals as goal
use Rattle.block_places.proofs.element_places.Goals.{After-body_end-end}

pub options_at-options-requires : goal.options_at-options-requires
options_at-options-requires c = options-in c.args.b.now (omega arith)

pub block_from-rest-requires : goal.block_from-rest-requires
unfolding options_at
block_from-rest-requires c =
    let i = options-in c.args.b.now (omega arith) in
    rw c.options_at-options.ensures (omega arith)

pub plain_kind-requires : goal.plain_kind-requires
plain_kind-requires c =
    let i = options-in c.args.b.now (omega arith) in
    omega arith

pub body_places-body-requires : goal.body_places-body-requires
unfolding options_at shifted
body_places-body-requires c =
    rw (c.plain_kind.ensures, c.block_from-rest.ensures, c.options_at-options.ensures) (omega arith)

pub body_end-end-requires : goal.body_end-end-requires
unfolding options_at shifted
body_end-end-requires c =
    rw (c.body_places-body.ensures, c.plain_kind.ensures, c.block_from-rest.ensures, c.options_at-options.ensures) (omega arith)

-- the count of the properties stands in the block
room : (c : After-body_end-end) → c.body_end-end.result + 2 ≤ length c.block_from-rest.result.now
unfolding options_at shifted
room c =
    rw (c.body_end-end.ensures, c.body_places-body.ensures, c.plain_kind.ensures, c.block_from-rest.ensures, c.options_at-options.ensures) (omega arith)

pub overflow_add-place : goal.overflow_add-place
overflow_add-place c = let l = room (goal.at.overflow_add-place c).After-body_end-end in search rules

pub u16_at-requires : goal.u16_at-requires
u16_at-requires c = room (goal.at.u16_at-requires c).After-body_end-end

pub returns : goal.returns
unfolding element_places shifted options_at
returns c = rw (c.u16_at.ensures, c.body_end-end.ensures, c.body_places-body.ensures, c.plain_kind.ensures, c.block_from-rest.ensures, c.options_at-options.ensures)
