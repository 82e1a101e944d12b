-- Demand 3's bounds are met exactly, for each policy: at the edge a structure draws its cell, and one step of a double beyond it does not; and what is not finite is not drawn. Computed.
-- Assumes nothing.
use mathlib.Core.Path.{refl}
use lib.Dec.{T, le→leb, lit≤}
use lib.IntN.{pos, neg_ℤ}
use Prim.Native.Nat.{ℕ, ◌+◌, ◌*◌, ◌^◌}
use Rattle.parsing.specs.All.{All}
use Rattle.conversion.specs.declared.GdsRoundingPolicy.{GdsRoundingPolicy}
use Rattle.conversion.specs.declared.GdsRoundingPolicy.TheVariants.{Nearest, Floor, Ceil, ErrorIfOffGrid}
use Rattle.conversion.specs.Close.{allowance, Close}
use Rattle.cases.specs.Case.{halved}
use Rattle.cases.proofs.Open.{opened}
use Rattle.guards.specs.Values.{one}
use Rattle.guards.specs.Edges.{points_within, points_beyond, boxes_within, boxes_beyond, arrays_within, arrays_beyond, reals_within, reals_beyond}
use Rattle.guards.proofs.DecidedLaws.{Drawing, drawing, all_draw, all_differ, drawn, refused}

-- ---- whole structures

points-within : T (all_draw drawing points_within)
unfolding opened halved points_within all_draw
points-within = tt

pub points-drawn : All Drawing points_within
points-drawn = drawn (λ q. q) drawing (λ q. refl) points_within points-within

points-beyond : T (all_differ (λ q. q) drawing points_beyond)
unfolding opened halved points_beyond all_differ
points-beyond = tt

pub points-refused : All (λ q. Drawing q → ⊥) points_beyond
points-refused = refused (λ q. q) drawing (λ q. refl) points_beyond points-beyond

boxes-within : T (all_draw drawing boxes_within)
unfolding opened halved boxes_within all_draw
boxes-within = tt

pub boxes-drawn : All Drawing boxes_within
boxes-drawn = drawn (λ q. q) drawing (λ q. refl) boxes_within boxes-within

boxes-beyond : T (all_differ (λ q. q) drawing boxes_beyond)
unfolding opened halved boxes_beyond all_differ
boxes-beyond = tt

pub boxes-refused : All (λ q. Drawing q → ⊥) boxes_beyond
boxes-refused = refused (λ q. q) drawing (λ q. refl) boxes_beyond boxes-beyond

arrays-within : T (all_draw drawing arrays_within)
unfolding opened halved arrays_within all_draw
arrays-within = tt

pub arrays-drawn : All Drawing arrays_within
arrays-drawn = drawn (λ q. q) drawing (λ q. refl) arrays_within arrays-within

arrays-beyond : T (all_differ (λ q. q) drawing arrays_beyond)
unfolding opened halved arrays_beyond all_differ
arrays-beyond = tt

pub arrays-refused : All (λ q. Drawing q → ⊥) arrays_beyond
arrays-refused = refused (λ q. q) drawing (λ q. refl) arrays_beyond arrays-beyond

reals-within : T (all_draw drawing reals_within)
unfolding opened halved reals_within all_draw
reals-within = tt

pub reals-drawn : All Drawing reals_within
reals-drawn = drawn (λ q. q) drawing (λ q. refl) reals_within reals-within

reals-beyond : T (all_differ (λ q. q) drawing reals_beyond)
unfolding opened halved reals_beyond all_differ
reals-beyond = tt

pub reals-refused : All (λ q. Drawing q → ⊥) reals_beyond
reals-refused = refused (λ q. q) drawing (λ q. refl) reals_beyond reals-beyond

-- ---- one conversion: d = 1 and q = 0, P a whole number of 2 ^ -1074; n * 2 ^ -22 is within, and 2 ^ -1074 more is not

pub record Edge (r : GdsRoundingPolicy) (n : ℕ) : Type 0 where
  pub within : Close (allowance r) one (pos (n * 2 ^ 1052)) (pos 0)
  pub beyond : Close (allowance r) one (pos (n * 2 ^ 1052 + 1)) (pos 0) → ⊥
  pub within_below : Close (allowance r) one (neg_ℤ (pos (n * 2 ^ 1052))) (pos 0)
  pub beyond_below : Close (allowance r) one (neg_ℤ (pos (n * 2 ^ 1052 + 1))) (pos 0) → ⊥

-- half a unit and 2 ^ -22; a whole one and 2 ^ -22, twice; 2 ^ -20
pub nearest : Edge Nearest 2097153
unfolding opened
nearest = record { within = lit≤ tt; beyond = λ h. le→leb _ _ h; within_below = lit≤ tt; beyond_below = λ h. le→leb _ _ h }

pub floor : Edge Floor 4194305
unfolding opened
floor = record { within = lit≤ tt; beyond = λ h. le→leb _ _ h; within_below = lit≤ tt; beyond_below = λ h. le→leb _ _ h }

pub ceil : Edge Ceil 4194305
unfolding opened
ceil = record { within = lit≤ tt; beyond = λ h. le→leb _ _ h; within_below = lit≤ tt; beyond_below = λ h. le→leb _ _ h }

pub strict : Edge ErrorIfOffGrid 4
unfolding opened
strict = record { within = lit≤ tt; beyond = λ h. le→leb _ _ h; within_below = lit≤ tt; beyond_below = λ h. le→leb _ _ h }
