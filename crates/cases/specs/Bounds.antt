-- Two bounds and what is answered of them (document 02, request 11), by hand: one below, at and above each limit, two faults at once for each neighbouring pair of the order, and ranges under each policy. Assumes nothing.
use Rattle.std.specs.Prelude.{List, [], ◌∷◌, ℕ, ℤ, pos, negsuc}
use Rattle.bounds.specs.Answer.{Values}
use Rattle.cases.specs.Doubles.{up, down, minus, zero, least, half, one, two, two_and_half, three, i32_max, i32_max_and_half, i32_over, i32_over_and_half, i32_over_and_one, three_milliard_and_half, half_greatest, greatest, infinity, nan, nearest, floor, ceiling, strict}

-- the policy's number, the unit d and the two ends by their bits, and the answer
pub record Row : Type 0 where
  pub policy : ℕ
  pub unit : ℕ
  pub lower : ℕ
  pub upper : ℕ
  pub says : Values

-- ---- the answers

abbrev no : ℕ → Values
no n = record { number = n; least = pos 0; greatest = pos 0 }

abbrev to : ℤ → ℤ → Values
to a b = record { number = 0; least = a; greatest = b }

abbrev row : ℕ → ℕ → ℕ → ℕ → Values → Row
row p d lo hi v = record { policy = p; unit = d; lower = lo; upper = hi; says = v }

-- ---- the limits

unfoldable pub limits : List Row
limits =
    -- 1: the policy
    row nearest one zero zero (to (pos 0) (pos 0))
    ∷ row floor one zero zero (to (pos 0) (pos 0))
    ∷ row ceiling one zero zero (to (pos 0) (pos 0))
    ∷ row strict one zero zero (to (pos 0) (pos 0))
    ∷ row 4 one zero zero (no 1)
    ∷ row 255 one zero zero (no 1)
    -- 2: the unit; the least positive double and the greatest one pass
    ∷ row nearest least zero zero (to (pos 0) (pos 0))
    ∷ row nearest zero zero zero (no 2)
    ∷ row nearest (minus zero) zero zero (no 2)
    ∷ row nearest (minus least) zero zero (no 2)
    ∷ row nearest (minus one) zero zero (no 2)
    ∷ row nearest greatest zero zero (to (pos 0) (pos 0))
    ∷ row nearest infinity zero zero (no 2)
    ∷ row nearest nan zero zero (no 2)
    -- 17: an end that is not finite
    ∷ row nearest greatest (minus greatest) greatest (to (negsuc 0) (pos 1))
    ∷ row nearest greatest (minus greatest) infinity (no 17)
    ∷ row nearest greatest (minus infinity) greatest (no 17)
    ∷ row nearest one (minus infinity) infinity (no 17)
    ∷ row strict one infinity infinity (no 17)
    ∷ row nearest one nan zero (no 17)
    ∷ row nearest one zero nan (no 17)
    ∷ row strict one nan nan (no 17)
    -- 32: the lower end a step above the upper, equal to it, a step below it
    ∷ row nearest one one (down 1 one) (no 32)
    ∷ row nearest one one one (to (pos 1) (pos 1))
    ∷ row nearest one one (up 1 one) (to (pos 1) (pos 1))
    ∷ row floor one one (down 1 one) (no 32)
    ∷ row floor one one one (to (pos 1) (pos 1))
    ∷ row floor one one (up 1 one) (to (pos 1) (pos 1))
    ∷ row ceiling one one (down 1 one) (no 32)
    ∷ row ceiling one one one (to (pos 1) (pos 1))
    ∷ row ceiling one one (up 1 one) (to (pos 1) (pos 1))
    ∷ row ceiling one one (up 2 one) (to (pos 1) (pos 2))
    -- and under strict: equal ends alone, also where both convert alike
    ∷ row strict one one (down 1 one) (no 32)
    ∷ row strict one one one (to (pos 1) (pos 1))
    ∷ row strict one one (up 1 one) (no 32)
    -- -0 and +0 are equal, either way round; what is next to them is not
    ∷ row nearest one (minus zero) zero (to (pos 0) (pos 0))
    ∷ row nearest one zero (minus zero) (to (pos 0) (pos 0))
    ∷ row floor one zero (minus zero) (to (pos 0) (pos 0))
    ∷ row ceiling one zero (minus zero) (to (pos 0) (pos 0))
    ∷ row strict one (minus zero) zero (to (pos 0) (pos 0))
    ∷ row strict one zero (minus zero) (to (pos 0) (pos 0))
    ∷ row nearest one zero (minus least) (no 32)
    ∷ row nearest one least (minus zero) (no 32)
    ∷ row strict one (minus zero) least (no 32)
    ∷ row strict one (minus least) zero (no 32)
    -- 17 of an end's quotient: with d = 1/2 the last that is finite is 19
    ∷ row nearest half (minus half_greatest) zero (no 19)
    ∷ row nearest half (minus (up 1 half_greatest)) zero (no 17)
    ∷ row nearest half zero half_greatest (no 19)
    ∷ row nearest half zero (up 1 half_greatest) (no 17)
    -- 18: equal ends under strict, up to a step from the grid
    ∷ row strict one (down 2 three) (down 2 three) (no 18)
    ∷ row strict one (down 1 three) (down 1 three) (to (pos 3) (pos 3))
    ∷ row strict one three three (to (pos 3) (pos 3))
    ∷ row strict one (up 1 three) (up 1 three) (to (pos 3) (pos 3))
    ∷ row strict one (up 2 three) (up 2 three) (no 18)
    -- 19: the upper end, under each policy; a half up, and what is a step from a whole number is that number
    ∷ row nearest one zero (down 1 i32_max_and_half) (to (pos 0) (pos 2147483647))
    ∷ row nearest one zero i32_max_and_half (no 19)
    ∷ row nearest one zero (up 1 i32_max_and_half) (no 19)
    ∷ row floor one zero (down 2 i32_over) (to (pos 0) (pos 2147483647))
    ∷ row floor one zero (down 1 i32_over) (no 19)
    ∷ row floor one zero i32_over (no 19)
    ∷ row ceiling one zero i32_max (to (pos 0) (pos 2147483647))
    ∷ row ceiling one zero (up 1 i32_max) (to (pos 0) (pos 2147483647))
    ∷ row ceiling one zero (up 2 i32_max) (no 19)
    ∷ row strict one i32_max i32_max (to (pos 2147483647) (pos 2147483647))
    ∷ row strict one i32_over i32_over (no 19)
    -- and the lower
    ∷ row nearest one (minus (down 1 i32_over_and_half)) zero (to (negsuc 2147483647) (pos 0))
    ∷ row nearest one (minus i32_over_and_half) zero (no 19)
    ∷ row nearest one (minus (up 1 i32_over_and_half)) zero (no 19)
    ∷ row floor one (minus i32_over) zero (to (negsuc 2147483647) (pos 0))
    ∷ row floor one (minus (up 1 i32_over)) zero (to (negsuc 2147483647) (pos 0))
    ∷ row floor one (minus (up 2 i32_over)) zero (no 19)
    ∷ row ceiling one (minus (down 2 i32_over_and_one)) zero (to (negsuc 2147483647) (pos 0))
    ∷ row ceiling one (minus (down 1 i32_over_and_one)) zero (no 19)
    ∷ row ceiling one (minus i32_over_and_one) zero (no 19)
    ∷ row strict one (minus i32_over) (minus i32_over) (to (negsuc 2147483647) (negsuc 2147483647))
    ∷ row strict one (minus i32_over_and_one) (minus i32_over_and_one) (no 19)
    -- both
    ∷ row nearest one (minus i32_over) i32_max (to (negsuc 2147483647) (pos 2147483647))
    ∷ []

-- ---- two faults at once: the first of the order 1, 2, 17 of the ends, 32, the lower end's 17, 18, 19, the upper end's

unfoldable pub orders : List Row
orders =
    -- 1, 2
    row 4 zero zero zero (no 1)
    -- 2, 17
    ∷ row nearest zero nan zero (no 2)
    ∷ row nearest zero zero infinity (no 2)
    -- 17, 32: the lower end above the upper, either of them infinite; strict with unequal ends
    ∷ row nearest one infinity zero (no 17)
    ∷ row nearest one zero (minus infinity) (no 17)
    ∷ row nearest one infinity (minus infinity) (no 17)
    ∷ row strict one zero infinity (no 17)
    ∷ row strict one (minus infinity) zero (no 17)
    -- 32, the lower end's 17, 18, 19
    ∷ row nearest half greatest zero (no 32)
    ∷ row strict one two_and_half three (no 32)
    ∷ row nearest one i32_over zero (no 32)
    -- 32, the upper end's 17, 18, 19
    ∷ row nearest half zero (minus greatest) (no 32)
    ∷ row strict one two two_and_half (no 32)
    ∷ row nearest one zero (minus (up 2 i32_over)) (no 32)
    -- in one end: 17, 18; 18, 19
    ∷ row strict half greatest greatest (no 17)
    ∷ row strict one three_milliard_and_half three_milliard_and_half (no 18)
    -- the lower end's 17, the upper's 19; the lower's 19, the upper's 17
    ∷ row nearest half (minus greatest) half_greatest (no 17)
    ∷ row nearest half (minus half_greatest) greatest (no 19)
    ∷ row nearest half (minus half_greatest) half_greatest (no 19)
    ∷ []

-- ---- ranges: the least value is the lower end's, the greatest the upper's

unfoldable pub ranges : List Row
ranges =
    -- from half to half
    row nearest one half two_and_half (to (pos 1) (pos 3))
    ∷ row floor one half two_and_half (to (pos 0) (pos 2))
    ∷ row ceiling one half two_and_half (to (pos 1) (pos 3))
    ∷ row nearest one (down 1 half) (down 1 two_and_half) (to (pos 0) (pos 2))
    ∷ row nearest one (minus two_and_half) (minus half) (to (negsuc 2) (negsuc 0))
    ∷ row floor one (minus two_and_half) (minus half) (to (negsuc 2) (negsuc 0))
    ∷ row ceiling one (minus two_and_half) (minus half) (to (negsuc 1) (pos 0))
    -- around zero
    ∷ row nearest one (minus half) half (to (negsuc 0) (pos 1))
    ∷ row floor one (minus half) half (to (negsuc 0) (pos 0))
    ∷ row ceiling one (minus half) half (to (pos 0) (pos 1))
    -- within a step of 3, and two
    ∷ row floor one (down 1 three) (up 1 three) (to (pos 3) (pos 3))
    ∷ row floor one (down 2 three) (up 2 three) (to (pos 2) (pos 3))
    ∷ row ceiling one (down 2 three) (up 2 three) (to (pos 3) (pos 4))
    -- in halves: 1 to 3 is 2 to 6
    ∷ row nearest half one three (to (pos 2) (pos 6))
    ∷ row strict half two_and_half two_and_half (to (pos 5) (pos 5))
    ∷ []
