-- Which side of the grid a value went (document 02, request 2), by hand: single deviations, which of several stands for an element, and the greatest error. A double is written by its bits. Assumes nothing.
use Rattle.std.specs.Prelude.{List, [], ◌∷◌, ℕ, ℤ, pos, negsuc}
use Rattle.conversion.specs.declared.GdsRoundingPolicy.{GdsRoundingPolicy}
use Rattle.conversion.specs.declared.GdsRoundingPolicy.TheVariants.{Nearest, Floor, Ceil, ErrorIfOffGrid}
use Rattle.cases.specs.Doubles.{up, down, minus, least, half, one, two, two_and_half, three, infinity}

-- 0.25, 0.75, 1.5, 2.25, 2.75, 5; 0.1, a nanometre, 10^308
abbrev pub quarter : ℕ
quarter = 0x3fd0000000000000

abbrev pub three_quarters : ℕ
three_quarters = 0x3fe8000000000000

abbrev one_and_half : ℕ
one_and_half = 0x3ff8000000000000

abbrev pub two_and_quarter : ℕ
two_and_quarter = 0x4002000000000000

abbrev pub two_and_three_quarters : ℕ
two_and_three_quarters = 0x4006000000000000

abbrev five : ℕ
five = 0x4014000000000000

abbrev tenth : ℕ
tenth = 0x3fb999999999999a

abbrev nano : ℕ
nano = 0x3e112e0be826d695

abbrev huge : ℕ
huge = 0x7fe1ccf385ebc8a0

-- ---- single deviations

-- a policy, the unit d, a physical value p and its database value; and the errors that count: one or none
pub record Row : Type 0 where
  pub policy : GdsRoundingPolicy
  pub unit : ℕ
  pub physical : ℕ
  pub database : ℤ
  pub errors : List ℕ

abbrev silent : List ℕ
silent = []

abbrev off : ℕ → List ℕ
off e = e ∷ []

abbrev row : GdsRoundingPolicy → ℕ → ℕ → ℤ → List ℕ → Row
row policy d p q es = record { policy = policy; unit = d; physical = p; database = q; errors = es }

unfoldable pub rows : List Row
rows =
    -- nearest goes up and down, on either side of 0; a half away from zero
    row Nearest one two_and_quarter (pos 2) (off (minus quarter))
    ∷ row Nearest one two_and_three_quarters (pos 3) (off quarter)
    ∷ row Nearest one (minus two_and_quarter) (negsuc 1) (off quarter)
    ∷ row Nearest one (minus two_and_three_quarters) (negsuc 2) (off (minus quarter))
    ∷ row Nearest one two_and_half (pos 3) (off half)
    ∷ row Nearest one (minus two_and_half) (negsuc 2) (off (minus half))
    -- 0 is neither above nor below: nothing counts
    ∷ row Nearest one three (pos 3) silent
    ∷ row Nearest one (minus three) (negsuc 2) silent
    -- floor goes down, ceiling up
    ∷ row Floor one two_and_three_quarters (pos 2) (off (minus three_quarters))
    ∷ row Floor one (minus two_and_quarter) (negsuc 2) (off (minus three_quarters))
    ∷ row Ceil one two_and_quarter (pos 3) (off three_quarters)
    ∷ row Ceil one (minus two_and_three_quarters) (negsuc 1) (off three_quarters)
    -- but for the least double below 0, which snaps to 0 and is two steps from +0; on the other side it is one
    ∷ row Floor one (minus least) (pos 0) (off least)
    ∷ row Floor one least (pos 0) silent
    ∷ row ErrorIfOffGrid one (minus least) (pos 0) (off least)
    -- one and two steps beside a whole number: 2^-51 and 2^-50
    ∷ row Nearest one (up 1 three) (pos 3) silent
    ∷ row Nearest one (down 1 three) (pos 3) silent
    ∷ row Nearest one (up 2 three) (pos 3) (off 0xbcd0000000000000)
    ∷ row Nearest one (down 2 three) (pos 3) (off 0x3cd0000000000000)
    -- in another unit: 3 × 2 − 5; and a quotient that rounds to 0, so that nothing counts
    ∷ row Nearest two five (pos 3) (off one)
    ∷ row Floor two five (pos 2) (off (minus one))
    ∷ row Nearest 0x4010000000000000 least (pos 0) silent
    -- product and difference are rounded, each: fl(fl(3 × 0.1) − 0.25), where one rounding would end in 9c; the same below
    ∷ row Nearest tenth quarter (pos 3) (off 0x3fa99999999999a0)
    ∷ row Nearest tenth (minus quarter) (negsuc 2) (off 0xbfa99999999999a0)
    ∷ row Floor tenth quarter (pos 2) (off 0xbfa9999999999998)
    -- 12.3 nanometres: 12 is below, and one rounding would end in 30
    ∷ row Nearest nano 0x3e4a69ff1b555051 (pos 12) (off 0xbdf49da7e361ce20)
    -- a product beyond the greatest double: infinite, with its sign
    ∷ row Nearest huge 0x7fee42d130773b76 (pos 2) (off infinity)
    ∷ row Nearest huge 0xffee42d130773b76 (negsuc 1) (off (minus infinity))
    ∷ []

-- an array's far corner: the unit d, origin, step and count, its physical and its database value, and the errors that count
pub record Corner : Type 0 where
  pub unit : ℕ
  pub origin : ℤ
  pub step : ℤ
  pub count : ℕ
  pub physical : ℕ
  pub database : ℤ
  pub errors : List ℕ

abbrev corner : ℕ → ℤ → ℤ → ℕ → ℕ → ℤ → List ℕ → Corner
corner d o a n p q es = record { unit = d; origin = o; step = a; count = n; physical = p; database = q; errors = es }

unfoldable pub corners : List Corner
corners =
    -- 1 + 4 × 11 for 42.5, and 4 × 10 for 41.5 and 40
    corner one (pos 1) (pos 11) 4 0x4045400000000000 (pos 45) (off two_and_half)
    ∷ corner one (pos 0) (pos 10) 4 0x4044c00000000000 (pos 40) (off (minus one_and_half))
    ∷ corner one (pos 0) (pos 10) 4 0x4044000000000000 (pos 40) silent
    -- on the other side of 0
    ∷ corner one (negsuc 0) (negsuc 10) 4 0xc045400000000000 (negsuc 44) (off (minus two_and_half))
    -- −10^308 for 1.7 × 10^308, and the other way round: both are doubles, and their distance is beyond them
    ∷ corner huge (pos 0) (negsuc 0) 1 0x7fee42d130773b76 (negsuc 0) (off (minus infinity))
    ∷ corner huge (pos 0) (pos 1) 1 0xffee42d130773b76 (pos 1) (off infinity)
    ∷ []

-- ---- which deviation stands for an element

-- the errors of an element's deviations in turn; the place of the one that stands for it, and its error
pub record Choice : Type 0 where
  pub errors : List ℕ
  pub place : ℕ
  pub error : ℕ

abbrev choice : List ℕ → ℕ → ℕ → Choice
choice es k e = record { errors = es; place = k; error = e }

unfoldable pub choices : List Choice
choices =
    choice (minus quarter ∷ []) 0 (minus quarter)
    -- equal magnitudes: the first stays, whichever its side
    ∷ choice (quarter ∷ minus quarter ∷ []) 0 quarter
    ∷ choice (minus quarter ∷ quarter ∷ []) 0 (minus quarter)
    -- a magnitude one step below, and one step above, on the other side
    ∷ choice (quarter ∷ minus (down 1 quarter) ∷ []) 0 quarter
    ∷ choice (quarter ∷ minus (up 1 quarter) ∷ []) 1 (minus (up 1 quarter))
    ∷ choice (minus quarter ∷ down 1 quarter ∷ []) 0 (minus quarter)
    ∷ choice (minus quarter ∷ up 1 quarter ∷ []) 1 (up 1 quarter)
    -- on the same side
    ∷ choice (minus quarter ∷ minus half ∷ []) 1 (minus half)
    ∷ choice (minus half ∷ minus quarter ∷ []) 0 (minus half)
    -- of three: the largest, and of two largest the first
    ∷ choice (quarter ∷ minus half ∷ half ∷ []) 1 (minus half)
    ∷ choice (minus half ∷ quarter ∷ three_quarters ∷ []) 2 three_quarters
    -- infinite ones: the first stays, and no finite one replaces it
    ∷ choice (infinity ∷ minus infinity ∷ []) 0 infinity
    ∷ choice (minus infinity ∷ infinity ∷ []) 0 (minus infinity)
    ∷ choice (half ∷ minus infinity ∷ one ∷ []) 1 (minus infinity)
    ∷ []

-- ---- the greatest error

-- the errors of a report's entries, and the greatest
pub record Greatest : Type 0 where
  pub errors : List ℕ
  pub greatest : ℕ

abbrev greatest : List ℕ → ℕ → Greatest
greatest es g = record { errors = es; greatest = g }

unfoldable pub greatests : List Greatest
greatests =
    -- a magnitude: no sign, wherever the greatest stands
    greatest [] 0
    ∷ greatest (minus quarter ∷ []) quarter
    ∷ greatest (quarter ∷ minus half ∷ []) half
    ∷ greatest (minus half ∷ quarter ∷ []) half
    ∷ greatest (minus half ∷ half ∷ minus quarter ∷ []) half
    ∷ greatest (quarter ∷ half ∷ minus three_quarters ∷ []) three_quarters
    -- one step below, and one above, on the other side
    ∷ greatest (half ∷ minus (down 1 half) ∷ []) half
    ∷ greatest (half ∷ minus (up 1 half) ∷ []) (up 1 half)
    ∷ greatest (minus half ∷ up 1 half ∷ []) (up 1 half)
    ∷ greatest (minus infinity ∷ half ∷ []) infinity
    ∷ []
