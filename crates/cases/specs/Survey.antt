-- Rows of places and what is answered of them (document 02, request 12), by hand: one below, at and above each limit, two faults at once for each pair of the order, counts under each policy, and single places. Assumes nothing.
use Rattle.std.specs.Prelude.{List, [], ◌∷◌, ℕ}
use Rattle.survey.specs.declared.Placed.{Placed}
use Rattle.survey.specs.declared.Placed.TheVariants.{Clean, Due, Refused}
use Rattle.survey.specs.Answer.{Values}
use Rattle.cases.specs.Doubles.{up, down, minus, zero, least, half, one, three, i32_max, i32_over, i32_over_and_one, greatest, infinity, nan, nearest, floor, ceiling, strict}

-- the policy's number, the unit d and the pitch by their bits, the number of places, and the answer
pub record Row : Type 0 where
  pub policy : ℕ
  pub unit : ℕ
  pub pitch : ℕ
  pub places : ℕ
  pub says : Values

-- the same with one place of the row, and what conversion gives there
pub record Place : Type 0 where
  pub policy : ℕ
  pub unit : ℕ
  pub pitch : ℕ
  pub place : ℕ
  pub gives : Placed

-- ---- doubles by their bits

-- 1.5, 0.1, 0.3, 0.4, 1.9, 2.7, 32768.5
abbrev one_and_half : ℕ
one_and_half = 0x3ff8000000000000

abbrev pub tenth : ℕ
tenth = 0x3fb999999999999a

abbrev three_tenths : ℕ
three_tenths = 0x3fd3333333333333

abbrev pub four_tenths : ℕ
four_tenths = 0x3fd999999999999a

abbrev nineteen_tenths : ℕ
nineteen_tenths = 0x3ffe666666666666

abbrev twenty_seven_tenths : ℕ
twenty_seven_tenths = 0x400599999999999a

abbrev half65537 : ℕ
half65537 = 0x40e0001000000000

-- ---- the answers

abbrev no : ℕ → Values
no n = record { number = n; clean = 0; due = 0; refused = 0 }

abbrev counts : ℕ → ℕ → ℕ → Values
counts a b c = record { number = 0; clean = a; due = b; refused = c }

abbrev row : ℕ → ℕ → ℕ → ℕ → Values → Row
row p d x n v = record { policy = p; unit = d; pitch = x; places = n; says = v }

abbrev place : ℕ → ℕ → ℕ → ℕ → Placed → Place
place p d x i v = record { policy = p; unit = d; pitch = x; place = i; gives = v }

-- ---- the limits

unfoldable pub limits : List Row
limits =
    -- 1: the policy
    row nearest one one 1 (counts 1 0 0)
    ∷ row floor one one 1 (counts 1 0 0)
    ∷ row ceiling one one 1 (counts 1 0 0)
    ∷ row strict one one 1 (counts 1 0 0)
    ∷ row 4 one one 1 (no 1)
    ∷ row 255 one one 1 (no 1)
    -- 2: the unit; the least positive double and the greatest one pass
    ∷ row nearest least least 2 (counts 2 0 0)
    ∷ row nearest zero one 1 (no 2)
    ∷ row nearest (minus zero) one 1 (no 2)
    ∷ row nearest (minus least) one 1 (no 2)
    ∷ row nearest (minus one) one 1 (no 2)
    ∷ row nearest greatest greatest 2 (counts 2 0 0)
    ∷ row nearest infinity one 1 (no 2)
    ∷ row nearest nan one 1 (no 2)
    -- 33: the number of places. 17 comes after it, so that a pitch which is not finite shows that 65,536 pass
    ∷ row nearest one one 0 (no 33)
    ∷ row nearest one one 1 (counts 1 0 0)
    ∷ row nearest one one 2 (counts 2 0 0)
    ∷ row nearest one infinity 65535 (no 17)
    ∷ row nearest one infinity 65536 (no 17)
    ∷ row nearest one one 65537 (no 33)
    ∷ row strict one one 65537 (no 33)
    ∷ row nearest one one 4294967295 (no 33)
    -- 17: the pitch
    ∷ row nearest one greatest 1 (counts 1 0 0)
    ∷ row nearest one infinity 1 (no 17)
    ∷ row nearest one (minus greatest) 1 (counts 1 0 0)
    ∷ row nearest one (minus infinity) 1 (no 17)
    ∷ row strict one nan 1 (no 17)
    ∷ []

-- ---- two faults at once: the first of the order 1, 2, 33, 17

unfoldable pub orders : List Row
orders =
    row 4 zero one 1 (no 1)
    ∷ row 4 one one 0 (no 1)
    ∷ row 4 one infinity 1 (no 1)
    ∷ row nearest zero one 0 (no 2)
    ∷ row nearest nan one 65537 (no 2)
    ∷ row nearest zero nan 1 (no 2)
    ∷ row nearest one infinity 0 (no 33)
    ∷ row nearest one nan 65537 (no 33)
    -- all four
    ∷ row 4 zero nan 0 (no 1)
    ∷ []

-- ---- counts

unfoldable pub surveys : List Row
surveys =
    -- halves: 0, 0.5, 1, 1.5, 2
    row nearest one half 5 (counts 3 2 0)
    ∷ row floor one half 5 (counts 3 2 0)
    ∷ row ceiling one half 5 (counts 3 2 0)
    ∷ row strict one half 5 (counts 3 0 2)
    ∷ row nearest one (minus half) 4 (counts 2 2 0)
    ∷ row strict one (minus half) 4 (counts 2 0 2)
    -- in a unit of a half they lie on the grid
    ∷ row strict half half 4 (counts 4 0 0)
    -- no pitch at all
    ∷ row strict one zero 3 (counts 3 0 0)
    ∷ row strict one (minus zero) 3 (counts 3 0 0)
    -- a step above 1: the products at places 3 and 6 are ties, and lie two steps above a whole number. By a running sum place 6 would lie one step above
    ∷ row nearest one (up 1 one) 7 (counts 5 2 0)
    ∷ row floor one (up 1 one) 7 (counts 5 2 0)
    ∷ row ceiling one (up 1 one) 7 (counts 5 2 0)
    ∷ row strict one (up 1 one) 7 (counts 5 0 2)
    -- a step below 1: each product lies one step below
    ∷ row strict one (down 1 one) 4 (counts 4 0 0)
    -- the least double: a step from 0 no entry is due, two steps from it one is
    ∷ row nearest one least 3 (counts 2 1 0)
    ∷ row strict one least 3 (counts 2 0 1)
    -- below 0 an entry is due at one step too, since q is +0; strict takes that step, and counts it as due
    ∷ row nearest one (minus least) 3 (counts 1 2 0)
    ∷ row floor one (minus least) 3 (counts 1 2 0)
    ∷ row ceiling one (minus least) 3 (counts 1 2 0)
    ∷ row strict one (minus least) 3 (counts 1 1 1)
    -- a place that is refused refuses nothing: 19, and 17 of a product and of a quotient
    ∷ row nearest one i32_max 3 (counts 2 0 1)
    ∷ row nearest one i32_over 2 (counts 1 0 1)
    ∷ row nearest one (minus i32_over) 3 (counts 2 0 1)
    ∷ row nearest one (minus i32_over_and_one) 2 (counts 1 0 1)
    ∷ row nearest greatest greatest 3 (counts 2 0 1)
    ∷ row nearest half greatest 2 (counts 1 0 1)
    -- all three at once: 0, 0.5 and 1 of a unit, and two that are not finite
    ∷ row nearest greatest 0x7fdfffffffffffff 5 (counts 2 1 2)
    ∷ []

-- ---- single places

unfoldable pub places : List Place
places =
    -- the first is 0 or -0
    place strict one greatest 0 Clean
    ∷ place strict one (minus greatest) 0 Clean
    -- an error above 0 that is less than a step: 0.3 / 0.1 is a step below 3
    ∷ place nearest tenth three_tenths 1 Clean
    ∷ place strict tenth three_tenths 1 Clean
    -- the product is rounded before it is divided: 3 times 2.7 is 8.100000000000001, and by 0.3 two steps above 27. Rounded but once it would be a step above
    ∷ place nearest three_tenths twenty_seven_tenths 3 Due
    ∷ place strict three_tenths twenty_seven_tenths 3 Refused
    -- the pitch is not divided before: 1.9 / 0.1 is a step below 19, three times that two steps below 57
    ∷ place nearest tenth nineteen_tenths 3 Clean
    ∷ place strict tenth nineteen_tenths 3 Clean
    -- the last places: 65534 times 32768.5 is whole, 65535 times it is 2147483647.5
    ∷ place nearest one half65537 65534 Clean
    ∷ place nearest one half65537 65535 Refused
    ∷ place floor one half65537 65535 Due
    ∷ place ceiling one half65537 65535 Refused
    ∷ place strict one half65537 65535 Refused
    ∷ place nearest one one_and_half 65535 Due
    ∷ place nearest one three 65535 Clean
    ∷ []
