-- Doubles one, two and three steps apart around halves, whole numbers and zero, and the database value of each under each policy (document 02, request 10), by hand. Assumes nothing.
use Rattle.std.specs.Prelude.{cond, List, [], ◌∷◌, ℕ, zero, suc, ◌-◌, ◌^◌, leb, ℤ, pos, negsuc}
use Rattle.binary64.specs.Step.{ordered_bits}

-- a database value, or the number of a refusal
pub data Said : Type 0 where
  at : ℤ → Said
  no : ℕ → Said

-- the unit d and the double in the middle, by their bits, and what is said of it and of the three neighbours on each side, from the lowest on
pub record Row : Type 0 where
  pub unit : ℕ
  pub middle : ℕ
  pub nearest : List Said
  pub floor : List Said
  pub ceiling : List Said
  pub strict : List Said

-- ---- the seven doubles

-- the bits of the double that stands at a place in the order of the doubles
abbrev pub bits_at : ℕ → ℕ
bits_at n = cond (leb (2 ^ 63) n) (n - 2 ^ 63) (2 ^ 64 - 1 - n)

-- so many from a place on
abbrev pub run : ℕ → ℕ → List ℕ
run zero n = []
run (suc k) n = bits_at n ∷ run k (suc n)

abbrev pub neighbours : ℕ → List ℕ
neighbours b = run 7 (ordered_bits b - 3)

-- ---- answers

-- the first k are s, the others of the seven t
abbrev first : ℕ → Said → Said → List Said
first k s t = go 7 k
  where
    go : ℕ → ℕ → List Said
    go zero k = []
    go (suc n) zero = t ∷ go n zero
    go (suc n) (suc k) = s ∷ go n k

abbrev all : Said → List Said
all s = first 7 s s

-- off the grid, then so many in a row at q, then off the grid
abbrev only : ℕ → ℕ → ℤ → List Said
only before n q = go 7 before n
  where
    go : ℕ → ℕ → ℕ → List Said
    go zero b n = []
    go (suc k) (suc b) n = no 18 ∷ go k b n
    go (suc k) zero (suc n) = at q ∷ go k zero n
    go (suc k) zero zero = no 18 ∷ go k zero zero

abbrev row : ℕ → ℕ → List Said → List Said → List Said → List Said → Row
row d p n f c s = record { unit = d; middle = p; nearest = n; floor = f; ceiling = c; strict = s }

abbrev one : ℕ
one = 0x3ff0000000000000

abbrev tenth : ℕ
tenth = 0x3fb999999999999a

abbrev nano : ℕ
nano = 0x3e112e0be826d695

unfoldable pub rows : List Row
rows =
    -- zero: -0 and +0 are neighbours, and 2 ^ -1074 snaps to zero on each side
    row one 0x8000000000000000 (all (at (pos 0))) (first 2 (at (negsuc 0)) (at (pos 0))) (first 6 (at (pos 0)) (at (pos 1))) (only 2 4 (pos 0))
    ∷ row one 0 (all (at (pos 0))) (first 1 (at (negsuc 0)) (at (pos 0))) (first 5 (at (pos 0)) (at (pos 1))) (only 1 4 (pos 0))
    -- halves: 0.5, -0.5, 2.5, -2.5
    ∷ row one 0x3fe0000000000000 (first 3 (at (pos 0)) (at (pos 1))) (all (at (pos 0))) (all (at (pos 1))) (all (no 18))
    ∷ row one 0xbfe0000000000000 (first 4 (at (negsuc 0)) (at (pos 0))) (all (at (negsuc 0))) (all (at (pos 0))) (all (no 18))
    ∷ row one 0x4004000000000000 (first 3 (at (pos 2)) (at (pos 3))) (all (at (pos 2))) (all (at (pos 3))) (all (no 18))
    ∷ row one 0xc004000000000000 (first 4 (at (negsuc 2)) (at (negsuc 1))) (all (at (negsuc 2))) (all (at (negsuc 1))) (all (no 18))
    -- whole numbers: 1, where a step is wider above than below, -1, 3, -3
    ∷ row one 0x3ff0000000000000 (all (at (pos 1))) (first 2 (at (pos 0)) (at (pos 1))) (first 5 (at (pos 1)) (at (pos 2))) (only 2 3 (pos 1))
    ∷ row one 0xbff0000000000000 (all (at (negsuc 0))) (first 2 (at (negsuc 1)) (at (negsuc 0))) (first 5 (at (negsuc 0)) (at (pos 0))) (only 2 3 (negsuc 0))
    ∷ row one 0x4008000000000000 (all (at (pos 3))) (first 2 (at (pos 2)) (at (pos 3))) (first 5 (at (pos 3)) (at (pos 4))) (only 2 3 (pos 3))
    ∷ row one 0xc008000000000000 (all (at (negsuc 2))) (first 2 (at (negsuc 3)) (at (negsuc 2))) (first 5 (at (negsuc 2)) (at (negsuc 1))) (only 2 3 (negsuc 2))
    -- the ends of 32 bits, and a half beyond each
    ∷ row one 0x41dfffffffc00000 (all (at (pos 2147483647))) (first 2 (at (pos 2147483646)) (at (pos 2147483647))) (first 5 (at (pos 2147483647)) (no 19)) (only 2 3 (pos 2147483647))
    ∷ row one 0xc1e0000000000000 (all (at (negsuc 2147483647))) (first 2 (no 19) (at (negsuc 2147483647))) (first 5 (at (negsuc 2147483647)) (at (negsuc 2147483646))) (only 2 3 (negsuc 2147483647))
    ∷ row one 0x41dfffffffe00000 (first 3 (at (pos 2147483647)) (no 19)) (all (at (pos 2147483647))) (all (no 19)) (all (no 18))
    ∷ row one 0xc1e0000000100000 (first 4 (no 19) (at (negsuc 2147483647))) (all (no 19)) (all (at (negsuc 2147483647))) (all (no 18))
    -- a quotient that rounds, worked out over fractions: 0.3 / 0.1 is a step below 3, the next double's a step above
    ∷ row tenth 0x3fd3333333333333 (all (at (pos 3))) (first 3 (at (pos 2)) (at (pos 3))) (first 5 (at (pos 3)) (at (pos 4))) (only 3 2 (pos 3))
    ∷ row tenth 0xbfd3333333333333 (all (at (negsuc 2))) (first 2 (at (negsuc 3)) (at (negsuc 2))) (first 4 (at (negsuc 2)) (at (negsuc 1))) (only 2 2 (negsuc 2))
    -- 3e-9 in nanometres, and 12.5e-9, whose quotient is a step below the half
    ∷ row nano 0x3e29c511dc3a41df (all (at (pos 3))) (first 2 (at (pos 2)) (at (pos 3))) (first 6 (at (pos 3)) (at (pos 4))) (only 2 4 (pos 3))
    ∷ row nano 0x3e4ad7f29abcaf48 (first 4 (at (pos 12)) (at (pos 13))) (all (at (pos 12))) (all (at (pos 13))) (all (no 18))
    -- 2 ^ -1074 in nanometres is many steps from zero
    ∷ row nano 0 (all (at (pos 0))) (first 2 (at (negsuc 0)) (at (pos 0))) (first 4 (at (pos 0)) (at (pos 1))) (only 2 2 (pos 0))
    ∷ []
