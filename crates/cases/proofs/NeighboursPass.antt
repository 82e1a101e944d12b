-- Each double around a half, a whole number and zero is converted as known, and the seven of a row stand in the doubles' order. Computed. Assumes nothing.
use mathlib.Core.Path.{◌≡◌, refl}
use mathlib.Core.Bool.{Bool, true, ◌&&◌}
use mathlib.Core.List.{List, [], ◌∷◌}
use Prim.Native.Nat.{ℕ}
use lib.Dec.{T}
use lib.IntN.{ℤ}
use lib.Signed.{◌≤ℤ◌}
use lib.Ieee.{Float, binary64, of_bits, fits, le}
use lib.Ieee.Positive.{positive}
use Rattle.refusal.specs.Number.{number}
use Rattle.conversion.specs.declared.GdsRoundingPolicy.{GdsRoundingPolicy}
use Rattle.conversion.specs.declared.GdsRoundingPolicy.TheVariants.{Nearest, Floor, Ceil, ErrorIfOffGrid}
use Rattle.conversion.specs.Made.{Made, refused, made, pure}
use Rattle.conversion.specs.Convert.{database_value}
use Rattle.monotone.specs.Order.{KeepsOrder}
use Rattle.cases.specs.Neighbours.{Said, at, no, Row, neighbours, rows}
use Rattle.cases.proofs.Open.{opened}

abbrev pub said : Made ℤ → Said
said (refused r) = no (number r)
said (made q vs) = at q

abbrev pub said_of : GdsRoundingPolicy → ℕ → List ℕ → List Said
said_of policy d [] = []
said_of policy d (b ∷ bs) = said (database_value policy (of_bits binary64 d) (of_bits binary64 b)) ∷ said_of policy d bs

-- what the definitions say of a row's doubles
abbrev pub found : List Row → List Row
found [] = []
found (r ∷ rs) =
    let bs = neighbours r.middle in
    record {
      unit = r.unit;
      middle = r.middle;
      nearest = said_of Nearest r.unit bs;
      floor = said_of Floor r.unit bs;
      ceiling = said_of Ceil r.unit bs;
      strict = said_of ErrorIfOffGrid r.unit bs;
    }
    ∷ found rs

pub neighbours-pass : found rows ≡ rows
unfolding opened rows
neighbours-pass = refl

-- ---- each is at most the next

abbrev pub ascending : List ℕ → Bool
ascending [] = true
ascending (b ∷ []) = true
ascending (b ∷ c ∷ bs) = le (of_bits binary64 b) (of_bits binary64 c) && ascending (c ∷ bs)

abbrev pub all_ascending : List Row → Bool
all_ascending [] = true
all_ascending (r ∷ rs) = ascending (neighbours r.middle) && all_ascending rs

pub neighbours-ascend : T (all_ascending rows)
unfolding opened rows
neighbours-ascend = tt

-- ---- -0 and +0

abbrev minus_zero : Float
minus_zero = of_bits binary64 0x8000000000000000

abbrev plus_zero : Float
plus_zero = of_bits binary64 0

-- Each is at most the other, so what keeps order gives them one database value, in each unit.
pub zeros-alike : KeepsOrder → (policy : GdsRoundingPolicy) (d : Float) (a b : ℤ) → T (fits binary64 d) → T (positive d)
    → database_value policy d minus_zero ≡ pure a → database_value policy d plus_zero ≡ pure b → (a ≤ℤ b) × (b ≤ℤ a)
unfolding opened fits
zeros-alike k policy d a b D pd e f = (k policy d minus_zero plus_zero a b D pd tt tt e f tt, k policy d plus_zero minus_zero b a D pd tt tt f e tt)
