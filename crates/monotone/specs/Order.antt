-- Conversion keeps the order of physical values (document 02, request 10: "Edges never cross"). Assumes nothing.
use Rattle.std.specs.Prelude.{◌≡◌, T, ℤ, ◌≤ℤ◌, Float}
use Rattle.std.specs.Float.{binary64}
use Rattle.std.specs.Float.Ieee.{fits, le}
use Rattle.std.specs.Float.Ieee.Positive.{positive}
use Rattle.conversion.specs.declared.GdsRoundingPolicy.{GdsRoundingPolicy}
use Rattle.conversion.specs.Made.{pure}
use Rattle.conversion.specs.Convert.{database_value}

-- "for each policy and each d: if two physical values are both accepted and the first is not greater than the second, then its database value is not greater than the second's".
-- p is accepted where `database_value` gives a number a and not a refusal. `le` is the doubles' order, in which -0 and +0 are equal. (Every f64 fits binary64; d is finite and above 0, or every cell is refused by 2.)
abbrev pub KeepsOrder : Type 0
KeepsOrder = (policy : GdsRoundingPolicy) (d p q : Float) (a b : ℤ) → T (fits binary64 d) → T (positive d) → T (fits binary64 p) → T (fits binary64 q)
    → database_value policy d p ≡ pure a → database_value policy d q ≡ pure b → T (le p q) → a ≤ℤ b
