-- What the test programs read of their stored cases, and how many of these differ. Assumes nothing.
use Rattle.std.specs.Prelude.{List, Bool, cond, ℕ, zero, suc, ◌+◌, Float}
use Rattle.std.specs.Float.{binary64}
use Rattle.std.specs.Float.Ieee.{of_bits}
use Rattle.big_endian.specs.Big.{number_at}

-- the double at a place
abbrev pub double_at : List ℕ → ℕ → Float
double_at s at = of_bits binary64 (number_at 8 s at)

-- how many of the first n cases do not agree
unfoldable pub differing : (ℕ → Bool) → ℕ → ℕ
differing agrees zero = 0
differing agrees (suc n) = differing agrees n + cond (agrees n) 0 1

-- of the first n cases, each of which has an answer of a test, `found` do not agree
pub data Differ (answers : ℕ → Bool → Type 0) : ℕ → ℕ → Type 0 where
  none : Differ answers 0 0
  more : {n found : ℕ} (agrees : Bool) → answers n agrees → Differ answers n found → Differ answers (suc n) (found + cond agrees 0 1)
