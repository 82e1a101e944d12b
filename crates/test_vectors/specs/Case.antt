-- Stored cases, one after the other: each an input of the cell writer or the library writer and the answer that another implementation gave. Their layout stands in tools/pack_cases.py. Assumes nothing.
use Rattle.std.specs.Prelude.{Bool, true, false, ◌&&◌, cond, List, [], ◌∷◌, ℕ, zero, suc, ◌+◌, ◌-◌, ◌≤◌, eqb, leb, ltb, length, take, drop}
use Rattle.std.specs.Float.{binary64}
use Rattle.std.specs.Float.Ieee.{of_bits}
use Rattle.big_endian.specs.Big.{number_at}
use Rattle.test_answers.specs.Answer.{answer_bytes}
use Rattle.test_vectors.specs.declared.Tally.{Tally}

-- ---- the case at a place of the bytes s

-- 4 bytes for n, an input of n bytes, 4 bytes for m, an answer of m bytes
abbrev pub input_length : List ℕ → ℕ → ℕ
input_length s at = number_at 4 s at

abbrev pub answer_length : List ℕ → ℕ → ℕ
answer_length s at = number_at 4 s (at + 4 + input_length s at)

-- all of it lies within s, and the input has a job, a policy byte and a d
unfoldable pub fits : List ℕ → ℕ → Bool
fits s at =
    leb (at + 8) (length s)
    && leb 10 (input_length s at)
    && leb (at + 8 + input_length s at) (length s)
    && leb (at + 8 + input_length s at + answer_length s at) (length s)

-- the same as facts
pub record Fits (s : List ℕ) (at : ℕ) : Type 0 where
  pub front : 10 ≤ input_length s at
  pub input : at + 8 + input_length s at ≤ length s
  pub answer : at + 8 + input_length s at + answer_length s at ≤ length s

-- the bytes of what writing the input's cell or library answers
unfoldable pub defined_at : List ℕ → ℕ → List ℕ
defined_at s at = answer_bytes (number_at 1 s (at + 4)) (number_at 1 s (at + 5)) (of_bits binary64 (number_at 8 s (at + 6))) (take (input_length s at - 10) (drop (at + 14) s))

unfoldable pub stored_at : List ℕ → ℕ → List ℕ
stored_at s at = take (answer_length s at) (drop (at + 8 + input_length s at) s)

abbrev pub same_bytes : List ℕ → List ℕ → Bool
same_bytes [] [] = true
same_bytes [] (b ∷ t) = false
same_bytes (a ∷ s) [] = false
same_bytes (a ∷ s) (b ∷ t) = eqb a b && same_bytes s t

unfoldable pub answered_at : List ℕ → ℕ → Bool
answered_at s at = same_bytes (defined_at s at) (stored_at s at)

-- a case that does not fit differs
unfoldable pub agrees_at : List ℕ → ℕ → Bool
agrees_at s at = fits s at && answered_at s at

-- ---- the cases in turn

-- each case starts where the one before it ends; one that does not fit is the last
unfoldable pub next : List ℕ → ℕ → ℕ
next s at = cond (fits s at) (at + 8 + input_length s at + answer_length s at) (length s)

-- for each case from a place on whether it agrees, up to as many cases as the first number says
unfoldable pub verdicts_from : ℕ → List ℕ → ℕ → List Bool
verdicts_from zero s at = []
verdicts_from (suc k) s at = cond (ltb at (length s)) (agrees_at s at ∷ verdicts_from k s (next s at)) []

-- for each case: a case has a byte at least
unfoldable pub verdicts : List ℕ → List Bool
verdicts s = verdicts_from (length s) s 0

abbrev pub differing : List Bool → ℕ
differing [] = 0
differing (v ∷ vs) = cond v 0 1 + differing vs

abbrev pub tally_of : List Bool → Tally
tally_of vs = record { cases = length vs; differ = differing vs }
