-- Stamps: "6 stamp not a date (Gregorian throughout) and time of years 1 to 9999" (document 01, "Who can cause which refusal"; timestamp.rs). Assumes nothing.
use Rattle.std.specs.Prelude.{Bool, true, not, ◌&&◌, ◌||◌, cond, List, [], ◌∷◌, ℕ, ◌+◌, ◌%◌, leb, eqb, get_or}
use Rattle.cell.specs.Limits.{within}

abbrev pub is_leap : ℕ → Bool
is_leap y = eqb (y % 4) 0 && not (eqb (y % 100) 0) || eqb (y % 400) 0

unfoldable pub days_in : ℕ → ℕ → ℕ
days_in y m =
    cond (eqb m 2) (cond (is_leap y) 29 28)
    (cond (eqb m 4 || eqb m 6 || eqb m 9 || eqb m 11) 30 31)

-- year, month, day, hour, minute, second; "seconds run from 0 to 59"
unfoldable pub is_date : ℕ → ℕ → ℕ → ℕ → ℕ → ℕ → Bool
is_date y m d h n s = within 1 y 9999 && within 1 m 12 && within 1 d (days_in y m) && leb h 23 && leb n 59 && leb s 59

-- the six numbers from place k on
unfoldable pub stamp_fits : ℕ → List ℕ → Bool
stamp_fits k t = is_date (get_or t k 0) (get_or t (k + 1) 0) (get_or t (k + 2) 0) (get_or t (k + 3) 0) (get_or t (k + 4) 0) (get_or t (k + 5) 0)

abbrev pub all_zero : List ℕ → Bool
all_zero [] = true
all_zero (n ∷ ns) = eqb n 0 && all_zero ns

-- the head's twelve numbers, "two stamps"; "all twelve zero is `ZERO`"
unfoldable pub stamps_fit : List ℕ → Bool
stamps_fit t = all_zero t || stamp_fits 0 t && stamp_fits 6 t
