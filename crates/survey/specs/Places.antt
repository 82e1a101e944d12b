-- The pitch survey (document 02, request 12): of the places of a row, how many are converted with no report entry due, how many with one due, and how many are refused. Assumes nothing.
use Rattle.std.specs.Prelude.{◌≡◌, Bool, true, false, ◌&&◌, cond, [], ◌∷◌, ℕ, zero, suc, ◌+◌, ◌*◌, ◌^◌, ◌<◌, T, leb, ℤ, pos, Float}
use Rattle.std.specs.Float.{binary64}
use Rattle.std.specs.Float.Ieee.{mul, of_int, fits}
use Rattle.std.specs.Float.Ieee.Positive.{positive}
use Rattle.std.specs.Float.Ieee.Scale.{finite}
use Rattle.binary64.specs.Value.{size_of}
use Rattle.refusal.specs.declared.Refusal.TheVariants as R
use Rattle.conversion.specs.declared.GdsRoundingPolicy.{GdsRoundingPolicy}
use Rattle.conversion.specs.Made.{Made, refused, made, pure, need, ◌>>=◌, ◌>>◌}
use Rattle.conversion.specs.Field.{point_field, no_axis}
use Rattle.conversion.specs.Policy.{caller_policy}
use Rattle.conversion.specs.Convert.{convert_physical}
use Rattle.conversion.specs.Points.{spot}
use Rattle.survey.specs.declared.Placed.{Placed}
use Rattle.survey.specs.declared.Placed.TheVariants as P
use Rattle.survey.specs.declared.Counts.{Counts}

-- ---- one place

-- "place i (0 to n − 1) is i times the pitch by one multiplication": the product of two doubles, rounded once
abbrev pub place_at : Float → ℕ → Float
place_at pitch i = mul binary64 (of_int binary64 (pos i)) pitch

-- what conversion gives: "converted with no report entry due", "converted with one due", "refused". An entry is due where a deviation counts (document 01, "Result three").
abbrev pub placed : Made ℤ → Placed
placed (refused r) = P.Refused
placed (made q []) = P.Clean
placed (made q (v ∷ vs)) = P.Due

-- The field that a deviation would name makes no difference here.
unfoldable pub placed_at : GdsRoundingPolicy → Float → Float → ℕ → Placed
placed_at policy d pitch i = placed (convert_physical policy d (spot point_field no_axis 0) (place_at pitch i))

-- ---- the counts

-- the number of places i below n for which f holds
unfoldable pub count_of : (ℕ → Bool) → ℕ → ℕ
count_of f zero = 0
count_of f (suc n) = count_of f n + cond (f n) 1 0

abbrev pub is_clean : Placed → Bool
is_clean P.Clean = true
is_clean P.Due = false
is_clean P.Refused = false

abbrev pub is_due : Placed → Bool
is_due P.Clean = false
is_due P.Due = true
is_due P.Refused = false

abbrev pub is_refused : Placed → Bool
is_refused P.Clean = false
is_refused P.Due = false
is_refused P.Refused = true

-- "Each count is the number of places for which conversion gives that answer"
unfoldable pub counted : GdsRoundingPolicy → Float → Float → ℕ → Counts
counted policy d pitch n =
    record {
      clean = count_of (λ i. is_clean (placed_at policy d pitch i)) n;
      due = count_of (λ i. is_due (placed_at policy d pitch i)) n;
      refused = count_of (λ i. is_refused (placed_at policy d pitch i)) n;
    }

-- ---- the checks, and the answer

-- "33 n outside 1 to 65,536"
abbrev pub max_places : ℕ
max_places = 65536

abbrev pub places_fit : ℕ → Bool
places_fit n = leb 1 n && leb n max_places

-- "A pitch that is not finite gives 17, after 33." No place's refusal refuses the survey.
unfoldable pub survey_of : GdsRoundingPolicy → Float → Float → ℕ → Made Counts
survey_of policy d pitch n = do
  need (places_fit n) R.SurveyCount
  need (finite pitch) R.NotFinite
  pure (counted policy d pitch n)

-- with the policy by its number: "33 .. after 2", and 1 comes before that
unfoldable pub survey_pitch : ℕ → Float → Float → ℕ → Made Counts
survey_pitch m d pitch n = do
  policy ← caller_policy m d
  survey_of policy d pitch n

-- ---- what holds of them

-- "and together they make n"
abbrev pub Together : Type 0
Together = (policy : GdsRoundingPolicy) (d pitch : Float) (n : ℕ) → (counted policy d pitch n).clean + (counted policy d pitch n).due + (counted policy d pitch n).refused ≡ n

-- The first place is 0 or -0, and is never disturbed.
abbrev pub FirstClean : Type 0
FirstClean = (policy : GdsRoundingPolicy) (d pitch : Float) → T (positive d) → T (finite pitch) → placed_at policy d pitch 0 ≡ P.Clean

-- A positive pitch that is exactly m times the unit disturbs no place that is finite and within 32 bits: so d itself, and d times a power of two. Exactly: both as whole numbers of 2 ^ -1074.
abbrev pub MultipleClean : Type 0
MultipleClean =
    (policy : GdsRoundingPolicy) (d pitch : Float) (m i : ℕ) → T (fits binary64 d) → T (fits binary64 pitch) → T (positive d) → T (positive pitch)
    → size_of pitch ≡ m * size_of d → i * m < 2 ^ 31 → T (finite (place_at pitch i)) → placed_at policy d pitch i ≡ P.Clean
