-- What is answered of a row's places is as known; and what the promise of `survey_pitch` gives whoever keeps it. Assumes nothing.
use mathlib.Core.Path.{◌≡◌, refl, ap, ◌∙◌}
use mathlib.Core.Bool.{true}
use mathlib.Core.List.{List, [], ◌∷◌}
use mathlib.Core.Option.{Option, none, some}
use Prim.Native.Nat.{ℕ, ◌+◌}
use lib.Dec.{T, eqb, lit<}
use lib.Ieee.{Float, binary64, of_bits, fits}
use lib.Ieee.Bits.{is_true as on}
use lib.Ieee.Positive.{positive}
use lib.Ieee.Scale.{finite}
use Rattle.refusal.specs.declared.Refusal.TheVariants as R
use Rattle.conversion.specs.declared.GdsRoundingPolicy.{GdsRoundingPolicy}
use Rattle.conversion.specs.declared.GdsRoundingPolicy.TheVariants.{Nearest}
use Rattle.conversion.specs.Made.{Made, pure, need, ◌>>=◌, ◌>>◌}
use Rattle.conversion.specs.Policy.{policy_of, caller_policy}
use Rattle.conversion.proofs.MadeLaws.{need-on, then-pure}
use Rattle.conversion.proofs.PolicyLaws.{caller-with}
use Rattle.survey.specs.declared.Placed.{Placed}
use Rattle.survey.specs.declared.Placed.TheVariants.{Clean, Refused}
use Rattle.survey.specs.declared.Counts.{Counts}
use Rattle.survey.specs.Places.{placed_at, count_of, is_clean, is_due, is_refused, counted, max_places, places_fit, survey_of, survey_pitch}
use Rattle.survey.specs.Answer.{answer_of, Values, values_of}
use Rattle.survey.specs.Survey.{SurveysPitch}
use Rattle.survey.proofs.CleanLaws.{first-clean, multiple-clean}
use Rattle.cases.specs.Doubles.{minus, least, half, one, i32_max, greatest, nearest}
use Rattle.cases.specs.Survey.{Row, Place, tenth, four_tenths, limits, orders, surveys, places}
use Rattle.cases.proofs.Open.{opened}

-- ---- the rows

-- what the definitions say of a row
abbrev pub found : List Row → List Row
found [] = []
found (r ∷ rs) =
    record {
      policy = r.policy;
      unit = r.unit;
      pitch = r.pitch;
      places = r.places;
      says = values_of (answer_of (survey_pitch r.policy (of_bits binary64 r.unit) (of_bits binary64 r.pitch) r.places));
    }
    ∷ found rs

pub limits-hold : found limits ≡ limits
unfolding opened limits
limits-hold = refl

pub orders-hold : found orders ≡ orders
unfolding opened orders
orders-hold = refl

pub surveys-hold : found surveys ≡ surveys
unfolding opened surveys
surveys-hold = refl

-- and of a place, the policy's number being one of the four
abbrev gives : Option GdsRoundingPolicy → Float → Float → ℕ → Placed
gives none d pitch i = Refused
gives (some p) d pitch i = placed_at p d pitch i

abbrev pub given : List Place → List Place
given [] = []
given (r ∷ rs) =
    record {
      policy = r.policy;
      unit = r.unit;
      pitch = r.pitch;
      place = r.place;
      gives = gives (policy_of r.policy) (of_bits binary64 r.unit) (of_bits binary64 r.pitch) r.place;
    }
    ∷ given rs

pub places-hold : given places ≡ places
unfolding opened places
places-hold = refl

-- ---- the greatest number of places, whose counts are left as they stand

pub most-places : survey_pitch nearest (of_bits binary64 one) (of_bits binary64 half) max_places ≡ pure (counted Nearest (of_bits binary64 one) (of_bits binary64 half) 65536)
unfolding survey_pitch survey_of caller_policy policy_of ◌>>=◌ ◌>>◌ need of_bits
most-places = refl

-- ---- a count is of the numbers below n

pub counts_all : count_of (λ i. true) 4 ≡ 4
unfolding count_of
counts_all = refl

pub counts-last : count_of (λ i. eqb i 3) 4 ≡ 1
unfolding count_of
counts-last = refl

pub counts-no-more : count_of (λ i. eqb i 4) 4 ≡ 0
unfolding count_of
counts-no-more = refl

-- ---- what the promise says, of every policy, unit, pitch and number of places that pass

module _ (m : ℕ) (policy : GdsRoundingPolicy) (d pitch : Float) (n : ℕ) (v : Values)
    (named : policy_of m ≡ some policy) (D : T (positive d)) (N : T (places_fit n)) (P : T (finite pitch)) (h : SurveysPitch m d pitch n v) where
  passes : survey_pitch m d pitch n ≡ pure (counted policy d pitch n)
  unfolding survey_pitch survey_of
  passes = then-pure _ (caller-with m d policy named (on (positive d) D)) (need-on (places_fit n) R.SurveyCount _ (on (places_fit n) N) ∙ need-on (finite pitch) R.NotFinite _ (on (finite pitch) P))

  promised : v ≡ values_of (answer_of (pure (counted policy d pitch n)))
  promised = h.answer ∙ ap (λ (x : Made Counts). values_of (answer_of x)) passes

  pub accepted : v.number ≡ 0
  accepted = ap (λ (x : Values). x.number) promised

  pub clean-counted : v.clean ≡ count_of (λ i. is_clean (placed_at policy d pitch i)) n
  unfolding counted
  clean-counted = ap (λ (x : Values). x.clean) promised

  pub due-counted : v.due ≡ count_of (λ i. is_due (placed_at policy d pitch i)) n
  unfolding counted
  due-counted = ap (λ (x : Values). x.due) promised

  pub refused-counted : v.refused ≡ count_of (λ i. is_refused (placed_at policy d pitch i)) n
  unfolding counted
  refused-counted = ap (λ (x : Values). x.refused) promised

  pub n-together : v.clean + v.due + v.refused ≡ n
  n-together = h.together accepted

-- ---- places that are never disturbed

-- the first, also of a pitch below 0 and of the least unit
pub first-always-clean : (policy : GdsRoundingPolicy) → placed_at policy (of_bits binary64 least) (of_bits binary64 (minus greatest)) 0 ≡ Clean
unfolding opened
first-always-clean policy = first-clean policy (of_bits binary64 least) (of_bits binary64 (minus greatest)) tt tt

-- those of a pitch that is exactly a whole number of units: 0.4 is four times 0.1
pub four-tenths-clean : (policy : GdsRoundingPolicy) → placed_at policy (of_bits binary64 tenth) (of_bits binary64 four_tenths) 65535 ≡ Clean
unfolding opened fits
four-tenths-clean policy = multiple-clean policy (of_bits binary64 tenth) (of_bits binary64 four_tenths) 4 65535 tt tt tt tt refl (lit< tt) tt

-- as far as 32 bits go
pub most-units-clean : (policy : GdsRoundingPolicy) → placed_at policy (of_bits binary64 one) (of_bits binary64 i32_max) 1 ≡ Clean
unfolding opened fits
most-units-clean policy = multiple-clean policy (of_bits binary64 one) (of_bits binary64 i32_max) 2147483647 1 tt tt tt tt refl (lit< tt) tt
