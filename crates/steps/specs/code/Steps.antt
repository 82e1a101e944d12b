-- What measuring and writing promise of a step of the definitions (a `Made A` of conversion, whose value has bytes in the structure).
-- A step is run against the element's report entry: it is refused, or its value takes its bytes and the entry its deviations. Measuring tells which;
-- only a step that is not refused is written. Assumes nothing.
use Rattle.std.specs.Prelude.{◌≡◌, List, ℕ, ◌+◌, ◌*◌, length, Result, Ok, Err}
use Rattle.refusal.specs.declared.Refusal.{Refusal}
use Rattle.conversion.specs.declared.Deviation.{Deviation}
use Rattle.conversion.specs.declared.Entry.{Entry}
use Rattle.conversion.specs.Made.{Made, made}
use Rattle.conversion.specs.code.Fold.{noted_all, run}
use Rattle.big_endian.specs.Buffer.{WroteAt}
use Rattle.cell.specs.Limits.{max_points}
use Rattle.steps.specs.declared.Measured.{Measured}
use Rattle.steps.specs.declared.Written.{Written}

-- ---- the entry

-- the most deviations of one element: a path's three lengths, and two coordinates for each of its points
abbrev pub max_deviations : ℕ
max_deviations = 3 + 2 * max_points

-- ---- measuring

-- so many bytes, with the entry after them
abbrev pub through : ℕ → Entry → Result Measured Refusal
through n e = Ok (record { length = n; entry = e })

-- the length of the value's bytes
unfoldable pub sizing : {A : Type 0} → (A → List ℕ) → A → Entry → Result Measured Refusal
sizing bytes a e = through (length (bytes a)) e

-- the answer is the step's: its first refusal, or the length of its bytes and the entry
abbrev pub Measures : {A : Type 0} → (A → List ℕ) → Entry → Made A → Result Measured Refusal → Type 0
Measures bytes e m r = r ≡ run Err e m (sizing bytes)

-- ---- writing

-- the step gives a value: no check refuses it
pub record Succeeds {A : Type 0} (m : Made A) : Type 0 where
  pub value : A
  pub deviations : List Deviation
  pub makes : m ≡ made value deviations

-- The answer and every byte of the output are those of the step's value: its bytes stand from a place on and all others stay; the next byte goes after them, and the entry takes its deviations.
pub record Writes {A : Type 0} (bytes : A → List ℕ) (e : Entry) (m : Made A) (at : ℕ) (before after : List ℕ) (r : Written) : Type 0 where
  pub step : Succeeds m
  pub wrote : WroteAt (bytes step.value) before after at r.to
  pub entry : r.entry ≡ noted_all e step.deviations
