-- The refusals' numbers. Assumes nothing.
use mathlib.Core.Path.{◌≡◌, refl, sym, ap, ◌∙◌}
use mathlib.Core.List.{List, [], ◌∷◌}
use Prim.Native.Nat.{ℕ, ◌<◌}
use native.Mathlib.Omega.{arith}
use lib.ListN.{get_or}
use Rattle.refusal.specs.declared.Refusal.{Refusal}
use Rattle.refusal.specs.declared.Refusal.TheVariants as R
use Rattle.refusal.specs.Number.{number}

-- no refusal has the number 0, which says that nothing is refused
pub number-above : (r : Refusal) → 0 < number r
number-above R.Policy = omega arith
number-above R.DatabaseUnit = omega arith
number-above R.SheetSize = omega arith
number-above R.Pairs = omega arith
number-above R.Form = omega arith
number-above R.Stamp = omega arith
number-above R.Name = omega arith
number-above R.PointCount = omega arith
number-above R.LayerOrType = omega arith
number-above R.StringLength = omega arith
number-above R.ColumnsOrRows = omega arith
number-above R.Spacing = omega arith
number-above R.Magnification = omega arith
number-above R.Real = omega arith
number-above R.SineOrCosine = omega arith
number-above R.SourceUnit = omega arith
number-above R.NotFinite = omega arith
number-above R.OffGrid = omega arith
number-above R.OutOfRange = omega arith
number-above R.NotClosed = omega arith
number-above R.OutputShort = omega arith
number-above R.ReportShort = omega arith
number-above R.LibraryForm = omega arith
number-above R.LibraryUnits = omega arith
number-above R.LibraryName = omega arith
number-above R.Flags = omega arith
number-above R.Attribute = omega arith
number-above R.NotStructure = omega arith
number-above R.InexactReal = omega arith
number-above R.ArrayCorners = omega arith
number-above R.Bounds = omega arith
number-above R.SurveyCount = omega arith

-- ---- no two refusals have the same number

-- by number; a number that no refusal has is taken by the first
by_number : List Refusal
by_number =
    R.Policy ∷ R.Policy ∷ R.DatabaseUnit ∷ R.SheetSize ∷ R.Pairs ∷ R.Form
    ∷ R.Stamp ∷ R.Name ∷ R.PointCount ∷ R.LayerOrType ∷ R.StringLength ∷ R.ColumnsOrRows
    ∷ R.Spacing ∷ R.Magnification ∷ R.Real ∷ R.SineOrCosine ∷ R.SourceUnit ∷ R.NotFinite
    ∷ R.OffGrid ∷ R.OutOfRange ∷ R.NotClosed ∷ R.OutputShort ∷ R.ReportShort ∷ R.LibraryForm
    ∷ R.LibraryUnits ∷ R.LibraryName ∷ R.Flags ∷ R.Attribute ∷ R.NotStructure ∷ R.InexactReal
    ∷ R.ArrayCorners ∷ R.Policy ∷ R.Bounds ∷ R.SurveyCount ∷ []

numbered : (r : Refusal) → get_or by_number (number r) R.Policy ≡ r
unfolding by_number
numbered R.Policy = refl
numbered R.DatabaseUnit = refl
numbered R.SheetSize = refl
numbered R.Pairs = refl
numbered R.Form = refl
numbered R.Stamp = refl
numbered R.Name = refl
numbered R.PointCount = refl
numbered R.LayerOrType = refl
numbered R.StringLength = refl
numbered R.ColumnsOrRows = refl
numbered R.Spacing = refl
numbered R.Magnification = refl
numbered R.Real = refl
numbered R.SineOrCosine = refl
numbered R.SourceUnit = refl
numbered R.NotFinite = refl
numbered R.OffGrid = refl
numbered R.OutOfRange = refl
numbered R.NotClosed = refl
numbered R.OutputShort = refl
numbered R.ReportShort = refl
numbered R.LibraryForm = refl
numbered R.LibraryUnits = refl
numbered R.LibraryName = refl
numbered R.Flags = refl
numbered R.Attribute = refl
numbered R.NotStructure = refl
numbered R.InexactReal = refl
numbered R.ArrayCorners = refl
numbered R.Bounds = refl
numbered R.SurveyCount = refl

pub number-once : (q r : Refusal) → number q ≡ number r → q ≡ r
number-once q r e = sym (numbered q) ∙ ap (λ (n : ℕ). get_or by_number n R.Policy) e ∙ numbered r
