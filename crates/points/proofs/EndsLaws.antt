-- An answer with the ends of the points, as an answer of measuring. Assumes nothing.
use mathlib.Core.Path.{◌≡◌, refl, ap, ◌∙◌}
use mathlib.Core.List.{List, [], ◌∷◌}
use Prim.Native.Nat.{ℕ}
use lib.ListN.{length}
use lib.IntN.{ℤ}
use Rattle.std.specs.Prelude.{Result, Err}
use Rattle.refusal.specs.declared.Refusal.{Refusal}
use Rattle.units.specs.Point.{Point}
use Rattle.conversion.specs.declared.Deviation.{Deviation}
use Rattle.conversion.specs.declared.Entry.{Entry}
use Rattle.conversion.specs.Made.{Made, refused, made}
use Rattle.conversion.specs.code.Fold.{noted_all, run}
use Rattle.steps.specs.code.Steps.{through as measured, sizing, Measures}
use Rattle.points.specs.declared.Walked.{Walked}
use Rattle.points.specs.code.Walk.{through, walked, with_length}

pub ends-length : (n : ℕ) (ps : List (Point ℤ)) (e : Entry) → with_length n (walked ps e) ≡ measured n e
unfolding walked through
ends-length n [] e = refl
ends-length n (p ∷ ps) e = refl

-- a step whose value a has the points `points a`, and n bytes
module _ {A : Type 0} (points : A → List (Point ℤ)) (bytes : A → List ℕ) (e : Entry) (n : ℕ) where
  abbrev pub Sized : Made A → Type 0
  Sized m = (a : A) (vs : List Deviation) → m ≡ made a vs → n ≡ length (bytes a)

  pub ends-measured : (m : Made A) → Sized m → (r : Result Walked Refusal) → r ≡ run Err e m (λ a e'. walked (points a) e') → Measures bytes e m (with_length n r)
  unfolding run sizing
  ends-measured (refused x) s r h = ap (with_length n) h
  ends-measured (made a vs) s r h = ap (with_length n) h ∙ ends-length n (points a) (noted_all e vs) ∙ ap (λ (k : ℕ). measured k (noted_all e vs)) (s a vs refl)
