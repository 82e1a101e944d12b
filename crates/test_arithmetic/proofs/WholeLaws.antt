-- Each way out of `whole_of`. Assumes nothing.
use Rattle.std.proofs.Common.{◌≡◌, ℕ, ◌*◌, ◌^◌, ◌<◌, ◌≤◌, Bool, true, false, ℤ, lit<, le-ltb, lt-ltb}
use lib.Ieee.{Float}
use lib.Ieee.Scale.{finite}
use Rattle.binary64.specs.Value.{unit, size_of}
use Rattle.binary64.specs.code.Parts.{PartsOf}
use Rattle.binary64.proofs.PartsLaws.{size-under, size-over}
use Rattle.test_arithmetic.specs.declared.Whole.TheVariants.{NotFinite, Beyond, At}
use Rattle.test_arithmetic.specs.Whole.{whole_of}

pub whole-none : (f : Float → ℤ) (x : Float) → finite x ≡ false → NotFinite ≡ whole_of f x
unfolding whole_of
whole-none f x e = rw e

module _ (f : Float → ℤ) (x : Float) (s : Bool) (m j : ℕ) (p : PartsOf x s m j) (e : finite x ≡ true) where
  pub whole-beyond : 1074 ≤ j → Beyond ≡ whole_of f x
  unfolding whole_of
  whole-beyond h = rw (e, le-ltb (size_of x) (2 ^ 52 * unit) (size-over x s m j 1074 p (lit< tt) h))

  pub whole-at : (z : ℤ) → j < 1074 → z ≡ f x → At z ≡ whole_of f x
  unfolding whole_of
  whole-at z h k = rw (k, e, lt-ltb (size_of x) (2 ^ 52 * unit) (size-under x s m j 1074 p h))
