-- Finite and positive, for code: a double is finite where it lies strictly between the two infinities, and positive where between 0 and the infinity. Assumes nothing.
use mathlib.Core.Path.{◌≡◌, refl, sym, ◌∙◌}
use mathlib.Core.Bool.{true, false, true≢false}
use Prim.Native.Nat.{ℕ, zero, suc, ◌*◌, ◌<◌, ◌≤◌}
use native.Mathlib.Nat.{mul-pos, zero-lt-suc}
use native.Mathlib.Omega.{arith}
use lib.Dec.{ltb}
use lib.Ieee.{Float, nan, inf, fin, binary64, lt, of_bits, up, down}
use lib.Ieee.Fits.{up_pos}
use lib.Ieee.Positive.{positive}
use lib.Ieee.Scale.{finite}
use borrow.Author.Tests.{le-ltb, lt-ltb}

-- ---- above minus infinity

pub finite-below : (x : Float) → lt (of_bits binary64 0xfff0_0000_0000_0000) x ≡ true → lt x (of_bits binary64 0x7ff0_0000_0000_0000) ≡ finite x
unfolding lt of_bits
finite-below nan h = refl
finite-below (inf true) h = absurd (true≢false (sym h))
finite-below (inf false) h = refl
finite-below (fin s m e) h = refl

pub finite-not : (x : Float) → lt (of_bits binary64 0xfff0_0000_0000_0000) x ≡ false → false ≡ finite x
unfolding lt of_bits
finite-not nan h = refl
finite-not (inf s) h = refl
finite-not (fin s m e) h = absurd (true≢false h)

-- 0 < m * u / d, as `lt` has it, where m is above 0
above_zero : (m u d : ℕ) → 0 < u → ltb (0 * 1 * d) (m * u * 1) ≡ ltb 0 m
above_zero zero u d U = le-ltb (0 * 1 * d) (zero * u * 1) (go u d)
  where
    go : (u d : ℕ) → zero * u * 1 ≤ 0 * 1 * d
    go u d = omega arith
above_zero (suc m) u d U = lt-ltb (0 * 1 * d) (suc m * u * 1) (go (suc m * u) d (mul-pos (zero-lt-suc m) U)) ∙ sym (lt-ltb 0 (suc m) (omega arith))
  where
    go : (a d : ℕ) → 0 < a → 0 * 1 * d < a * 1
    go a d h = omega arith

-- ---- above 0

pub positive-below : (x : Float) → lt (of_bits binary64 0) x ≡ true → lt x (of_bits binary64 0x7ff0_0000_0000_0000) ≡ positive x
unfolding lt of_bits
positive-below nan h = absurd (true≢false (sym h))
positive-below (inf true) h = absurd (true≢false (sym h))
positive-below (inf false) h = refl
positive-below (fin true m e) h = absurd (true≢false (sym h))
positive-below (fin false m e) h = sym h ∙ above_zero m (up e) (down e) (up_pos e)

pub positive-not : (x : Float) → lt (of_bits binary64 0) x ≡ false → false ≡ positive x
unfolding lt of_bits
positive-not nan h = refl
positive-not (inf s) h = refl
positive-not (fin true m e) h = refl
positive-not (fin false m e) h = sym h ∙ above_zero m (up e) (down e) (up_pos e)
