-- Tests as facts: what several files use of `Bool`. Assumes nothing.
use mathlib.Core.Path.{◌≡◌, refl}
use mathlib.Core.Bool.{Bool, true, false, ◌||◌, beq}
use lib.Dec.{T}

-- two tests that pass alike are equal
pub both_ways : (x y : Bool) → (T x → T y) → (T y → T x) → x ≡ y
both_ways true true p q = refl
both_ways true false p q = absurd (p tt)
both_ways false true p q = absurd (q tt)
both_ways false false p q = refl

pub or_split : {X : Type 0} (a b : Bool) → (T a → X) → (T b → X) → T (a || b) → X
or_split true b f g t = f tt
or_split false b f g t = g t

-- `s == t` of two flags
pub same_flag : (s t : Bool) → T (beq s t) → s ≡ t
same_flag true true h = refl
same_flag true false h = absurd h
same_flag false true h = absurd h
same_flag false false h = refl
