-- A case is 33 bytes: the number of a function, three operands and the result that another implementation gave, each as the bit pattern of a double, big-endian. Assumes nothing.
use Rattle.std.specs.Prelude.{ℕ, ◌+◌, ◌*◌, Bool, cond, List, [], ◌∷◌, ◌==◌, slice_index, to_bits, Float}
use Rattle.std.specs.Float.{nan, binary64}
use Rattle.std.specs.Float.Ieee.{of_int}
use Rattle.std.specs.Float.Ieee.Scale.{finite}
use Rattle.std.specs.Float.Ieee.Positive.{positive}
use Rattle.big_endian.specs.Big.{number_at}
use Rattle.test_arithmetic.specs.declared.Whole.{Whole}
use Rattle.test_arithmetic.specs.declared.Whole.TheVariants.{NotFinite, Beyond, At}
use Rattle.binary64.specs.Value.{round_away, floor_of, ceil_of}
use Rattle.test_arithmetic.specs.Whole.{whole_of}
use Rattle.binary64.specs.Step.{one_step}
use Rattle.binary64.specs.Fma.{fma}
use Rattle.test_report.specs.Cases.{double_at}

-- the answer of a rounding of x as a double: from 2 ^ 52 on x is whole itself
abbrev pub double_of : Float → Whole → Float
double_of x NotFinite = nan
double_of x Beyond = x
double_of x (At z) = of_int binary64 z

abbrev pub one_of : Bool → ℕ
one_of b = cond b 1 0

-- the results of the functions, in the order of their numbers
unfoldable pub results : Float → Float → Float → List ℕ
results x y z =
    to_bits binary64 (fma binary64 x y z)
    ∷ to_bits binary64 (double_of x (whole_of round_away x))
    ∷ to_bits binary64 (double_of x (whole_of floor_of x))
    ∷ to_bits binary64 (double_of x (whole_of ceil_of x))
    ∷ one_of (one_step x y)
    ∷ to_bits binary64 x
    ∷ one_of (finite x)
    ∷ one_of (positive x)
    ∷ []

-- whether case k has the result that its function gives; a number beyond the functions gives 0
unfoldable pub agrees : List ℕ → ℕ → Bool
agrees s k = slice_index (results (double_at s (33 * k + 1)) (double_at s (33 * k + 9)) (double_at s (33 * k + 17))) (number_at 1 s (33 * k)) == number_at 8 s (33 * k + 25)
