-- Eight-byte reals read as doubles (document 02, request 8). Assumes nothing.
-- A real's value is a whole number of 2 ^ -1074, which has no minus zero: "A real equal to zero is read as plus zero."
use Rattle.std.specs.Prelude.{Bool, true, false, cond, List, ℕ, ℤ, pos, negsuc, nat_abs, Float}
use Rattle.std.proofs.Math.Option.{Option, none, some}
use Rattle.std.specs.Float.{binary64}
use Rattle.std.specs.Float.Ieee.{round}
use Rattle.binary64.specs.Value.{unit, scaled, same_int}
use Rattle.gds_format.specs.Real8.{real8_value}

abbrev pub below0 : ℤ → Bool
below0 (pos n) = false
below0 (negsuc n) = true

-- the double nearest to v * 2 ^ -1074
unfoldable pub double_near : ℤ → Float
double_near v = round binary64 (below0 v) (nat_abs v) unit

-- The double that equals the eight bytes, if one does; it is the nearest then. "29 a real that no double equals"
unfoldable pub double_of : List ℕ → Option Float
double_of b =
    let v = real8_value b in
    cond (same_int (scaled (double_near v)) v) (some (double_near v)) none
