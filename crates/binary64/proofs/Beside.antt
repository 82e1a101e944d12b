-- A fraction a / c rounded, beside a double y: rounding takes it to the other side of y never (`size_below`, `size_above`), and not beyond the format where y is not (`finite-below`). Assumes nothing.
use mathlib.Core.Path.{◌≡◌, sym, ap, ◌∙◌}
use mathlib.Core.Bool.{Bool, false}
use Prim.Native.Nat.{ℕ, ◌+◌, ◌*◌, ◌^◌, ◌≤◌, ◌<◌}
use native.Mathlib.Nat.{le_trans, le_of_eq, lt_of_lt_of_le}
use native.Mathlib.Omega.{arith}
use lib.Dec.{T}
use lib.Pow.{pow_pos, shl_lt, pow_mono}
use lib.Ieee.{Float, binary64, round, fits}
use lib.Ieee.Exact.{HasValue, round_exact}
use lib.Ieee.Order.{round_mono}
use lib.Ieee.Scale.{grid, finite}
use Rattle.binary64.specs.Value.{unit, size_of}
use Rattle.binary64.proofs.ValueLaws.{size-of-value}
use Rattle.binary64.proofs.Half.{round_under, round_val}
use Rattle.binary64.proofs.Order.{has-finite, grid-order, under-of-le, under-finite}
use Rattle.binary64.proofs.Snapping.{by_parts}

module _ (y : Float) (Y : T (fits binary64 y)) (f : T (finite y)) where
  -- y is a fraction that is not rounded
  own : HasValue (round binary64 false (size_of y) unit) false (size_of y) unit
  own = by_parts y Y f (λ s m j p. round_exact binary64 false (size_of y) unit m j (pow_pos 1074) p.digits (fine m j p.digits p.power) (ap (λ (z : ℕ). z * unit) p.size))
    where
      fine : (m j : ℕ) → m < 2 ^ 53 → j < 2046 → m * 2 ^ j < 2 ^ 2098
      fine m j h k = lt_of_lt_of_le (shl_lt 53 j h) (pow_mono (within j k))
        where
          within : (j : ℕ) → j < 2046 → 53 + j ≤ 2098
          within j k = omega arith

  own-finite : T (finite (round binary64 false (size_of y) unit))
  own-finite = has-finite (round binary64 false (size_of y) unit) false (size_of y) unit own

  own-grid : grid binary64 (size_of y) unit ≡ size_of y
  own-grid =
      sym (size-of-value (round binary64 false (size_of y) unit) false (grid binary64 (size_of y) unit) (round_val binary64 false (size_of y) unit own-finite))
      ∙ size-of-value (round binary64 false (size_of y) unit) false (size_of y) own

  module _ (s : Bool) (a c : ℕ) (C : 0 < c) where
    pub finite-below : a * unit ≤ size_of y * c → T (finite (round binary64 s a c))
    finite-below h = under-finite binary64 s a c (under-of-le binary64 a c (round binary64 false (size_of y) unit) own-finite (round_mono binary64 a c (size_of y) unit C (pow_pos 1074) h))

    module _ (g : T (finite (round binary64 s a c))) where
      its-grid : size_of (round binary64 s a c) ≡ grid binary64 a c
      its-grid = size-of-value (round binary64 s a c) s (grid binary64 a c) (round_val binary64 s a c g)

      pub size_below : a * unit ≤ size_of y * c → size_of (round binary64 s a c) ≤ size_of y
      size_below h =
          le_trans (le_of_eq its-grid)
          (le_trans (grid-order binary64 a c (size_of y) unit C (pow_pos 1074) (round_under binary64 s a c g) (round_under binary64 false (size_of y) unit own-finite) h) (le_of_eq own-grid))

      pub size_above : size_of y * c ≤ a * unit → size_of y ≤ size_of (round binary64 s a c)
      size_above h =
          le_trans (le_of_eq (sym own-grid))
          (le_trans (grid-order binary64 (size_of y) unit a c (pow_pos 1074) C (round_under binary64 false (size_of y) unit own-finite) (round_under binary64 s a c g) h) (le_of_eq (sym its-grid)))
