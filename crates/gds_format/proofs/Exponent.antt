-- The exponent's seven bits and its remainder, between the limits, as plain numbers. Assumes nothing.
-- A magnitude of 53 digits, the last of which stands for 2 ^ j units, has the binary exponent j - 1022. Between the limits j is from 762 to 1273.
use mathlib.Core.Path.{◌≡◌, ap}
use Prim.Native.Nat.{ℕ, suc, ◌+◌, ◌-◌, ◌/◌, ◌%◌, ◌≤◌, ◌<◌}
use native.Mathlib.Omega.{arith}
use lib.IntN.{pos, negsuc, sub_ℕ, ◌+ℤ◌, ◌-ℤ◌}
use Rattle.binary64.specs.Value.{floor_div}
use Rattle.gds_format.specs.Real8.{floor_mod}
use Rattle.gds_format.proofs.FloorDivision.{sub_cases}

pub bits_is : (j : ℕ) → 762 ≤ j → floor_div (pos j -ℤ pos 1022) 4 +ℤ pos 65 ≡ pos ((j - 762) / 4)
unfolding floor_div
bits_is j h = sub_cases j 1022 (λ z. floor_div z 4 +ℤ pos 65 ≡ pos ((j - 762) / 4)) low (λ l. ap pos (omega arith))
  where
    low : j < 1022 → sub_ℕ 65 (suc ((1022 - suc j) / 4)) ≡ pos ((j - 762) / 4)
    low l = sub_cases 65 (suc ((1022 - suc j) / 4)) (λ z. z ≡ pos ((j - 762) / 4)) (λ m. absurd (no m)) (λ m. ap pos (omega arith))
      where
        no : 65 < suc ((1022 - suc j) / 4) → ⊥
        no m = omega arith

pub mod-is : (j : ℕ) → 762 ≤ j → floor_mod (pos j -ℤ pos 1022) 4 ≡ (j - 762) % 4
unfolding floor_mod
mod-is j h = sub_cases j 1022 (λ z. floor_mod z 4 ≡ (j - 762) % 4) (λ l. omega arith) (λ l. omega arith)

-- the binary exponent from the number of digits
pub same-exponent : (j : ℕ) → pos (53 + j) -ℤ pos 1075 ≡ pos j -ℤ pos 1022
same-exponent j = sub_cases (53 + j) 1075 (λ z. z ≡ pos j -ℤ pos 1022) below above
  where
    below : 53 + j < 1075 → negsuc (1075 - suc (53 + j)) ≡ sub_ℕ j 1022
    below l = sub_cases j 1022 (λ z. negsuc (1075 - suc (53 + j)) ≡ z) (λ m. ap negsuc (omega arith)) (λ m. absurd (no m))
      where
        no : 1022 ≤ j → ⊥
        no m = omega arith

    above : 1075 ≤ 53 + j → pos (53 + j - 1075) ≡ sub_ℕ j 1022
    above l = sub_cases j 1022 (λ z. pos (53 + j - 1075) ≡ z) (λ m. absurd (no m)) (λ m. ap pos (omega arith))
      where
        no : j < 1022 → ⊥
        no m = omega arith
