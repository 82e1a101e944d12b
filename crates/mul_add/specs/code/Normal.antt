-- Digits in place for the multiplication and for the addition. Assumes nothing.
use Rattle.std.specs.Prelude.{◌≡◌, ℕ, ◌+◌, ◌*◌, ◌%◌, ◌^◌, ◌≤◌, ◌<◌}
use Rattle.mul_add.specs.code.Places.{word}

-- n * 2 ^ e is m * 2 ^ p, normalized: n has 63 digits, and the power is counted with a word's digits more.
-- One digit of the word stays free, so that a product and an addend have a sum of two words. The last two digits are 0, since m is a double's.
pub record Normal (m p n e : ℕ) : Type 0 where
  pub lo : 2 ^ 62 ≤ n
  pub hi : n < 2 ^ 63
  pub even : n % 4 ≡ 0
  pub same : n * 2 ^ e ≡ m * 2 ^ (p + word)
  pub power : e ≤ p + word

-- w * 2 ^ i is ready to be added: w is as long as a product of two normalized numbers, 125 or 126 digits, the last two of them 0, and its power is small.
pub record Ready (w i : ℕ) : Type 0 where
  pub lo : 2 ^ 124 ≤ w
  pub hi : w < 2 ^ 126
  pub even : w % 4 ≡ 0
  pub small : i < 2 ^ 30
