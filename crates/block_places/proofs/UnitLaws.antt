-- A signed number read back from its 32 bits, the lower four of eight bytes, and a coordinate by its kind. Assumes nothing.
use mathlib.Core.Path.{◌≡◌, ap, ◌∙◌}
use mathlib.Core.List.{List}
use Prim.Native.Nat.{ℕ, ◌+◌, ◌*◌, ◌%◌, ◌≤◌, ◌<◌}
use native.Mathlib.Omega.{arith}
use lib.ListN.{length}
use lib.IntN.{ℤ}
use lib.Ieee.{Float}
use mir.Val.{to_z, of_z}
use mir.Facts.{sfits_to_z, to_z-of_z}
use mir.Syntax.{w32}
use Rattle.big_endian.specs.Big.{Bytes, number_at}
use Rattle.big_endian.proofs.PlaceLaws.{number-two, number-four, number-eight}
use Rattle.units.specs.declared.Unit.TheVariants as U
use Rattle.sheet.specs.Form.{integer_kind}
use Rattle.block_places.specs.code.Place.{double_at, unit_at}

-- ---- signed numbers

-- through a local of 32 bits and back
pub back : (n : ℕ) → n < 4294967296 → to_z w32 (of_z w32 (to_z w32 n)) ≡ to_z w32 n
back n h = to_z-of_z {w = w32} {z = to_z w32 n} (sfits_to_z {w = w32} {n = n} (record { fits = h }))

-- ---- the lower four of eight bytes

-- four bytes make a number below 2 ^ 32
pub four-small : (s : List ℕ) (at : ℕ) → at + 4 ≤ length s → Bytes s → number_at 4 s at < 4294967296
four-small s at h b =
    omega (arith, number-four s at h, number-two s at (omega arith), number-two s (at + 2) (omega arith), b at, b (at + 1), b (at + 2), b (at + 2 + 1))

pub lower-four : (s : List ℕ) (at : ℕ) → at + 17 ≤ length s → Bytes s → number_at 8 s (at + 1) % 4294967296 ≡ number_at 4 s (at + 5)
lower-four s at h b =
    go (number_at 8 s (at + 1)) (number_at 4 s (at + 1)) (number_at 4 s (at + 1 + 4)) (number-eight s (at + 1) (omega arith)) (four-small s (at + 1 + 4) (omega arith) b) ∙ ap (number_at 4 s) five
  where
    five : at + 1 + 4 ≡ at + 5
    five = omega arith

    go : (n x y : ℕ) → n ≡ x * 4294967296 + y → y < 4294967296 → n % 4294967296 ≡ y
    go n x y e f = omega arith

-- ---- a coordinate

pub unit-integer : (b : List ℕ) (at : ℕ) {u : Float} → u ≡ double_at b (at + 9) → {v : ℤ} → number_at 1 b at ≡ integer_kind → v ≡ to_z w32 (number_at 4 b (at + 5)) → U.Integer v u ≡ unit_at b at
unfolding unit_at
unit-integer b at f e g = rw (e, f, g)
