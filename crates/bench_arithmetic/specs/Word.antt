-- What is measured of a conversion: its database value in 32 bits, and whether a report entry is due. Assumes nothing.
use Rattle.std.specs.Prelude.{[], ◌∷◌, ℕ, ◌+◌, ◌^◌, ℤ}
use Rattle.std.specs.Int.{w32}
use Rattle.std.proofs.Common.{of_z}
use Rattle.conversion.specs.Made.{Made, refused, made}

abbrev pub word_of : Made ℤ → ℕ
word_of (refused r) = 2 ^ 33
word_of (made q []) = of_z w32 q
word_of (made q (v ∷ vs)) = 2 ^ 32 + of_z w32 q
