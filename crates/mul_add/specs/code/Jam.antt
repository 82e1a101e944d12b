-- The sticky bit. A number is shifted right and jammed: where a digit that is dropped is not 0, the last digit that is kept is set. This is also called rounding to odd.
-- `JamLaws` of proofs/ has the reason for it: what is jammed rounds as the whole number does. Assumes nothing.
use Rattle.std.specs.Prelude.{Bool, not, cond, ℕ, ◌+◌, ◌*◌, ◌/◌, ◌%◌, ◌^◌, eqb}

-- n, with its last digit set where digits that are not 0 were lost
abbrev pub sticky : Bool → ℕ → ℕ
sticky lost n = cond lost (n / 2 * 2 + 1) n

-- n shifted right by d places and jammed
unfoldable pub jam : ℕ → ℕ → ℕ
jam n d = sticky (not (eqb (n % 2 ^ d) 0)) (n / 2 ^ d)
