-- The bytes of an answer, as they are put. Assumes nothing.
use mathlib.Core.Path.{◌≡◌, refl, sym, ap, ◌∙◌}
use mathlib.Core.List.{◌∷◌, ◌++◌}
use Prim.Native.Nat.{ℕ, ◌%◌, ◌^◌}
use native.Mathlib.Nat.{mod-mod}
use lib.ListN.{length}
use lib.Ieee.{Float, binary64, to_bits}
use Rattle.big_endian.specs.Big.{bytes_of}
use Rattle.big_endian.proofs.BytesLaws.{bytes-bytes_of, number-once}
use Rattle.big_endian.proofs.BigLaws.{length-bytes_of, number-bytes_of}
use Rattle.test_bytes.specs.Bytes.{front_bytes}

-- what is above the bytes is lost
pub bytes_of_rest : (k v : ℕ) → bytes_of k (v % 256 ^ k) ≡ bytes_of k v
bytes_of_rest k v =
    number-once (bytes_of k (v % 256 ^ k)) (bytes_of k v) (bytes-bytes_of k (v % 256 ^ k)) (bytes-bytes_of k v) (length-bytes_of k (v % 256 ^ k) ∙ sym (length-bytes_of k v))
    (number-bytes_of k (v % 256 ^ k) ∙ mod-mod v (256 ^ k) ∙ sym (number-bytes_of k v))

pub front-is : (n k b : ℕ) (g : Float) → b ≡ to_bits binary64 g → 1 ∷ bytes_of 4 n ++ bytes_of 4 k ++ bytes_of 8 b ≡ front_bytes n k g
unfolding front_bytes
front-is n k b g e = ap (λ (v : ℕ). 1 ∷ bytes_of 4 n ++ bytes_of 4 k ++ bytes_of 8 v) e

pub front_length : (n k : ℕ) (g : Float) → 17 ≡ length (front_bytes n k g)
unfolding front_bytes
front_length n k g = refl
