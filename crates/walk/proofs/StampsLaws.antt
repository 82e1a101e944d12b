-- The stamps of a block as the data of a record: its own bytes, with no number worked out. Assumes nothing.
use mathlib.Core.Path.{◌≡◌, refl, sym, ap, ap₂, ◌∙◌}
use mathlib.Core.List.{List, [], ◌∷◌, ◌++◌}
use Prim.Native.Nat.{ℕ, zero, suc, ◌+◌, ◌-◌, ◌*◌, ◌/◌, ◌%◌, ◌≤◌, ◌<◌}
use native.Mathlib.Nat.{add-sub_cancel_left}
use native.Mathlib.Omega.{arith}
use lib.ListN.{length, get_or, take, drop, length-take, length-drop}
use Rattle.big_endian.specs.Big.{Bytes, bytes_of}
use Rattle.big_endian.proofs.PlaceLaws.{two, number-two}
use Rattle.stream.specs.Records.{words_bytes}
use Rattle.block_places.specs.code.Place.{values_from, words_from}

-- a number of two bytes, as its bytes
word_back : (x y : ℕ) → x < 256 → y < 256 → bytes_of 2 (x * 256 + y) ≡ x ∷ y ∷ []
word_back x y h k = ap₂ (λ (a b : ℕ). a ∷ b ∷ []) (high x y h k) (low x y h k)
  where
    high : (x y : ℕ) → x < 256 → y < 256 → (x * 256 + y) / 256 % 256 ≡ x
    high x y h k = omega arith

    low : (x y : ℕ) → x < 256 → y < 256 → (x * 256 + y) / 1 % 256 ≡ y
    low x y h k = omega arith

-- n numbers, as the bytes that they were read from
words_back : (n : ℕ) (b : List ℕ) (at : ℕ) → Bytes b → at + 2 * n ≤ length b → words_bytes (words_from n b at) ≡ take (2 * n) (drop at b)
unfolding values_from
words_back zero b at h l = refl
words_back (suc n) b at h l =
    let x = get_or b at 0 in
    let y = get_or b (at + 1) 0 in
    let z : 2 * suc n ≡ suc (suc (2 * n)) = omega arith in
    ap₂ ◌++◌ (ap (bytes_of 2) (number-two b at (omega arith)) ∙ word_back x y (h at) (h (at + 1))) (words_back n b (at + 2) h (omega arith))
    ∙ sym (ap₂ take z (two b at (omega arith)))

-- the part of the block from `at` on that is lent
pub stamps-length : (b : List ℕ) (at : ℕ) → at + 24 ≤ length b → length (take (at + 24 - at) (drop at b)) ≡ 24
stamps-length b at l = let e = add-sub_cancel_left at 24 in simp (length-take, length-drop) (omega arith)

pub stamps-back : (b : List ℕ) (at : ℕ) → Bytes b → at + 24 ≤ length b → take (at + 24 - at) (drop at b) ≡ words_bytes (words_from 12 b at)
stamps-back b at h l = ap (λ (m : ℕ). take m (drop at b)) (add-sub_cancel_left at 24) ∙ sym (words_back 12 b at h l)
