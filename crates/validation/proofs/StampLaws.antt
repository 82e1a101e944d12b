-- The twelve numbers of two stamps by their places. Assumes nothing.
use mathlib.Core.Path.{◌≡◌, ap, ◌∙◌}
use mathlib.Core.Bool.{Bool, true, ◌&&◌}
use mathlib.Core.List.{List}
use Prim.Native.Nat.{ℕ, zero, suc, ◌+◌, ◌-◌, ◌*◌, ◌≤◌, ◌<◌}
use native.Mathlib.Omega.{arith}
use lib.Dec.{eqb}
use lib.ListN.{get_or}
use Rattle.big_endian.specs.Big.{number_at}
use Rattle.block_places.specs.code.Place.{values_from, words_from}
use Rattle.cell.specs.Stamps.{is_date, stamp_fits, all_zero}

-- ---- numbers in a row

-- the number of index i, by its place
word-is : (n i : ℕ) (b : List ℕ) (at to : ℕ) → i < n → to ≡ at + 2 * i → get_or (words_from n b at) i 0 ≡ number_at 2 b to
unfolding values_from
word-is zero i b at to h e = absurd (omega arith)
word-is (suc n) zero b at to h e = ap (number_at 2 b) (go at to e)
  where
    go : (at to : ℕ) → to ≡ at + 2 * 0 → at ≡ to
    go at to e = omega arith
word-is (suc n) (suc i) b at to h e = word-is n i b (at + 2) to (omega arith) (go i at to e)
  where
    go : (i at to : ℕ) → to ≡ at + 2 * suc i → to ≡ at + 2 + 2 * i
    go i at to e = omega arith

-- a stamp by its place
pub stamp-is : (b : List ℕ) (at k from : ℕ) → k ≤ 6 → from ≡ at + 2 * k
    → is_date (number_at 2 b from) (number_at 2 b (from + 2)) (number_at 2 b (from + 4)) (number_at 2 b (from + 6)) (number_at 2 b (from + 8)) (number_at 2 b (from + 10)) ≡ stamp_fits k (words_from 12 b at)
unfolding stamp_fits
stamp-is b at k from h e =
    rw (
      word-is 12 k b at from (omega arith) e,
      word-is 12 (k + 1) b at (from + 2) (omega arith) (omega arith),
      word-is 12 (k + 2) b at (from + 4) (omega arith) (omega arith),
      word-is 12 (k + 3) b at (from + 6) (omega arith) (omega arith),
      word-is 12 (k + 4) b at (from + 8) (omega arith) (omega arith),
      word-is 12 (k + 5) b at (from + 10) (omega arith) (omega arith),
    )

-- ---- all zero

-- the number of index i, by its place, and then those after it
pub zero_turn : (n i : ℕ) (b : List ℕ) (from : ℕ) (t : Bool) → i < n → eqb (number_at 2 b (from + 2 * i)) 0 ≡ t
    → all_zero (words_from (n - i) b (from + 2 * i)) ≡ (t && all_zero (words_from (n - (i + 1)) b (from + 2 * (i + 1))))
unfolding values_from
zero_turn n i b from t h e =
    let z : n - i ≡ suc (n - (i + 1)) = omega arith in
    let next : from + 2 * i + 2 ≡ from + 2 * (i + 1) = omega arith in
    ap (λ (k : ℕ). all_zero (words_from k b (from + 2 * i))) z
    ∙ ap (λ (t : Bool). t && all_zero (words_from (n - (i + 1)) b (from + 2 * i + 2))) e
    ∙ ap (λ (at : ℕ). t && all_zero (words_from (n - (i + 1)) b at)) next

pub zero-end : (n i : ℕ) (b : List ℕ) (at : ℕ) → n ≤ i → all_zero (words_from (n - i) b at) ≡ true
unfolding values_from
zero-end n i b at h =
    let z : n - i ≡ 0 = omega arith in
    ap (λ (k : ℕ). all_zero (words_from k b at)) z
