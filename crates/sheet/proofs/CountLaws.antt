-- How many pairs there are where they fit, the blocks after the head in turn, and that blocks are no longer than the sheet and are bytes. Assumes nothing.
use mathlib.Core.Path.{◌≡◌, ap, ◌∙◌}
use mathlib.Core.Bool.{◌&&◌}
use mathlib.Core.List.{List, [], ◌∷◌}
use Prim.Native.Nat.{ℕ, zero, suc, ◌+◌, ◌-◌, ◌*◌, ◌≤◌, ◌<◌}
use native.Mathlib.Nat.{le_trans}
use native.Mathlib.Omega.{arith}
use lib.Dec.{T, leb, leb→le}
use lib.ListN.{length, length-take, length-drop}
use lib.Ieee.Bits.{is_true}
use lib.Ieee.Fits.{and_l, and_r}
use Rattle.big_endian.specs.Big.{Bytes}
use Rattle.big_endian.proofs.BytesLaws.{take-bytes, drop-bytes}
use Rattle.parsing.specs.All.{All, done, more}
use Rattle.sheet.specs.Blocks.{max_pairs, pair_count, offset_of, length_of, chained, pairs_fit, block_of, blocks_from}
use Rattle.sheet.specs.code.Place.{BlockIn}
use Rattle.sheet.proofs.PairLaws.{pairs-block}

pub record Counted (s : List ℕ) : Type 0 where
  pub word : 4 ≤ length s
  pub least : 1 ≤ pair_count s
  pub most : pair_count s ≤ max_pairs

pub pairs-count : (s : List ℕ) → T (pairs_fit s) → Counted s
unfolding pairs_fit
pairs-count s t =
    let a = leb 4 (length s) in
    let b = leb 1 (pair_count s) in
    let c = leb (pair_count s) max_pairs in
    let d = leb (4 + 8 * pair_count s) (length s) in
    let e = chained (pair_count s) 0 (4 + 8 * pair_count s) s in
    let f = and_l (a && b && c) d (and_l (a && b && c && d) e t) in
    let g = and_l (a && b) c f in
    record { word = leb→le 4 (length s) (and_l a b g); least = leb→le 1 (pair_count s) (and_r a b g); most = leb→le (pair_count s) max_pairs (and_r (a && b) c f) }

-- what `sheet::block` requires, of block k of n
pub block_in : (s : List ℕ) (n k : ℕ) → T (pairs_fit s) → n ≡ pair_count s → k < n → BlockIn s k
block_in s n k t e h = pairs-block s k (is_true (pairs_fit s) t) (go n (pair_count s) e h)
  where
    go : (n m : ℕ) → n ≡ m → k < n → k < m
    go n m e h = omega arith

-- the blocks from block k of n on: block k, and those after it
pub blocks-turn : (n k : ℕ) (s : List ℕ) → k < n → blocks_from (n - k) k s ≡ block_of s k ∷ blocks_from (n - (k + 1)) (k + 1) s
unfolding blocks_from
blocks-turn n k s h =
    let z : n - k ≡ suc (n - (k + 1)) = omega arith in
    let y : suc k ≡ k + 1 = omega arith in
    ap (λ (j : ℕ). blocks_from j k s) z ∙ ap (λ (j : ℕ). block_of s k ∷ blocks_from (n - (k + 1)) j s) y

pub blocks_end : (n k : ℕ) (s : List ℕ) → n ≤ k → blocks_from (n - k) k s ≡ []
unfolding blocks_from
blocks_end n k s h =
    let z : n - k ≡ 0 = omega arith in
    ap (λ (j : ℕ). blocks_from j k s) z

-- ---- no block is longer than the sheet

pub block_within : (s : List ℕ) (k : ℕ) → length (block_of s k) ≤ length s
unfolding block_of
block_within s k = simp (length-take, length-drop) (omega arith)

pub blocks-within : (n k m : ℕ) (s : List ℕ) → length s ≤ m → All (λ b. length b ≤ m) (blocks_from n k s)
unfolding blocks_from
blocks-within zero k m s h = done
blocks-within (suc n) k m s h = more (le_trans (block_within s k) h) (blocks-within n (suc k) m s h)

-- ---- blocks are bytes

pub block-bytes : (s : List ℕ) (k : ℕ) → Bytes s → Bytes (block_of s k)
unfolding block_of
block-bytes s k h = take-bytes (length_of s k) _ (drop-bytes (offset_of s k) s h)

pub blocks-bytes : (n k : ℕ) (s : List ℕ) → Bytes s → All Bytes (blocks_from n k s)
unfolding blocks_from
blocks-bytes zero k s h = done
blocks-bytes (suc n) k s h = more (block-bytes s k h) (blocks-bytes n (suc k) s h)
