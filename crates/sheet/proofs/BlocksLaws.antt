-- The sheet of any blocks has well-formed pairs, and its blocks are those. Assumes nothing.
use mathlib.Core.Path.{◌≡◌, refl, sym, ap, ap₂, ◌∙◌}
use mathlib.Core.Bool.{Bool, true, ◌&&◌}
use mathlib.Core.List.{List, [], ◌∷◌, ◌++◌, append_assoc, append-nil}
use Prim.Native.Nat.{ℕ, suc, ◌+◌, ◌*◌, ◌^◌, ◌≤◌, ◌<◌}
use native.Mathlib.Omega.{arith}
use borrow.Author.Tests.{le-leb, eq-eqb}
use lib.Dec.{leb}
use lib.ListN.{length, take, drop, length-append}
use lib.Seq.{take_at, drop_at}
use Rattle.big_endian.specs.Big.{number, bytes_of, number_at, joined}
use Rattle.big_endian.proofs.BigLaws.{length-bytes_of, number-back}
use Rattle.parsing.specs.All.{All, more}
use Rattle.sheet.specs.Blocks.{max_pairs, pair_count, offset_of, length_of, block_of, chained, pairs_fit, blocks_from}
use Rattle.sheet.specs.Encode.{pairs_bytes, blocks_sheet}

abbrev whole : List (List ℕ) → List ℕ
whole bs = joined (λ b. b) bs

-- a number that stands after a front
number-after : (k v : ℕ) (s pre t : List ℕ) (at : ℕ) → s ≡ pre ++ (bytes_of k v ++ t) → length pre ≡ at → v < 256 ^ k → number_at k s at ≡ v
unfolding number_at
number-after k v s pre t at e l h =
    ap (λ (z : List ℕ). number (take k (drop at z))) e
    ∙ ap (λ (z : List ℕ). number (take k z)) (drop_at pre (bytes_of k v ++ t) at l)
    ∙ ap number (take_at (bytes_of k v) t k (length-bytes_of k v)) ∙ number-back k v h

pairs-length : (at : ℕ) (bs : List (List ℕ)) → length (pairs_bytes at bs) ≡ 8 * length bs
unfolding pairs_bytes
pairs-length at [] = refl
pairs-length at (b ∷ bs) = omega (arith, pairs-length (at + length b) bs)

-- what is left of a sheet s from block k on: its pair stands at 4 + 8 k, and the block at `at`
record View (s : List ℕ) (k at : ℕ) (bs : List (List ℕ)) : Type 0 where
  pre : List ℕ
  tail : List ℕ
  pairs : s ≡ pre ++ (pairs_bytes at bs ++ tail)
  placed : length pre ≡ 4 + 8 * k
  front : List ℕ
  blocks : s ≡ front ++ whole bs
  reached : length front ≡ at

module _ (s : List ℕ) (k at : ℕ) (b : List ℕ) (bs : List (List ℕ)) (v : View s k at (b ∷ bs)) (small : length s < 2 ^ 32) where
  ends : at + length b + length (whole bs) ≡ length s
  ends = go (length v.front) (length b) (length (whole bs)) (length (b ++ whole bs)) (length s) v.reached (length-append b (whole bs)) (ap length v.blocks ∙ length-append v.front (b ++ whole bs))
    where
      go : (f b w c s : ℕ) → f ≡ at → c ≡ b + w → s ≡ f + c → at + b + w ≡ s
      go f b w c s h i j = omega arith

  pair_is : s ≡ v.pre ++ (bytes_of 4 at ++ (bytes_of 4 (length b) ++ (pairs_bytes (at + length b) bs ++ v.tail)))
  unfolding pairs_bytes
  pair_is = v.pairs

  offset-is : offset_of s k ≡ at
  offset-is = number-after 4 at s v.pre _ (4 + 8 * k) pair_is v.placed (omega (arith, ends))

  length-is : length_of s k ≡ length b
  length-is =
      number-after 4 (length b) s (v.pre ++ bytes_of 4 at) _ (8 + 8 * k) (pair_is ∙ sym (append_assoc v.pre (bytes_of 4 at) _))
      (length-append v.pre (bytes_of 4 at) ∙ ap₂ ◌+◌ v.placed (length-bytes_of 4 at) ∙ go k) (omega (arith, ends))
    where
      go : (k : ℕ) → 4 + 8 * k + 4 ≡ 8 + 8 * k
      go k = omega arith

  block-is : block_of s k ≡ b
  unfolding block_of
  block-is =
      ap₂ (λ (n m : ℕ). take n (drop m s)) length-is offset-is
      ∙ ap (λ (z : List ℕ). take (length b) (drop at z)) v.blocks
      ∙ ap (take (length b)) (drop_at v.front (b ++ whole bs) at v.reached)
      ∙ take_at b (whole bs) (length b) refl

  next : View s (suc k) (at + length b) bs
  next = record {
    pre = v.pre ++ (bytes_of 4 at ++ bytes_of 4 (length b));
    tail = v.tail;
    pairs = pair_is ∙ sym (append_assoc v.pre (bytes_of 4 at ++ bytes_of 4 (length b)) _);
    placed = length-append v.pre (bytes_of 4 at ++ bytes_of 4 (length b)) ∙ ap (λ (n : ℕ). n + 8) v.placed ∙ go k;
    front = v.front ++ b;
    blocks = v.blocks ∙ sym (append_assoc v.front b (whole bs));
    reached = length-append v.front b ∙ ap (λ (n : ℕ). n + length b) v.reached;
  }
    where
      go : (k : ℕ) → 4 + 8 * k + 8 ≡ 4 + 8 * suc k
      go k = omega arith

-- a block that is not empty
abbrev pub Some : List ℕ → Type 0
Some b = 1 ≤ length b

and-true : (a b c d : Bool) → a ≡ true → b ≡ true → c ≡ true → d ≡ true → a && b && c && d ≡ true
and-true a b c d e f g h = rw (e, f, g, h)

chained-on : (bs : List (List ℕ)) (s : List ℕ) (k at : ℕ) → View s k at bs → All Some bs → length s < 2 ^ 32 → chained (length bs) k at s ≡ true
unfolding chained
chained-on [] s k at v n l = eq-eqb at (length s) (sym (ap length (v.blocks ∙ append-nil v.front) ∙ v.reached))
chained-on (b ∷ bs) s k at v (more n ns) l =
    let o = offset-is s k at b bs v l in
    let m = length-is s k at b bs v l in
    and-true _ _ _ _ (eq-eqb (offset_of s k) at o) (le-leb 1 (length_of s k) (omega (arith, m)))
    (le-leb (at + length_of s k) (length s) (omega (arith, m, ends s k at b bs v l)))
    (ap (λ (i : ℕ). chained (length bs) (suc k) (at + i) s) m ∙ chained-on bs s (suc k) (at + length b) (next s k at b bs v l) ns l)

blocks-are : (bs : List (List ℕ)) (s : List ℕ) (k at : ℕ) → View s k at bs → length s < 2 ^ 32 → blocks_from (length bs) k s ≡ bs
unfolding blocks_from
blocks-are [] s k at v l = refl
blocks-are (b ∷ bs) s k at v l = ap₂ (λ (x : List ℕ) (t : List (List ℕ)). x ∷ t) (block-is s k at b bs v l) (blocks-are bs s (suc k) (at + length b) (next s k at b bs v l) l)

-- ---- the sheet

pub record FitBlocks (bs : List (List ℕ)) : Type 0 where
  pub least : 1 ≤ length bs
  pub most : length bs ≤ max_pairs
  pub some : All Some bs
  pub short : length (blocks_sheet bs) < 2 ^ 32

module _ (bs : List (List ℕ)) (f : FitBlocks bs) where
  abbrev s : List ℕ
  s = blocks_sheet bs

  view : View s 0 (4 + 8 * length bs) bs
  unfolding blocks_sheet
  view = record {
    pre = bytes_of 4 (length bs);
    tail = whole bs;
    pairs = refl;
    placed = refl;
    front = bytes_of 4 (length bs) ++ pairs_bytes (4 + 8 * length bs) bs;
    blocks = sym (append_assoc (bytes_of 4 (length bs)) (pairs_bytes (4 + 8 * length bs) bs) (whole bs));
    reached = length-append (bytes_of 4 (length bs)) (pairs_bytes (4 + 8 * length bs) bs) ∙ ap (λ (n : ℕ). 4 + n) (pairs-length (4 + 8 * length bs) bs);
  }

  pub count-is : pair_count s ≡ length bs
  unfolding blocks_sheet
  count-is = number-after 4 (length bs) s [] _ 0 refl refl (omega (arith, f.most))

  long : 4 + 8 * length bs ≤ length s
  long = go (length view.front) (length (whole bs)) (length s) view.reached (ap length view.blocks ∙ length-append view.front (whole bs))
    where
      go : (a b c : ℕ) → a ≡ 4 + 8 * length bs → c ≡ a + b → 4 + 8 * length bs ≤ c
      go a b c h i = omega arith

  pub pairs-fit : pairs_fit s ≡ true
  unfolding pairs_fit
  pairs-fit =
      let n = count-is in
      all5 (leb 4 (length s)) (leb 1 (pair_count s)) (leb (pair_count s) max_pairs) (leb (4 + 8 * pair_count s) (length s)) (chained (pair_count s) 0 (4 + 8 * pair_count s) s)
      (le-leb 4 (length s) (omega (arith, long))) (le-leb 1 (pair_count s) (omega (arith, n, f.least))) (le-leb (pair_count s) max_pairs (omega (arith, n, f.most)))
      (le-leb (4 + 8 * pair_count s) (length s) (omega (arith, n, long)))
      (ap (λ (i : ℕ). chained i 0 (4 + 8 * i) s) n ∙ chained-on bs s 0 (4 + 8 * length bs) view f.some f.short)
    where
      all5 : (a b c d e : Bool) → a ≡ true → b ≡ true → c ≡ true → d ≡ true → e ≡ true → a && b && c && d && e ≡ true
      all5 a b c d e h i j k l = rw (h, i, j, k, l)

  pub blocks-back : blocks_from (length bs) 0 s ≡ bs
  blocks-back = blocks-are bs s 0 (4 + 8 * length bs) view f.short
