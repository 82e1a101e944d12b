-- The pairs of a cell sheet and the blocks that they name (document 01, "Input", first paragraph). Assumes nothing.
use Rattle.std.specs.Prelude.{Bool, ◌&&◌, List, [], ◌∷◌, ℕ, zero, suc, ◌+◌, ◌*◌, leb, eqb, length, take, drop}
use Rattle.big_endian.specs.Big.{number_at}

-- the 4-byte number at a place
abbrev pub word_at : List ℕ → ℕ → ℕ
word_at s at = number_at 4 s at

-- "a 4-byte pair count n (1 to 16,384)"
abbrev pub max_pairs : ℕ
max_pairs = 16384

abbrev pub pair_count : List ℕ → ℕ
pair_count s = word_at s 0

-- pair k: 4-byte offset and 4-byte length
abbrev pub offset_of : List ℕ → ℕ → ℕ
offset_of s k = word_at s (4 + 8 * k)

abbrev pub length_of : List ℕ → ℕ → ℕ
length_of s k = word_at s (8 + 8 * k)

-- "block k is handed back as that part of the sheet"
unfoldable pub block_of : List ℕ → ℕ → List ℕ
block_of s k = take (length_of s k) (drop (offset_of s k) s)

-- From pair k on, n pairs: the first block starts at e, each next where the one before ends, the last ends with the sheet; lengths are at least 1.
unfoldable pub chained : ℕ → ℕ → ℕ → List ℕ → Bool
chained zero k e s = eqb e (length s)
chained (suc n) k e s =
    eqb (offset_of s k) e && leb 1 (length_of s k) && leb (e + length_of s k) (length s) && chained n (suc k) (e + length_of s k) s

-- a 4-byte pair count n (1 to 16,384), n pairs, then the blocks; the first starts at 4 + 8n
unfoldable pub pairs_fit : List ℕ → Bool
pairs_fit s =
    leb 4 (length s)
    && leb 1 (pair_count s)
    && leb (pair_count s) max_pairs
    && leb (4 + 8 * pair_count s) (length s)
    && chained (pair_count s) 0 (4 + 8 * pair_count s) s

-- n blocks from block k on
unfoldable pub blocks_from : ℕ → ℕ → List ℕ → List (List ℕ)
blocks_from zero k s = []
blocks_from (suc n) k s = block_of s k ∷ blocks_from n (suc k) s
