-- A run of bytes in a buffer that the caller lends: the run stands at a place, every other byte stays (document 01, "Bytes after the structure and the entries stay"). Assumes nothing.
use Rattle.std.specs.Prelude.{◌≡◌, List, ◌++◌, ℕ, ◌+◌, ◌≤◌, length, take, drop}

-- the buffer with the run at its start
unfoldable pub over : List ℕ → List ℕ → List ℕ
over bs d = bs ++ drop (length bs) d

-- the buffer with the run at a place
unfoldable pub splice : ℕ → List ℕ → List ℕ → List ℕ
splice at bs d = take at d ++ (bs ++ drop (at + length bs) d)

-- What a writer of a part promises: the r bytes `bs` stand at the start of `after`, and the rest is as it was in `before`.
pub record Wrote (bs before after : List ℕ) (r : ℕ) : Type 0 where
  pub count : r ≡ length bs
  pub fits : length bs ≤ length before
  pub out : after ≡ over bs before

-- What a writer at a place promises: the bytes `bs` stand from `at` to r, and the rest is as it was in `before`.
pub record WroteAt (bs before after : List ℕ) (at r : ℕ) : Type 0 where
  pub count : r ≡ at + length bs
  pub fits : at + length bs ≤ length before
  pub out : after ≡ splice at bs before
