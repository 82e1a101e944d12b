-- A block that is handed back lies in the sheet. Assumes nothing.
use Rattle.std.specs.Prelude.{List, ℕ, ◌+◌, ◌*◌, ◌≤◌, length}
use Rattle.sheet.specs.Blocks.{offset_of, length_of}

-- pair k, which ends 12 + 8 k bytes into the sheet, and its block
abbrev pub BlockIn : List ℕ → ℕ → Type 0
BlockIn s k = (12 + 8 * k ≤ length s) × (offset_of s k + length_of s k ≤ length s)
