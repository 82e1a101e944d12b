-- Points (document 01, "Input" and "Result two"; point.rs). Assumes nothing.
use Rattle.std.specs.Prelude.{ℕ, ℤ, pos, ◌+ℤ◌, ◌*ℤ◌}

-- "A point is x then y": of coordinates on the sheet, of physical values, or of whole numbers in the structure.
pub record Point (C : Type 0) : Type 0 where
  pub x : C
  pub y : C

-- "an endpoint is origin + count × spacing in whole numbers"
abbrev pub endpoint : ℤ → ℤ → ℕ → ℤ
endpoint o a n = o +ℤ a *ℤ pos n
