-- Bytes in hexadecimal: two digits each, in lower case, as ASCII (document 01, "the stream in lower-case hex"). Assumes nothing.
use Rattle.std.specs.Prelude.{cond, List, [], ◌∷◌, ℕ, ◌+◌, ◌/◌, ◌%◌, leb}

-- 0 to 9, then a to f
unfoldable pub glyph : ℕ → ℕ
glyph n = cond (leb n 9) (0x30 + n) (0x57 + n)

unfoldable pub hex_of : List ℕ → List ℕ
hex_of [] = []
hex_of (b ∷ bs) = glyph (b / 16) ∷ glyph (b % 16) ∷ hex_of bs
