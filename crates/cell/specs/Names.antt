-- Structure names, "own or called" (document 01, "Result one" and refusal 7; `validate_structure_name` of write/validation.rs). Assumes nothing.
use Rattle.std.specs.Prelude.{Bool, true, ◌&&◌, ◌||◌, List, [], ◌∷◌, ℕ, eqb, length}
use Rattle.cell.specs.Limits.{within, max_name_length}

-- A–Z a–z 0–9 _ ? $
unfoldable pub name_byte : ℕ → Bool
name_byte b = within 0x41 b 0x5a || within 0x61 b 0x7a || within 0x30 b 0x39 || eqb b 0x5f || eqb b 0x3f || eqb b 0x24

abbrev pub name_bytes : List ℕ → Bool
name_bytes [] = true
name_bytes (b ∷ s) = name_byte b && name_bytes s

-- "Names: 1 to 32 of" those
unfoldable pub is_name : List ℕ → Bool
is_name s = within 1 (length s) max_name_length && name_bytes s
