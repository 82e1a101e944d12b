-- Strings in records (document 01, "Result one"; document 02, request 8). Assumes nothing.
use Rattle.std.specs.Prelude.{cond, List, [], ◌∷◌, ◌++◌, ℕ, ◌%◌, eqb, length}

-- "Odd strings gain one zero byte."
unfoldable pub padded : List ℕ → List ℕ
padded s = cond (eqb (length s % 2) 0) s (s ++ 0 ∷ [])

-- "One final zero byte of a string is dropped." (request 8)
unfoldable pub unpadded : List ℕ → List ℕ
unpadded [] = []
unpadded (b ∷ []) = cond (eqb b 0) [] (b ∷ [])
unpadded (b ∷ c ∷ s) = b ∷ unpadded (c ∷ s)

-- a byte in front of what is left of a string: nothing where both are nothing
abbrev pub front : ℕ → List ℕ → List ℕ
front b [] = cond (eqb b 0) [] (b ∷ [])
front b (c ∷ s) = b ∷ c ∷ s

-- "strings with trailing zero bytes dropped"
unfoldable pub trimmed : List ℕ → List ℕ
trimmed [] = []
trimmed (b ∷ s) = front b (trimmed s)
