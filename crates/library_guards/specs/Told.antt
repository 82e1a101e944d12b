-- What a library file draws, told a second time as a test that computes (document 02, request 1: "The drawing statement holds for each structure of an accepted file"; "HEADER 0x0258, BGNLIB,
-- LIBNAME, UNITS, the structures, ENDLIB"): the front and ENDLIB are taken off the file, and every place is tried where a structure may end. A file draws a library exactly where it
-- passes (proofs/ToldLaws). Assumes nothing.
use Rattle.std.specs.Prelude.{Bool, false, ◌&&◌, ◌||◌, cond, List, [], ◌∷◌, ℕ, zero, suc, ◌-◌, eqb, length, take, drop, Float}
use Rattle.std.proofs.Math.Option.{Option, none, some}
use Rattle.sheet.specs.Blocks.{block_of}
use Rattle.sheet.specs.Library.{LibraryHead, library_head_of, cell_sheets}
use Rattle.stream.specs.Library.{FileHead, file_head_bytes, file_end_bytes}
use Rattle.library.specs.Library.{file_head_of}
use Rattle.cases.specs.Case.{same_bytes}
use Rattle.guards.specs.Told.{all_bytes, draws}

-- some number below n
abbrev pub some_below : ℕ → (ℕ → Bool) → Bool
some_below zero t = false
some_below (suc n) t = some_below n t || t n

-- what follows s in t, where t begins with it
abbrev pub after : List ℕ → List ℕ → Option (List ℕ)
after [] t = some t
after (a ∷ s) [] = none
after (a ∷ s) (b ∷ t) = cond (eqb a b) (after s t) none

-- what stands before ENDLIB, where t ends with it
abbrev pub before_end : List ℕ → Option (List ℕ)
before_end t = cond (same_bytes (drop (length t - 4) t) file_end_bytes) (some (take (length t - 4) t)) none

-- ---- the structures, each by its test: the last is all that is left

abbrev pub Test : Type 0
Test = List ℕ → Bool

abbrev pub in_parts : List Test → List ℕ → Bool
in_parts [] b = same_bytes b []
in_parts (t ∷ []) b = t b
in_parts (t ∷ u ∷ ts) b = some_below (suc (length b)) (λ k. in_parts (u ∷ ts) (drop k b) && t (take k b))

abbrev pub tests : ℕ → Float → List (List ℕ) → List Test
tests policy d [] = []
tests policy d (s ∷ ss) = draws policy d s ∷ tests policy d ss

-- ---- the whole

abbrev pub within : List Test → Option (List ℕ) → Bool
within ts none = false
within ts (some b) = in_parts ts b

abbrev pub behind : List Test → Option (List ℕ) → Bool
behind ts none = false
behind ts (some b) = within ts (before_end b)

abbrev pub in_file : List Test → List ℕ → Option FileHead → Bool
in_file ts file none = false
in_file ts file (some f) = behind ts (after (file_head_bytes f) file)

abbrev pub with_head : Float → List Test → List ℕ → Option LibraryHead → Bool
with_head d ts file none = false
with_head d ts file (some h) = in_file ts file (file_head_of d h)

abbrev pub draws_library : ℕ → Float → List ℕ → List ℕ → Bool
draws_library policy d sheet file = all_bytes file && with_head d (tests policy d (cell_sheets sheet)) file (library_head_of (block_of sheet 0))
