-- Each clause of library/specs/Draws bites: no edit of `wrong` draws the sheet's library, and every edit of `alike` does. Computed. Assumes nothing.
use mathlib.Core.Path.{◌≡◌, refl, sym, ap₂, ◌∙◌, subst}
use mathlib.Core.Bool.{Bool, true, not, ◌&&◌}
use mathlib.Core.Option.{Option, some}
use mathlib.Core.List.{List, [], ◌∷◌}
use Prim.Native.Nat.{ℕ}
use lib.Dec.{T, T_not}
use lib.Ieee.Fits.{and_l, and_r}
use Rattle.parsing.specs.All.{All, done, more}
use Rattle.conversion.specs.declared.GdsRoundingPolicy.{GdsRoundingPolicy}
use Rattle.conversion.specs.declared.GdsRoundingPolicy.TheVariants.{Nearest}
use Rattle.conversion.specs.Policy.{policy_of}
use Rattle.sheet.specs.Blocks.{block_of}
use Rattle.sheet.specs.Cell.{Cell, cell_of}
use Rattle.sheet.specs.Library.{LibraryHead, library_head_of, cell_sheets}
use Rattle.stream.specs.Read.{structure_of}
use Rattle.stream.specs.Library.{FileHead}
use Rattle.library.specs.Library.{file_head_of}
use Rattle.library.specs.Draws.{DrawsLibrary}
use Rattle.cases.specs.Case.{halved}
use Rattle.cases.proofs.Open.{opened}
use Rattle.guards.specs.Told.{all_bytes, told_of}
use Rattle.guards.specs.Values.{one}
use Rattle.library_guards.specs.Told.{Test, tests, in_file, with_head, draws_library}
use Rattle.library_guards.specs.Files.{sheet_a, sheet_b, sheet, head, cell_a, cell_b, front, records, edit, wrong, alike}
use Rattle.library_guards.proofs.ToldLaws.{library-passes, library-suffices}

-- ---- the sheet is read once

pub head-held : library_head_of (block_of sheet 0) ≡ some head
unfolding opened halved sheet_a sheet_b sheet head
head-held = refl

pub cells-held : cell_sheets sheet ≡ sheet_a ∷ sheet_b ∷ []
unfolding opened halved sheet_a sheet_b sheet
cells-held = refl

pub A-holds : cell_of sheet_a ≡ some cell_a
unfolding opened halved sheet_a cell_a
A-holds = refl

pub B-holds : cell_of sheet_b ≡ some cell_b
unfolding opened halved sheet_b cell_b
B-holds = refl

pub front-encoded : file_head_of one head ≡ some front
unfolding opened halved head front
front-encoded = refl

nearest : policy_of 0 ≡ some Nearest
unfolding opened
nearest = refl

-- by what is read of the sheet
abbrev structure : Option GdsRoundingPolicy → Option Cell → Test
structure r c b = all_bytes b && told_of one r c (structure_of b)

abbrev by : Option FileHead → Option GdsRoundingPolicy → Option Cell → Option Cell → List ℕ → Bool
by f r c e b = all_bytes b && in_file (structure r c ∷ structure r e ∷ []) b f

quick : List ℕ → Bool
quick = by (some front) (some Nearest) (some cell_a) (some cell_b)

same : (b : List ℕ) → quick b ≡ draws_library 0 one sheet b
unfolding quick
same b =
    ap₂ (λ (f : Option FileHead) (r : Option GdsRoundingPolicy). by f r (some cell_a) (some cell_b) b) (sym front-encoded) (sym nearest)
    ∙ ap₂ (λ (c e : Option Cell). by (file_head_of one head) (policy_of 0) c e b) (sym A-holds) (sym B-holds)
    ∙ ap₂ (λ (h : Option LibraryHead) (ss : List (List ℕ)). all_bytes b && with_head one (tests 0 one ss) b h) (sym head-held) (sym cells-held)

-- ---- the tables: none, and all, draw the library

unfoldable none_draws : List (List ℕ) → Bool
none_draws [] = true
none_draws (b ∷ bs) = not (quick b) && none_draws bs

unfoldable all_draw : List (List ℕ) → Bool
all_draw [] = true
all_draw (b ∷ bs) = quick b && all_draw bs

refused : (bs : List (List ℕ)) → T (none_draws bs) → All (λ b. DrawsLibrary 0 one sheet b → ⊥) bs
unfolding none_draws
refused [] t = done
refused (b ∷ bs) t =
    more (λ h. T_not (quick b) (and_l (not (quick b)) (none_draws bs) t) (subst T (sym (same b)) (library-passes 0 one sheet b h)))
    (refused bs (and_r (not (quick b)) (none_draws bs) t))

drawn : (bs : List (List ℕ)) → T (all_draw bs) → All (λ b. DrawsLibrary 0 one sheet b) bs
unfolding all_draw
drawn [] t = done
drawn (b ∷ bs) t = more (library-suffices 0 one sheet b (subst T (same b) (and_l (quick b) (all_draw bs) t))) (drawn bs (and_r (quick b) (all_draw bs) t))

wrong-differ : T (none_draws wrong)
unfolding opened halved cell_a cell_b front records edit wrong quick none_draws
wrong-differ = tt

pub wrong-refused : All (λ b. DrawsLibrary 0 one sheet b → ⊥) wrong
wrong-refused = refused wrong wrong-differ

alike-draw : T (all_draw alike)
unfolding opened halved cell_a cell_b front records edit alike quick all_draw
alike-draw = tt

pub alike-drawn : All (λ b. DrawsLibrary 0 one sheet b) alike
alike-drawn = drawn alike alike-draw
