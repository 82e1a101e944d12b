-- A BOX and the two corners that it is read to (document 02, request 8: "a box gets its first and third points"; "a BOX that no two corners give" is 28). Assumes nothing.
use Rattle.std.specs.Prelude.{Bool, true, false, ◌&&◌, List, [], ◌∷◌, ℕ, zero, suc, ℤ, pos}
use Rattle.units.specs.Point.{Point}
use Rattle.cell.specs.Write.{same_point, box_points}

-- the nth point, from 0 on; where there is none, (0, 0)
unfoldable pub nth_point : ℕ → List (Point ℤ) → Point ℤ
nth_point n [] = record { x = pos 0; y = pos 0 }
nth_point zero (p ∷ ps) = p
nth_point (suc n) (p ∷ ps) = nth_point n ps

abbrev pub first_point : List (Point ℤ) → Point ℤ
first_point = nth_point 0

abbrev pub third_point : List (Point ℤ) → Point ℤ
third_point = nth_point 2

abbrev pub same_points : List (Point ℤ) → List (Point ℤ) → Bool
same_points [] [] = true
same_points [] (q ∷ qs) = false
same_points (p ∷ ps) [] = false
same_points (p ∷ ps) (q ∷ qs) = same_point p q && same_points ps qs

-- "a BOX that .. two corners give": if any do, then the first and the third (law `gives-box`)
unfoldable pub is_box : List (Point ℤ) → Bool
is_box ps = same_points ps (box_points (first_point ps) (third_point ps))
