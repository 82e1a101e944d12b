-- The walk over the cells, from its front: a cell is refused, or written in front of the others. For a loop over the cells. Assumes nothing.
use mathlib.Core.Path.{◌≡◌, refl, ap}
use mathlib.Core.List.{List, ◌∷◌}
use Prim.Native.Nat.{ℕ, suc}
use native.Mathlib.Omega.{arith}
use lib.Ieee.{Float}
use Rattle.refusal.specs.declared.Refusal.{Refusal}
use Rattle.conversion.specs.declared.GdsRoundingPolicy.{GdsRoundingPolicy}
use Rattle.conversion.specs.declared.Entry.{Entry}
use Rattle.stream.specs.Structure.{Structure}
use Rattle.cell.specs.Cell as C
use Rattle.cell.specs.Cell.{write_sheet}
use Rattle.library.specs.Library.{Result, stopped, written, WrittenCell, in_front, write_one, write_cells}

module _ (policy : GdsRoundingPolicy) (d : Float) (c : ℕ) (s : List ℕ) (ss : List (List ℕ)) where
  -- as its sheet is written
  walk-by : (x : C.Result Structure) → write_sheet policy d s ≡ x → write_cells policy d c (s ∷ ss) ≡ write_one c x (write_cells policy d (suc c) ss)
  unfolding write_cells
  walk-by x e = ap (λ (y : C.Result Structure). write_one c y (write_cells policy d (suc c) ss)) e

  pub walk_refused : (r : Refusal) (k : ℕ) → write_sheet policy d s ≡ C.stopped r k → write_cells policy d c (s ∷ ss) ≡ stopped r c k
  unfolding write_one
  walk_refused r k e = walk-by (C.stopped r k) e

  pub walk-written : (t : Structure) (es : List Entry) → write_sheet policy d s ≡ C.written t es
      → write_cells policy d c (s ∷ ss) ≡ in_front (record { structure = t; entries = es }) (write_cells policy d (suc c) ss)
  unfolding write_one
  walk-written t es e = walk-by (C.written t es) e

-- a walk that is written, taken apart at its first cell
pub record Split (policy : GdsRoundingPolicy) (d : Float) (c : ℕ) (s : List ℕ) (ss : List (List ℕ)) (ws : List WrittenCell) : Type 0 where
  pub first : WrittenCell
  pub rest : List WrittenCell
  pub writes : write_sheet policy d s ≡ C.written first.structure first.entries
  pub after : write_cells policy d (suc c) ss ≡ written rest
  pub cells : ws ≡ first ∷ rest

pub split : (policy : GdsRoundingPolicy) (d : Float) (c : ℕ) (s : List ℕ) (ss : List (List ℕ)) (ws : List WrittenCell) → write_cells policy d c (s ∷ ss) ≡ written ws → Split policy d c s ss ws
split policy d c s ss ws w = by-sheet (write_sheet policy d s) refl
  where
    by-others : (t : Structure) (es : List Entry) → write_sheet policy d s ≡ C.written t es → (x : Result (List WrittenCell)) → write_cells policy d (suc c) ss ≡ x
        → in_front (record { structure = t; entries = es }) x ≡ written ws → Split policy d c s ss ws
    by-others t es e (stopped r i k) f g = let z : ◌≡◌ {A = ℕ} 0 1 = cc in absurd (omega arith)
    by-others t es e (written rest) f g = record { first = record { structure = t; entries = es }; rest = rest; writes = e; after = f; cells = cc }

    by-sheet : (x : C.Result Structure) → write_sheet policy d s ≡ x → Split policy d c s ss ws
    by-sheet (C.stopped r k) e = let f = walk_refused policy d c s ss r k e in let z : ◌≡◌ {A = ℕ} 0 1 = cc in absurd (omega arith)
    by-sheet (C.written t es) e =
        let f = walk-written policy d c s ss t es e in
        by-others t es e (write_cells policy d (suc c) ss) refl (cc (f, w))
