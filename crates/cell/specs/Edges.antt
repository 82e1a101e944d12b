-- Edges never cross in what a structure draws (document 02, request 10): on each axis, points stand in the order of their physical values. Assumes nothing.
use Rattle.std.specs.Prelude.{◌≡◌, cond, List, [], ◌∷◌, ◌++◌, ℕ, T, length, take, ℤ, ◌≤ℤ◌, Float}
use Rattle.std.proofs.Math.Option.{Option, none, some}
use Rattle.std.specs.Float.{binary64}
use Rattle.std.specs.Float.Ieee.{fits, le}
use Rattle.big_endian.specs.Big.{Bytes}
use Rattle.units.specs.declared.Unit.{Unit}
use Rattle.units.specs.Point.{Point}
use Rattle.units.specs.Physical.{physical, passed}
use Rattle.sheet.specs.Element as S
use Rattle.sheet.specs.Cell.{Cell, cell_of}
use Rattle.stream.specs.Structure as D
use Rattle.stream.specs.Drawn.{Transform, Worth, drawn_of}
use Rattle.stream.specs.Read.{structure_of}
use Rattle.cell.specs.Write.{single, box_points}
use Rattle.cell.specs.Cell.{write_cell, out_after}
use Rattle.cell.specs.Answer.{accepted, answer_of}

-- ---- the physical values of a cell's points, in the sheet's order

-- p of a coordinate that is converted; none where "an integer that bypasses conversion" passes, which "is not covered"
abbrev pub converted_by : Option ℤ → Float → Option Float
converted_by none p = some p
converted_by (some v) p = none

abbrev pub edges_at : Float → Point Unit → Point (Option Float)
edges_at d p = record { x = converted_by (passed d p.x) (physical p.x); y = converted_by (passed d p.y) (physical p.y) }

-- in an array nothing passes
abbrev pub array_edges : Point Unit → Point (Option Float)
array_edges p = record { x = some (physical p.x); y = some (physical p.y) }

abbrev pub point_edges : Float → List (Point Unit) → List (Point (Option Float))
point_edges d [] = []
point_edges d (p ∷ ps) = edges_at d p ∷ point_edges d ps

-- of an array its origin alone: "nor is an array's far corner, which is no conversion"
abbrev pub body_edges : Float → S.Body → List (Point (Option Float))
body_edges d (S.polygon e) = point_edges d e.points
body_edges d (S.path e) = point_edges d e.points
body_edges d (S.text e) = edges_at d e.origin ∷ []
body_edges d (S.node e) = point_edges d e.points
body_edges d (S.reference e) = cond (single e) (edges_at d e.origin) (array_edges e.origin) ∷ []
body_edges d (S.box e) = point_edges d (box_points e.first e.second)

abbrev pub cell_edges : Float → List S.Element → List (Point (Option Float))
cell_edges d [] = []
cell_edges d (e ∷ es) = body_edges d e.body ++ cell_edges d es

-- ---- the points that a structure draws, in its order

abbrev pub body_points : D.Body ℕ Transform → List (Point ℤ)
body_points (D.boundary w) = w.points
body_points (D.path w) = w.points
body_points (D.text w) = w.origin ∷ []
body_points (D.node w) = w.points
body_points (D.sref w) = w.origin ∷ []
body_points (D.aref w) = w.origin ∷ []
body_points (D.box w) = w.points

abbrev pub drawn_points : List Worth → List (Point ℤ)
drawn_points [] = []
drawn_points (w ∷ ws) = body_points w.body ++ drawn_points ws

-- ---- one axis

pub data Axis : Type 0 where
  along_x : Axis
  along_y : Axis

abbrev pub on : {C : Type 0} → Axis → Point C → C
on along_x p = p.x
on along_y p = p.y

-- at some place of both lists, on the axis, p stands in the one and q in the other
pub data Stands (axis : Axis) (p : Float) (q : ℤ) : List (Point (Option Float)) → List (Point ℤ) → Type 0 where
  here : {e : Point (Option Float)} {w : Point ℤ} {s : List (Point (Option Float))} {t : List (Point ℤ)} → on axis e ≡ some p → on axis w ≡ q → Stands axis p q (e ∷ s) (w ∷ t)
  later : {e : Point (Option Float)} {w : Point ℤ} {s : List (Point (Option Float))} {t : List (Point ℤ)} → Stands axis p q s t → Stands axis p q (e ∷ s) (w ∷ t)

-- ---- the claim

-- on each axis: where p stands at a and q at b, and p is not greater than q, a is not greater than b
abbrev pub InOrder : List (Point (Option Float)) → List (Point ℤ) → Type 0
InOrder s t = (axis : Axis) (p q : Float) (a b : ℤ) → Stands axis p a s t → Stands axis q b s t → T (le p q) → a ≤ℤ b

-- The bytes, read alone, are a structure with a point for each of the sheet's, and these stand in the order of their physical values.
pub record KeepsEdges (d : Float) (sheet bytes : List ℕ) : Type 0 where
  pub cell : Cell
  pub held : cell_of sheet ≡ some cell
  pub structure : D.Structure
  pub reads : structure_of bytes ≡ some structure
  pub as_many : length (cell_edges d cell.elements) ≡ length (drawn_points (drawn_of structure).elements)
  pub in_order : InOrder (cell_edges d cell.elements) (drawn_points (drawn_of structure).elements)

-- For every policy, unit, sheet of bytes and pair of buffers: where the answer is a structure of n bytes, the output's first n bytes keep the cell's edges in order.
-- (Every f64 fits binary64, and every &[u8] is of bytes.)
abbrev pub EdgesNeverCross : Type 0
EdgesNeverCross = (policy : ℕ) (d : Float) (sheet out report : List ℕ) (n entries : ℕ) (greatest : Float) → T (fits binary64 d) → Bytes sheet
    → answer_of (write_cell policy d sheet (length out) (length report)) ≡ accepted n entries greatest
    → KeepsEdges d sheet (take n (out_after (write_cell policy d sheet (length out) (length report)) out))
