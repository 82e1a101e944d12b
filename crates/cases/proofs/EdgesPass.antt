-- The edges of a cell of every kind and the points that it draws are those by hand; a structure that draws two points the other way round, equal ones apart, or one too few, does not keep a cell's edges. Computed. Assumes nothing.
use mathlib.Core.Path.{◌≡◌, refl, sym, ◌∙◌, subst}
use mathlib.Core.Option.{Option, none, some, some-injective}
use mathlib.Core.List.{List}
use Prim.Native.Nat.{ℕ}
use native.Mathlib.Omega.{arith}
use lib.ListN.{length}
use lib.Ieee.{Float}
use Rattle.sheet.specs.Cell.{Cell, cell_of}
use Rattle.sheet.specs.Encode.{cell_sheet}
use Rattle.stream.specs.Structure.{Structure}
use Rattle.stream.specs.Drawn.{drawn_of}
use Rattle.stream.specs.Read.{map_option, structure_of}
use Rattle.cell.specs.Cell.{Result, stopped, written, cell_structure, structure_bytes}
use Rattle.cell.specs.Edges.{along_x, along_y, cell_edges, drawn_points, here, later, InOrder, KeepsEdges}
use Rattle.cases.specs.Case.{halved}
use Rattle.cases.specs.Limits.{repeated}
use Rattle.cases.specs.Read.{stream, cell}
use Rattle.cases.specs.Edges.{one, two, points, converted_edges, passed_edges, pair, kept, crossed, parted, short}
use Rattle.cases.proofs.Open.{opened}

-- ---- of every kind

pub points-drawn : map_option (λ s. drawn_points (drawn_of s).elements) (structure_of stream) ≡ some points
unfolding opened halved repeated stream points
points-drawn = refl

pub edges-converted : cell_edges two cell.elements ≡ converted_edges
unfolding opened cell converted_edges
edges-converted = refl

pub edges-passed : cell_edges one cell.elements ≡ passed_edges
unfolding opened cell passed_edges
edges-passed = refl

-- ---- what does not keep the edges

-- a sheet holds one cell and bytes are one structure, so that the claim is of these
module _ {d : Float} {sheet bytes : List ℕ} (k : KeepsEdges d sheet bytes) (c : Cell) (s : Structure) (held : cell_of sheet ≡ some c) (reads : structure_of bytes ≡ some s) where
  of-these : (P : Cell → Structure → Type 0) → P k.cell k.structure → P c s
  of-these P h = subst (λ (z : Structure). P c z) (some-injective k.structure s (sym k.reads ∙ reads)) (subst (λ (z : Cell). P z k.structure) (some-injective k.cell c (sym k.held ∙ held)) h)

  as_many : length (cell_edges d c.elements) ≡ length (drawn_points (drawn_of s).elements)
  as_many = of-these (λ c s. length (cell_edges d c.elements) ≡ length (drawn_points (drawn_of s).elements)) k.as_many

  in_order : InOrder (cell_edges d c.elements) (drawn_points (drawn_of s).elements)
  in_order = of-these (λ c s. InOrder (cell_edges d c.elements) (drawn_points (drawn_of s).elements)) k.in_order

-- the structure that is written, if any
abbrev pub structure_in : Result Structure → Option Structure
structure_in (stopped r k) = none
structure_in (written s es) = some s

pub kept-written : structure_in (cell_structure 0 two (cell_sheet pair)) ≡ some kept
unfolding opened pair kept
kept-written = refl

pub crossed-refused : KeepsEdges two (cell_sheet pair) (structure_bytes crossed) → ⊥
unfolding opened pair crossed
crossed-refused k = (in_order k pair crossed refl refl along_x _ _ _ _ (here refl refl) (later (here refl refl)) tt).le

pub parted-refused : KeepsEdges two (cell_sheet pair) (structure_bytes parted) → ⊥
unfolding opened pair parted
parted-refused k = (in_order k pair parted refl refl along_y _ _ _ _ (later (here refl refl)) (here refl refl) tt).le

pub short-refused : KeepsEdges two (cell_sheet pair) (structure_bytes short) → ⊥
unfolding opened pair short
short-refused k = let e = as_many k pair short refl refl in omega (arith, e)
