-- The cell that a sheet holds: block 0 is the head, block k is element index k - 1 (document 01, "Input"). Assumes nothing.
use Rattle.std.specs.Prelude.{cond, List, [], ◌∷◌, ℕ, ◌-◌}
use Rattle.std.proofs.Math.Option.{Option, none, some}
use Rattle.sheet.specs.Element.{Head, Element, head_of, element_of}
use Rattle.sheet.specs.Blocks.{pair_count, pairs_fit, block_of, blocks_from}

pub record Cell : Type 0 where
  pub head : Head
  pub elements : List Element

-- the elements of the blocks, where each is well formed
abbrev pub cons_to : Option Element → Option (List Element) → Option (List Element)
cons_to none es = none
cons_to (some e) none = none
cons_to (some e) (some es) = some (e ∷ es)

unfoldable pub elements_of : List (List ℕ) → Option (List Element)
elements_of [] = some []
elements_of (b ∷ bs) = cons_to (element_of b) (elements_of bs)

abbrev pub cell_from : Option Head → Option (List Element) → Option Cell
cell_from none es = none
cell_from (some h) none = none
cell_from (some h) (some es) = some (record { head = h; elements = es })

-- the element blocks
abbrev pub element_blocks : List ℕ → List (List ℕ)
element_blocks s = blocks_from (pair_count s - 1) 1 s

-- the cell of a sheet whose pairs and blocks are all well formed
unfoldable pub cell_of : List ℕ → Option Cell
cell_of s = cond (pairs_fit s) (cell_from (head_of (block_of s 0)) (elements_of (element_blocks s))) none
