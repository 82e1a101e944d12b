-- The walk over the blocks, from its front: what was gathered so far, and what the blocks that are left give. For a loop over the blocks. Assumes nothing.
use mathlib.Core.Path.{◌≡◌, ap, ◌∙◌}
use mathlib.Core.Option.{Option, none, some}
use mathlib.Core.List.{List, ◌∷◌}
use Prim.Native.Nat.{ℕ, suc}
use lib.Ieee.{Float}
use Rattle.refusal.specs.declared.Refusal.{Refusal}
use Rattle.refusal.specs.declared.Refusal.TheVariants as R
use Rattle.conversion.specs.declared.GdsRoundingPolicy.{GdsRoundingPolicy}
use Rattle.conversion.specs.declared.Deviation.{Deviation}
use Rattle.conversion.specs.Entry.{entry_of}
use Rattle.conversion.specs.Made.{Made, refused, made}
use Rattle.sheet.specs.Element.{Element, kind_of, element_of}
use Rattle.stream.specs.Structure.{Said}
use Rattle.cell.specs.Write.{write_element}
use Rattle.cell.specs.Cell.{stopped, in_front, write_one, write_block, write_blocks}

-- one block more: its element is ill-formed, refused, or written
module _ (policy : GdsRoundingPolicy) (d : Float) (i : ℕ) (b : List ℕ) (bs : List (List ℕ)) where
  pub walk-ill : element_of b ≡ none → write_blocks policy d i (b ∷ bs) ≡ stopped R.Form (suc i)
  unfolding write_blocks write_block
  walk-ill h = ap (λ (x : Option Element). write_block policy d i x (write_blocks policy d (suc i) bs)) h

  -- a block that holds an element is walked as its element is written
  walk-held : (e : Element) (m : Made Said) → element_of b ≡ some e → write_element policy d e ≡ m
      → write_blocks policy d i (b ∷ bs) ≡ write_one i (kind_of e.body) m (write_blocks policy d (suc i) bs)
  unfolding write_blocks write_block
  walk-held e m h k =
      ap (λ (x : Option Element). write_block policy d i x (write_blocks policy d (suc i) bs)) h
      ∙ ap (λ (m : Made Said). write_one i (kind_of e.body) m (write_blocks policy d (suc i) bs)) k

  pub walk_refused : (e : Element) (r : Refusal) → element_of b ≡ some e → write_element policy d e ≡ refused r → write_blocks policy d i (b ∷ bs) ≡ stopped r (suc i)
  unfolding write_one
  walk_refused e r h k = walk-held e (refused r) h k

  pub walk-made : (e : Element) (w : Said) (vs : List Deviation) → element_of b ≡ some e → write_element policy d e ≡ made w vs
      → write_blocks policy d i (b ∷ bs) ≡ in_front w (entry_of i (kind_of e.body) vs) (write_blocks policy d (suc i) bs)
  unfolding write_one
  walk-made e w vs h k = walk-held e (made w vs) h k
