-- The places of a body by its kind, behind the options of its block. Assumes nothing.
use mathlib.Core.Path.{◌≡◌, ap}
use mathlib.Core.Bool.{Bool, true, false, cond}
use mathlib.Core.List.{List}
use Prim.Native.Nat.{ℕ, ◌+◌, ◌≤◌}
use native.Mathlib.Omega.{arith}
use lib.Dec.{eqb}
use lib.ListN.{length, length-drop}
use Rattle.big_endian.specs.Big.{number_at}
use Rattle.sheet.specs.Element.{polygon_kind, path_kind, text_kind, node_kind, reference_kind, plain_kind}
use Rattle.block_places.specs.declared.BodyPlaces.{BodyPlaces}
use Rattle.block_places.specs.declared.BodyPlaces.TheVariants as B
use Rattle.block_places.specs.declared.Options.{Options}
use Rattle.block_places.specs.code.Place.{string_end}
use Rattle.block_places.specs.code.Places.{shape_places, path_places, text_places, reference_places, box_places, body_places, body_end, shift_of, options_at, shifted, body_end_in}

-- ---- what each of the six kinds has, the places have

either : {A : Type 0} (P : A → Type 0) (t : Bool) {x y : A} → P x → P y → P (cond t x y)
either P true p q = p
either P false p q = q

-- of kind k
module _ (k : ℕ) (b : List ℕ) where
  pub by_kind : (P : BodyPlaces → Type 0)
      → P (B.Polygon (shape_places b)) → P (B.Path (path_places b)) → P (B.Text (text_places b)) → P (B.Node (shape_places b)) → P (B.Reference (reference_places b (string_end b 1))) → P (B.Box (box_places b))
      → P (body_places k b)
  unfolding body_places
  by_kind P polygon path text node reference gds-box =
      either P (eqb k polygon_kind) polygon
      (either P (eqb k path_kind) path
      (either P (eqb k text_kind) text
      (either P (eqb k node_kind) node
      (either P (eqb k reference_kind) reference gds-box))))

  -- there is a byte before the body
  pub some_byte : body_end b (body_places k b) ≤ length b → 1 ≤ length b
  unfolding shape_places path_places text_places reference_places box_places
  some_byte h = by_kind (λ s. body_end b s ≤ length b → 1 ≤ length b) (λ l. omega arith) (λ l. omega arith) (λ l. omega arith) (λ l. omega arith) (λ l. omega arith) (λ l. omega arith) h

-- ---- options

pub shift_is : (b : List ℕ) {o : Options} → o ≡ options_at b → o.shift ≡ shift_of (number_at 1 b 0)
unfolding options_at
shift_is b e = ap (λ (o : Options). o.shift) e

-- where it has a body, the options lie in the block
pub options-in : (b : List ℕ) → body_end_in b ≤ length (shifted b) → 1 + shift_of (number_at 1 b 0) ≤ length b
unfolding shifted
options-in b h =
    let one = some_byte (plain_kind (number_at 1 b 0)) (shifted b) h in
    omega (arith, length-drop (shift_of (number_at 1 b 0)) b)
