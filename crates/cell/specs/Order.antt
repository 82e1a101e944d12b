-- The order of the refusals (document 01, "Who can cause which refusal": "Order: 1 to 4, then blocks in turn: form first, then in the head 6 before 7, in an element its function's order in mod.rs .., then 21, 22"; document 02, request 5: 26 "directly after the block's form check"; its request 6: 9 "directly after the text's layer check", 27 "before the value of the same property").
-- `First r k`: refusal r, with block k, is the first in this order. Its cases stand in the order, and each says that all before it have passed. Assumes nothing.
use Rattle.std.specs.Prelude.{◌≡◌, List, ◌∷◌, ◌++◌, ℕ, suc, ◌*◌, ◌≤◌, ◌<◌, T, length, Float}
use Rattle.std.proofs.Math.Option.{none, some}
use Rattle.std.specs.Float.Ieee.Positive.{positive}
use Rattle.refusal.specs.declared.Refusal.{Refusal}
use Rattle.refusal.specs.declared.Refusal.TheVariants as R
use Rattle.parsing.specs.All.{All}
use Rattle.conversion.specs.declared.GdsRoundingPolicy.{GdsRoundingPolicy}
use Rattle.conversion.specs.declared.Deviation.{Deviation}
use Rattle.conversion.specs.declared.Entry.{Entry}
use Rattle.conversion.specs.Made.{refused, made}
use Rattle.conversion.specs.Policy.{policy_of}
use Rattle.sheet.specs.Element.{Head, Element, head_of, element_of}
use Rattle.sheet.specs.Blocks.{pairs_fit, block_of}
use Rattle.sheet.specs.Cell.{element_blocks}
use Rattle.stream.specs.Structure.{Said, Structure}
use Rattle.conversion.specs.Entry.{entry_length}
use Rattle.cell.specs.Limits.{max_sheet_length}
use Rattle.cell.specs.Stamps.{stamps_fit}
use Rattle.cell.specs.Names.{is_name}
use Rattle.cell.specs.Write.{write_element}
use Rattle.cell.specs.Cell.{stopped, written, cell_structure, structure_bytes, write_cell}

-- a block that holds an element which none of its checks refuses
pub record Accepted (policy : GdsRoundingPolicy) (d : Float) (b : List ℕ) : Type 0 where
  pub element : Element
  pub said : Said
  pub deviations : List Deviation
  pub held : element_of b ≡ some element
  pub writes : write_element policy d element ≡ made said deviations

module _ (policy : ℕ) (d : Float) (sheet : List ℕ) where
  -- 1 to 3 have passed
  pub record Called : Type 0 where
    pub rounding : GdsRoundingPolicy
    pub named : policy_of policy ≡ some rounding
    pub unit : T (positive d)
    pub size : length sheet ≤ max_sheet_length

  -- and 4, and the head's form, stamps and name
  pub record Headed : Type 0 where
    pub called : Called
    pub pairs : T (pairs_fit sheet)
    pub head : Head
    pub held : head_of (block_of sheet 0) ≡ some head
    pub stamps : T (stamps_fit head.stamps)
    pub name : T (is_name head.name)

  -- and the blocks before block b
  pub record Reached (b : List ℕ) (k : ℕ) : Type 0 where
    pub headed : Headed
    pub before : List (List ℕ)
    pub after : List (List ℕ)
    pub split : element_blocks sheet ≡ before ++ b ∷ after
    pub block : k ≡ suc (length before)
    pub accepted : All (Accepted headed.called.rounding d) before

  pub data First (out report : ℕ) : Refusal → ℕ → Type 0 where
    -- 1, 2, 3: "Caller, first"
    policy_above3 : policy_of policy ≡ none → First out report R.Policy 0
    unit_not_positive : (rounding : GdsRoundingPolicy) → policy_of policy ≡ some rounding → (T (positive d) → ⊥) → First out report R.DatabaseUnit 0
    sheet_too_long : (rounding : GdsRoundingPolicy) → policy_of policy ≡ some rounding → T (positive d) → max_sheet_length < length sheet → First out report R.SheetSize 0
    -- 4
    pairs_ill_formed : Called → (T (pairs_fit sheet) → ⊥) → First out report R.Pairs 0
    -- the head: 5, 6, 7
    head_ill_formed : Called → T (pairs_fit sheet) → head_of (block_of sheet 0) ≡ none → First out report R.Form 0
    head_stamps : (h : Head) → Called → T (pairs_fit sheet) → head_of (block_of sheet 0) ≡ some h
        → (T (stamps_fit h.stamps) → ⊥) → First out report R.Stamp 0
    head_name : (h : Head) → Called → T (pairs_fit sheet) → head_of (block_of sheet 0) ≡ some h → T (stamps_fit h.stamps)
        → (T (is_name h.name) → ⊥) → First out report R.Name 0
    -- the other blocks in turn: 5, then the first refusal of the element's own steps (specs/Write)
    block_ill_formed : (b : List ℕ) (k : ℕ) → Reached b k → element_of b ≡ none → First out report R.Form k
    block_refused : (b : List ℕ) (k : ℕ) (at : Reached b k) (e : Element) (r : Refusal) → element_of b ≡ some e
        → write_element at.headed.called.rounding d e ≡ refused r → First out report r k
    -- 21, 22: "Caller, last"
    output_too_short : (s : Structure) (es : List Entry) → cell_structure policy d sheet ≡ written s es → out < length (structure_bytes s) → First out report R.OutputShort 0
    report_too_short : (s : Structure) (es : List Entry) → cell_structure policy d sheet ≡ written s es → length (structure_bytes s) ≤ out
        → report < entry_length * length es → First out report R.ReportShort 0

-- The answer is a refusal exactly where that is the first in the order: so it is one refusal, the first, or a structure.
pub record Ordered (policy : ℕ) (d : Float) (sheet : List ℕ) (out report : ℕ) : Type 0 where
  pub is_first : (r : Refusal) (k : ℕ) → write_cell policy d sheet out report ≡ stopped r k → First policy d sheet out report r k
  pub first_is : (r : Refusal) (k : ℕ) → First policy d sheet out report r k → write_cell policy d sheet out report ≡ stopped r k
