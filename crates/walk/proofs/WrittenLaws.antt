-- A written sheet taken apart. Assumes nothing.
use mathlib.Core.Path.{◌≡◌, refl, ap, ◌∙◌}
use mathlib.Core.Option.{Option, none, some}
use mathlib.Core.List.{List}
use Prim.Native.Nat.{ℕ}
use native.Mathlib.Omega.{arith}
use lib.Dec.{T}
use lib.Ieee.{Float}
use Rattle.conversion.specs.declared.GdsRoundingPolicy.{GdsRoundingPolicy}
use Rattle.conversion.specs.declared.Entry.{Entry}
use Rattle.sheet.specs.Element.{Head, head_of}
use Rattle.sheet.specs.Blocks.{pairs_fit, block_of}
use Rattle.sheet.specs.Cell.{element_blocks}
use Rattle.stream.specs.Structure.{Said, Structure}
use Rattle.cell.specs.Stamps.{stamps_fit}
use Rattle.cell.specs.Names.{is_name}
use Rattle.cell.specs.Cell.{Result, stopped, written, write_blocks, structure_for, structure_with, write_headed, write_sheet}
use Rattle.cell.proofs.ResultLaws.{check-passed}

pub record Sheet (policy : GdsRoundingPolicy) (d : Float) (sheet : List ℕ) (s : Structure) (es : List Entry) : Type 0 where
  pub pairs : T (pairs_fit sheet)
  pub head : Head
  pub held : head_of (block_of sheet 0) ≡ some head
  pub name : T (is_name head.name)
  pub elements : List Said
  pub writes : write_blocks policy d 0 (element_blocks sheet) ≡ written elements es
  pub structure : s ≡ structure_for head elements

pub sheet-split : (policy : GdsRoundingPolicy) (d : Float) (sheet : List ℕ) (s : Structure) (es : List Entry) → write_sheet policy d sheet ≡ written s es → Sheet policy d sheet s es
unfolding write_sheet write_headed
sheet-split policy d sheet s es w =
    let p = check-passed (pairs_fit sheet) _ _ w in
    by-head p.0 (head_of (block_of sheet 0)) refl p.1
  where
    by-walk : T (pairs_fit sheet) → (h : Head) → head_of (block_of sheet 0) ≡ some h → T (is_name h.name) → (x : Result (List Said)) → write_blocks policy d 0 (element_blocks sheet) ≡ x
        → structure_with h x ≡ written s es → Sheet policy d sheet s es
    by-walk p h e n (stopped r k) f g = let z : ◌≡◌ {A = ℕ} 0 1 = cc in absurd (omega arith)
    by-walk p h e n (written ws fs) f g =
        let i : fs ≡ es = cc in
        record { pairs = p; head = h; held = e; name = n; elements = ws; writes = f ∙ ap (written ws) i; structure = cc }

    by-head : T (pairs_fit sheet) → (x : Option Head) → head_of (block_of sheet 0) ≡ x → write_headed policy d sheet x ≡ written s es → Sheet policy d sheet s es
    by-head p none e g = let z : ◌≡◌ {A = ℕ} 0 1 = cc in absurd (omega arith)
    by-head p (some h) e g =
        let t = check-passed (stamps_fit h.stamps) _ _ g in
        let n = check-passed (is_name h.name) _ _ t.1 in
        by-walk p h e n.0 (write_blocks policy d 0 (element_blocks sheet)) refl n.1
