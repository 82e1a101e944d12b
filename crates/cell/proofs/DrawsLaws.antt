-- Demand 3, proved: a written structure draws its sheet's cell; and edges never cross in it. Assumes nothing.
use mathlib.Core.Path.{◌≡◌, refl, sym, ap, ap₂, ◌∙◌, subst}
use mathlib.Core.Bool.{Bool, cond}
use mathlib.Core.Option.{Option, none, some}
use mathlib.Core.List.{List, [], ◌∷◌}
use Prim.Native.Nat.{ℕ, suc, ◌-◌, ◌*◌}
use native.Mathlib.Omega.{arith}
use lib.Dec.{T, leb}
use lib.ListN.{length, take, drop}
use lib.Seq.{take-append_seam}
use lib.Ieee.{Float, binary64, fits}
use lib.Ieee.Bits.{is_true as on}
use lib.Ieee.Positive.{positive}
use Rattle.big_endian.specs.Big.{Bytes}
use Rattle.big_endian.specs.Buffer.{over}
use Rattle.parsing.specs.All.{All, done, more}
use Rattle.conversion.specs.declared.GdsRoundingPolicy.{GdsRoundingPolicy}
use Rattle.conversion.specs.Made.{Made, refused, made}
use Rattle.conversion.specs.Policy.{policy_of}
use Rattle.sheet.specs.Element.{Head, Element, kind_of, head_of, element_of}
use Rattle.sheet.specs.Blocks.{pair_count, pairs_fit, block_of}
use Rattle.sheet.specs.Cell.{cons_to, elements_of, cell_from, element_blocks, cell_of}
use Rattle.sheet.proofs.CountLaws.{block-bytes, blocks-bytes}
use Rattle.sheet.proofs.FineLaws.{element-fine, head-fine}
use Rattle.stream.specs.Structure.{Said, Structure}
use Rattle.stream.specs.Drawn.{elements_drawn, drawn_of}
use Rattle.stream.proofs.Fit.{FitElement, FitStructure}
use Rattle.stream.proofs.StringLaws.{trimmed-padded}
use Rattle.stream.proofs.BackLaws.{structure_of-back, structure-bytewise}
use Rattle.conversion.specs.Entry.{entry_length}
use Rattle.cell.specs.Stamps.{stamps_fit}
use Rattle.cell.specs.Names.{is_name}
use Rattle.cell.specs.Call.{checked_call}
use Rattle.cell.specs.Write.{write_element}
use Rattle.cell.specs.Cell.{Result, stopped, written, write_one, write_block, write_blocks, structure_for, structure_with, write_headed, write_sheet, after_caller, cell_structure, structure_bytes, fitting, write_cell, out_after}
use Rattle.cell.specs.Answer.{accepted, answer_of}
use Rattle.cell.specs.Draws.{Each, AlikeElement, Alike, Draws}
use Rattle.cell.specs.Draws as W
use Rattle.cell.specs.Demand3.{Demand3}
use Rattle.cell.specs.Edges.{cell_edges, drawn_points, KeepsEdges, EdgesNeverCross}
use Rattle.cell.proofs.AnswerLaws.{same-parts}
use Rattle.cell.proofs.ResultLaws.{Whenever, whenever-map, check-whenever}
use Rattle.cell.proofs.CallLaws.{Calling, unnamed, no_unit, too_long, passes, calling}
use Rattle.cell.proofs.Taken.{each_append, each-length, TakenPoint, taken-order}
use Rattle.cell.proofs.ElementLaws.{name-even, element-written}

module _ (policy : GdsRoundingPolicy) (d : Float) (fd : T (fits binary64 d)) (pd : T (positive d)) where
  -- ---- the elements

  -- the blocks hold elements that are alike to what was written, and whose points were converted to it
  record Walked (bs : List (List ℕ)) (ws : List Said) : Type 0 where
    elements : List Element
    held : elements_of bs ≡ some elements
    alike : Each (AlikeElement policy d) elements (elements_drawn ws)
    taken : Each (TakenPoint policy d) (cell_edges d elements) (drawn_points (elements_drawn ws))
    fit : All FitElement ws

  -- one element in front of the others
  front-walked : (i : ℕ) (b : List ℕ) (bs : List (List ℕ)) (e : Element) (m : Made Said) (others : Result (List Said)) → Bytes b → element_of b ≡ some e → write_element policy d e ≡ m
      → Whenever (Walked bs) others → Whenever (Walked (b ∷ bs)) (write_one i (kind_of e.body) m others)
  unfolding write_one elements_of
  front-walked i b bs e (refused r) others h he q g = tt
  front-walked i b bs e (made w vs) (stopped r k) h he q g = tt
  front-walked i b bs e (made w vs) (written ws es) h he q g =
      let t = element-written policy d fd pd e w (element-fine b e h he) (record { log = vs; is = q }) in
      record { elements = e ∷ g.elements; held = ap₂ cons_to he g.held; alike = W.more t.alike g.alike; taken = each_append t.taken g.taken; fit = more t.fit g.fit }

  blocks-walked : (i : ℕ) (bs : List (List ℕ)) → All Bytes bs → Whenever (Walked bs) (write_blocks policy d i bs)
  unfolding write_blocks write_block elements_of
  blocks-walked i [] h = record { elements = []; held = refl; alike = W.done; taken = W.done; fit = done }
  blocks-walked i (b ∷ bs) (more h hs) = go (element_of b) refl (write_blocks policy d (suc i) bs) (blocks-walked (suc i) bs hs)
    where
      go : (x : Option Element) → element_of b ≡ x → (others : Result (List Said)) → Whenever (Walked bs) others → Whenever (Walked (b ∷ bs)) (write_block policy d i x others)
      go none he others g = tt
      go (some e) he others g = front-walked i b bs e (write_element policy d e) others h he refl g

  -- ---- the cell

  -- the structure fits its records, and its bytes draw the sheet's cell under each number of the policy, with its edges in order
  pub record Sound (sheet : List ℕ) (s : Structure) : Type 0 where
    pub fit : FitStructure s
    pub draws : (n : ℕ) → policy_of n ≡ some policy → Draws n d sheet (structure_bytes s)
    pub edges : KeepsEdges d sheet (structure_bytes s)

  structure-sound : (sheet : List ℕ) (h : Head) (x : Result (List Said)) → Bytes sheet → T (pairs_fit sheet) → head_of (block_of sheet 0) ≡ some h → T (is_name h.name)
      → Whenever (Walked (element_blocks sheet)) x → Whenever (Sound sheet) (structure_with h x)
  unfolding cell_of
  structure-sound sheet h (stopped r k) all pairs hh hn w = tt
  structure-sound sheet h (written ws es) all pairs hh hn w =
      let fine = head-fine (block_of sheet 0) h (block-bytes sheet 0 all) hh in
      let alike : Alike policy d (record { head = h; elements = w.elements }) (drawn_of (structure_for h ws)) = record { name = trimmed-padded h.name; elements = w.alike } in
      let fit : FitStructure (structure_for h ws) = record { stamps = fine.stamps; twelve = fine.twelve; name = name-even h.name hn fine.name.bytes; elements = w.fit } in
      let held : cell_of sheet ≡ some (record { head = h; elements = w.elements })
      = ap (λ (c : Bool). cond c (cell_from (head_of (block_of sheet 0)) (elements_of (element_blocks sheet))) none) (on (pairs_fit sheet) pairs) ∙ ap₂ cell_from hh w.held in
      let reads = structure_of-back (structure_for h ws) fit in
      record {
        fit = fit;
        draws = λ n e. record { rounding = policy; named = e; cell = _; held = held; bytewise = structure-bytewise (structure_for h ws) fit; structure = structure_for h ws; reads = reads; alike = alike };
        edges = record { cell = _; held = held; structure = structure_for h ws; reads = reads; as_many = each-length w.taken; in_order = taken-order policy d fd pd w.taken };
      }

  pub sheet-sound : (sheet : List ℕ) → Bytes sheet → Whenever (Sound sheet) (write_sheet policy d sheet)
  unfolding write_sheet write_headed
  sheet-sound sheet all = check-whenever (Sound sheet) (pairs_fit sheet) _ _ (λ pairs. go pairs (head_of (block_of sheet 0)) refl)
    where
      go : T (pairs_fit sheet) → (x : Option Head) → head_of (block_of sheet 0) ≡ x → Whenever (Sound sheet) (write_headed policy d sheet x)
      go pairs none hh = tt
      go pairs (some h) hh =
          check-whenever (Sound sheet) (stamps_fit h.stamps) _ _
          (λ t. check-whenever (Sound sheet) (is_name h.name) _ _
          (λ n. structure-sound sheet h (write_blocks policy d 0 (element_blocks sheet)) all pairs hh n (blocks-walked 0 (element_blocks sheet) (blocks-bytes (pair_count sheet - 1) 1 sheet all))))

-- ---- measuring and writing

-- the structure fits its records, and its bytes draw the sheet's cell, with its edges in order
pub record Drawing (policy : ℕ) (d : Float) (sheet : List ℕ) (s : Structure) : Type 0 where
  pub fit : FitStructure s
  pub draws : Draws policy d sheet (structure_bytes s)
  pub edges : KeepsEdges d sheet (structure_bytes s)

module _ (policy : ℕ) (d : Float) (sheet : List ℕ) (fd : T (fits binary64 d)) (all : Bytes sheet) where
  sound-drawing : (rounding : GdsRoundingPolicy) → policy_of policy ≡ some rounding → (pd : T (positive d)) (s : Structure) → Sound rounding d fd pd sheet s → Drawing policy d sheet s
  sound-drawing rounding e pd s h = record { fit = h.fit; draws = h.draws policy e; edges = h.edges }

  pub measured-drawing : Whenever (Drawing policy d sheet) (cell_structure policy d sheet)
  unfolding cell_structure after_caller
  measured-drawing = go (checked_call policy d sheet) (calling policy d sheet)
    where
      go : (m : Made GdsRoundingPolicy) → Calling policy d sheet m → Whenever (Drawing policy d sheet) (after_caller m d sheet)
      go m (unnamed e) = tt
      go m (no_unit rounding e never) = tt
      go m (too_long rounding e pd l) = tt
      go m (passes at) = whenever-map (sound-drawing at.rounding at.named at.unit) (write_sheet at.rounding d sheet) (sheet-sound at.rounding d fd at.unit sheet all)

  pub written-drawing : (out report : ℕ) → Whenever (Drawing policy d sheet) (write_cell policy d sheet out report)
  unfolding write_cell fitting
  written-drawing out report = go (cell_structure policy d sheet) measured-drawing
    where
      go : (x : Result Structure) → Whenever (Drawing policy d sheet) x → Whenever (Drawing policy d sheet) (fitting out report x)
      go (stopped r k) h = tt
      go (written s es) h =
          check-whenever (Drawing policy d sheet) (leb (length (structure_bytes s)) out) _ _
          (λ a. check-whenever (Drawing policy d sheet) (leb (entry_length * length es) report) _ _ (λ b. h))

-- Where the answer is a structure of n bytes, the output's first n bytes are the structure's.
accepted-bytes : (P : List ℕ → Type 0) (out : List ℕ) (n entries : ℕ) (greatest : Float) (x : Result Structure) → Whenever (λ s. P (structure_bytes s)) x
    → answer_of x ≡ accepted n entries greatest → P (take n (out_after x out))
unfolding over
accepted-bytes P out n entries greatest (stopped r k) h q = let z : ◌≡◌ {A = ℕ} 0 1 = cc in absurd (omega arith)
accepted-bytes P out n entries greatest (written s es) h q =
    let e = (same-parts _ _ q).0 in
    subst (λ (k : ℕ). P (take k (out_after (written s es) out))) e (subst P (sym (take-append_seam (structure_bytes s) (drop (length (structure_bytes s)) out))) h)

-- Demand 3.
pub demand3 : Demand3
demand3 policy d sheet out report n entries greatest fd all q =
    let x = write_cell policy d sheet (length out) (length report) in
    accepted-bytes (Draws policy d sheet) out n entries greatest x (whenever-map (λ s h. h.draws) x (written-drawing policy d sheet fd all (length out) (length report))) q

-- Edges never cross.
pub edges-never-cross : EdgesNeverCross
edges-never-cross policy d sheet out report n entries greatest fd all q =
    let x = write_cell policy d sheet (length out) (length report) in
    accepted-bytes (KeepsEdges d sheet) out n entries greatest x (whenever-map (λ s h. h.edges) x (written-drawing policy d sheet fd all (length out) (length report))) q
