-- Writing, as the code sees it: an element's entry, a block, and all blocks in turn. Assumes nothing.
use mathlib.Core.Path.{◌≡◌, sym, ap, ap₂, ◌∙◌, subst}
use mathlib.Core.Bool.{Bool, cond}
use mathlib.Core.List.{List, [], ◌∷◌, ◌++◌, append-nil}
use Prim.Native.Nat.{ℕ, suc, ◌+◌, ◌-◌, ◌≤◌, ◌<◌}
use native.Mathlib.Omega.{arith}
use lib.Dec.{T}
use lib.ListN.{length, take, drop, length-append, length-take, length-drop}
use lib.Ieee.{Float}
use borrow.Author.Tests.{eq-eqb, ne_eqb}
use Rattle.big_endian.specs.Buffer.{Wrote, WroteAt}
use Rattle.big_endian.proofs.BufferLaws.{from_zero, nothing-at, part_at, same_bytes, then_at}
use Rattle.conversion.specs.declared.GdsRoundingPolicy.{GdsRoundingPolicy}
use Rattle.conversion.specs.declared.Entry.{Entry}
use Rattle.conversion.specs.Entry.{entry_of, entry_bytes, report_with}
use Rattle.conversion.specs.declared.Deviation.{Deviation}
use Rattle.conversion.specs.Made.{made}
use Rattle.conversion.specs.code.Fold.{blank_entry, noted_all, standing}
use Rattle.conversion.proofs.EntryLaws.{length-entry, report-append}
use Rattle.conversion.proofs.FoldLaws.{entry-stands}
use Rattle.sheet.specs.Element.{Element, kind_of}
use Rattle.sheet.specs.Blocks.{max_pairs, pair_count, pairs_fit, block_of, blocks_from}
use Rattle.stream.specs.Structure.{Said}
use Rattle.stream.specs.Records.{element_bytes, elements_bytes}
use Rattle.cell.specs.Write.{write_element}
use Rattle.cell.specs.Cell.{write_blocks}
use Rattle.steps.specs.declared.Written.{Written}
use Rattle.elements.specs.code.Block.{Fits, WritesBlock}
use Rattle.walk.specs.code.Walk.{ElementsFit, PutsElements}
use Rattle.sheet.proofs.CountLaws.{pairs-count, blocks-turn, blocks_end}
use Rattle.walk.proofs.WalkLaws.{Split, split, Reached, reached-start, reached-turn, reached-end}

-- ---- an element's entry

-- none stands
pub entry-none : (lead : List ℕ) (e : Entry) (d : List ℕ) (at : ℕ) → e.count ≡ 0 → at + length (report_with lead (standing e)) ≤ length d → WroteAt (report_with lead (standing e)) d d at at
entry-none lead e d at h l = same_bytes (sym (ap (λ (t : Bool). report_with lead (cond t [] (e ∷ []))) (eq-eqb e.count 0 h))) (nothing-at d at (omega arith))

-- one stands
module _ (lead : List ℕ) (e : Entry) (h : e.count ≡ 0 → ⊥) where
  stands : report_with lead (standing e) ≡ lead ++ entry_bytes e
  stands = ap (λ (t : Bool). report_with lead (cond t [] (e ∷ []))) (ne_eqb e.count 0 h) ∙ append-nil (lead ++ entry_bytes e)

  pub entry-room : (at n : ℕ) → at + length (report_with lead (standing e)) ≤ n → at + (length lead + 33) ≤ n
  entry-room at n l =
      let k = ap length stands ∙ length-append lead (entry_bytes e) in
      let m = length-entry e in
      omega arith

  pub entry-put : {d cur after : List ℕ} {at r1 r2 : ℕ} → WroteAt lead d cur at r1 → WroteAt (entry_bytes e) cur after r1 r2 → WroteAt (report_with lead (standing e)) d after at r2
  entry-put u w = same_bytes (sym stands) (then_at u w)

-- ---- one block, lent a part of the output

module _ {policy : GdsRoundingPolicy} {d : Float} {i : ℕ} {b : List ℕ} {bs : List (List ℕ)} {ws : List Said} {es : List Entry} (s : Split policy d i b bs ws es) where
  abbrev bytes : List ℕ
  bytes = element_bytes s.said

  -- its entry, and what stands of it
  abbrev entry-of : Entry
  entry-of = noted_all (blank_entry i (kind_of s.element.body)) s.deviations

  abbrev entries-of : List Entry
  entries-of = entry_of i (kind_of s.element.body) s.deviations

  block-accepted : (n : ℕ) → length bytes ≤ n → Fits policy d b n
  block-accepted n l = record { accepted = record { element = s.element; said = s.said; deviations = s.deviations; held = s.held; writes = s.writes }; room = l }

  -- its bytes stand at the start of the part, and its entry is answered
  module _ {part last : List ℕ} {r : Written} (w : WritesBlock policy d i b part last r) where
    same-element : w.element ≡ s.element
    same-element = let g = w.held in let h = s.held in cc

    same_step : made w.writes.step.value w.writes.step.deviations ≡ made s.said s.deviations
    same_step = sym w.writes.step.makes ∙ ap (write_element policy d) same-element ∙ s.writes

    block-wrote : Wrote bytes part last r.to
    block-wrote = let h = same_step in let g : w.writes.step.value ≡ s.said = cc in from_zero (same_bytes (ap element_bytes g) w.writes.wrote)

    block_noted : r.entry ≡ entry-of
    block_noted =
        let h = same_step in
        let g : w.writes.step.deviations ≡ s.deviations = cc in
        w.writes.entry ∙ ap₂ (λ (x : Element) (vs : List Deviation). noted_all (blank_entry i (kind_of x.body)) vs) same-element g

  -- its bytes come first, and so do those of its entry
  bytes-first : length (elements_bytes ws) ≡ length bytes + length (elements_bytes s.rest)
  unfolding elements_bytes
  bytes-first = ap (λ (l : List Said). length (elements_bytes l)) s.elements ∙ length-append bytes (elements_bytes s.rest)

  entries-first : (lead : List ℕ) → length (report_with lead es) ≡ length (report_with lead entries-of) + length (report_with lead s.others)
  entries-first lead =
      ap (λ (l : List Entry). length (report_with lead l)) s.entries
      ∙ ap length (report-append lead entries-of s.others)
      ∙ length-append (report_with lead entries-of) (report_with lead s.others)

-- ---- all blocks in turn: the state before block k of n

pub record Turns (policy : GdsRoundingPolicy) (d : Float) (sheet lead before report : List ℕ) (n : ℕ) (out after : List ℕ) (k to at : ℕ) : Type 0 where
  pub first : 1 ≤ k
  pub count : n ≡ pair_count sheet
  pub most : n ≤ max_pairs
  pub fit : ElementsFit policy d sheet lead (length before) (length report)
  pub reached : Reached policy d (k - 1) (blocks_from (n - k) k sheet) fit.elements fit.entries lead before report to at out after

module _ {policy : GdsRoundingPolicy} {d : Float} {sheet lead before report : List ℕ} {n : ℕ} where
  pub turns-start : T (pairs_fit sheet) → n ≡ pair_count sheet → ElementsFit policy d sheet lead (length before) (length report) → Turns policy d sheet lead before report n before report 1 0 0
  turns-start p e f =
      let c = pairs-count sheet p in
      let l = c.least in
      let m = c.most in
      record {
        first = omega arith;
        count = e;
        most = omega arith;
        fit = f;
        reached = reached-start policy d (blocks_from (n - 1) 1 sheet) f.elements f.entries lead before report (ap (λ (j : ℕ). write_blocks policy d 0 (blocks_from (j - 1) 1 sheet)) e ∙ f.writes);
      }

module _ {policy : GdsRoundingPolicy} {d : Float} {sheet lead before report : List ℕ} {n : ℕ} {out after : List ℕ} {k to at : ℕ}
    (t : Turns policy d sheet lead before report n out after k to at) where
  -- the state, over the blocks that are left
  abbrev Before : List (List ℕ) → Type 0
  Before bs = Reached policy d (k - 1) bs t.fit.elements t.fit.entries lead before report to at out after

  pub turns-end : n ≤ k → PutsElements policy d sheet lead before report out after (record { out = to; report = at })
  turns-end l =
      let f = t.fit in
      let e = reached-end policy d [] f.elements f.entries lead before report (k - 1) to at out after f.out-room f.report-room (subst Before (blocks_end n k sheet l) t.reached) in
      record {
        output = λ ws es w. let a : f.elements ≡ ws = cc (f.writes, w) in from_zero (same_bytes (ap elements_bytes a) e.0);
        entries = λ ws es w. let a : f.entries ≡ es = cc (f.writes, w) in from_zero (same_bytes (ap (report_with lead) a) e.1);
      }

  module _ (h : k < n) {b : List ℕ} (is : b ≡ block_of sheet k) where
    abbrev others : List (List ℕ)
    others = blocks_from (n - (k + 1)) (k + 1) sheet

    -- the part that the block is lent
    abbrev part : List ℕ
    part = take (length out - to) (drop to out)

    at_block : Before (b ∷ others)
    at_block = subst Before (blocks-turn n k sheet h ∙ ap (λ (l : List ℕ). l ∷ others) (sym is)) t.reached

    abbrev here : Split policy d (k - 1) b others at_block.rest at_block.others
    here = split policy d (k - 1) b others at_block.rest at_block.others at_block.writes

    abbrev bytes-here : List ℕ
    bytes-here = element_bytes here.said

    room : to + length bytes-here ≤ length out
    room =
        let a = at_block.output.end in
        let c = at_block.output.long in
        let e = bytes-first here in
        let f = t.fit.out-room in
        omega arith

    part_room : length bytes-here ≤ length part
    part_room = let a = room in simp (length-take, length-drop) (omega arith)

    turn-place : to ≤ length out
    turn-place = let a = room in omega arith

    pub turn-fits : Fits policy d b (length part)
    turn-fits = block-accepted here (length part) part_room

    -- what `elements::put_element` promises of the part
    module _ {last : List ℕ} {r : Written} (w : WritesBlock policy d (k - 1) b part last r) where
      done : Wrote bytes-here part last r.to
      done = block-wrote here w

      noted : standing r.entry ≡ entries-of here
      noted = ap standing (block_noted here w) ∙ entry-stands (k - 1) (kind_of here.element.body) here.deviations

      pub turn-report : at + length (report_with lead (standing r.entry)) ≤ length after
      turn-report =
          let a = at_block.entries.end in
          let c = at_block.entries.long in
          let f = entries-first here lead in
          let g : length (report_with lead (standing r.entry)) ≡ length (report_with lead (entries-of here)) = ap (λ (l : List Entry). length (report_with lead l)) noted in
          let q = t.fit.report-room in
          omega arith

      -- the whole output, with the part come back
      abbrev whole : List ℕ
      whole = take to out ++ (last ++ drop (length out - to) (drop to out))

      pub turn-next : {after' : List ℕ} {at' : ℕ} → WroteAt (report_with lead (standing r.entry)) after after' at at' → Turns policy d sheet lead before report n whole after' (k + 1) (to + r.to) at'
      turn-next {after'} {at'} v =
          let next = reached-turn policy d (b ∷ others) t.fit.elements t.fit.entries lead before report (k - 1) b others to at out after at_block here (to + r.to) at' whole after' (part_at turn-place done) (same_bytes (ap (report_with lead) noted) v) in
          record {
            first = omega arith;
            count = t.count;
            most = t.most;
            fit = t.fit;
            reached = subst (λ (j : ℕ). Reached policy d j others t.fit.elements t.fit.entries lead before report (to + r.to) at' whole after') (index k t.first) next;
          }
        where
          index : (k : ℕ) → 1 ≤ k → suc (k - 1) ≡ k + 1 - 1
          index k h = omega arith
