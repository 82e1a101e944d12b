-- A turn of the measuring walk and of the writing walk over the blocks. Assumes nothing.
use Rattle.std.specs.Prelude.{Result as Answered, Ok, Err}
use mathlib.Core.Path.{◌≡◌, refl, sym, ap, ap₂, ◌∙◌, subst}
use mathlib.Core.Option.{some}
use mathlib.Core.List.{List, [], ◌∷◌, ◌++◌}
use Prim.Native.Nat.{ℕ, suc, ◌+◌, ◌≤◌}
use native.Mathlib.Omega.{arith}
use lib.ListN.{length, length-append}
use lib.Ieee.{Float}
use Rattle.refusal.specs.declared.Refusal.{Refusal}
use Rattle.conversion.specs.declared.GdsRoundingPolicy.{GdsRoundingPolicy}
use Rattle.conversion.specs.declared.Deviation.{Deviation}
use Rattle.conversion.specs.declared.Entry.{Entry}
use Rattle.big_endian.specs.Buffer.{WroteAt}
use Rattle.big_endian.proofs.RowLaws.{Row, row-start, row-turn, row-end}
use Rattle.conversion.specs.Entry.{entry_of, report_with, greatest_from}
use Rattle.conversion.specs.Made.{made}
use Rattle.conversion.specs.code.Fold.{blank_entry, noted_all, standing}
use Rattle.conversion.proofs.FoldLaws.{entry-stands}
use Rattle.conversion.proofs.EntryLaws.{report-append, greatest-append}
use Rattle.sheet.specs.Element.{Element, kind_of, element_of}
use Rattle.stream.specs.Structure.{Said}
use Rattle.stream.specs.Records.{element_bytes, elements_bytes}
use Rattle.cell.specs.Answer.{refused, accepted}
use Rattle.cell.specs.Write.{write_element}
use Rattle.cell.specs.Cell.{Result, stopped, written, in_front, write_blocks}
use Rattle.cell.proofs.WalkLaws.{walk-ill, walk_refused, walk-made}
use Rattle.steps.specs.declared.Measured.{Measured}
use Rattle.elements.specs.code.Block.{measured_block}
use Rattle.elements.proofs.BlockLaws.{Met, ill, refusing, writing, met}
use Rattle.walk.specs.code.Walk.{totals_from}

-- ---- measuring

-- one element in front of the others: its length, its entries and their error come first
totals-front : (n k : ℕ) (g : Float) (w : Said) (es : List Entry) (x : Result (List Said))
    → totals_from n k g (in_front w es x) ≡ totals_from (n + length (element_bytes w)) (k + length es) (greatest_from g es) x
unfolding totals_from elements_bytes
totals-front n k g w es (stopped r j) = refl
totals-front n k g w es (written ws fs) =
    let a : n + length (element_bytes w ++ elements_bytes ws) ≡ n + length (element_bytes w) + length (elements_bytes ws) = simp length-append (omega arith) in
    let b : k + length (es ++ fs) ≡ k + length es + length fs = simp length-append (omega arith) in
    ap₂ (λ (x y : ℕ). accepted x y (greatest_from g (es ++ fs))) a b
    ∙ ap (λ (z : Float). accepted (n + length (element_bytes w) + length (elements_bytes ws)) (k + length es + length fs) z) (greatest-append g es fs)

module _ (policy : GdsRoundingPolicy) (d : Float) (n k : ℕ) (g : Float) (i : ℕ) (b : List ℕ) (bs : List (List ℕ)) where
  pub totals-stop : (r : Answered Measured Refusal) (x : Refusal) → Met policy d i b r → r ≡ Err x → totals_from n k g (write_blocks policy d i (b ∷ bs)) ≡ refused x (suc i)
  unfolding totals_from
  totals-stop r x (ill h) e = ap (totals_from n k g) (walk-ill policy d i b bs h) ∙ ap (λ (y : Refusal). refused y (suc i)) (cc)
  totals-stop r x (refusing a y h f) e = ap (totals_from n k g) (walk_refused policy d i b bs a y h f) ∙ ap (λ (z : Refusal). refused z (suc i)) (cc)
  totals-stop r x (writing a w vs h f) e = let z : ◌≡◌ {A = ℕ} 0 1 = cc in absurd (omega arith)

  pub totals-turn : (r : Answered Measured Refusal) (m : Measured) → Met policy d i b r → r ≡ Ok m
      → totals_from n k g (write_blocks policy d i (b ∷ bs)) ≡ totals_from (n + m.length) (k + length (standing m.entry)) (greatest_from g (standing m.entry)) (write_blocks policy d (suc i) bs)
  totals-turn r m (ill h) f = let z : ◌≡◌ {A = ℕ} 0 1 = cc in absurd (omega arith)
  totals-turn r m (refusing a y h j) f = let z : ◌≡◌ {A = ℕ} 0 1 = cc in absurd (omega arith)
  totals-turn r m (writing a w vs h j) f =
      let same : ◌≡◌ {A = Measured} (record { length = length (element_bytes w); entry = noted_all (blank_entry i (kind_of a.body)) vs }) m = cc in
      let p : length (element_bytes w) ≡ m.length = ap (λ (x : Measured). x.length) same in
      let q : noted_all (blank_entry i (kind_of a.body)) vs ≡ m.entry = ap (λ (x : Measured). x.entry) same in
      let s : entry_of i (kind_of a.body) vs ≡ standing m.entry = sym (entry-stands i (kind_of a.body) vs) ∙ ap standing q in
      ap (totals_from n k g) (walk-made policy d i b bs a w vs h j)
      ∙ totals-front n k g w (entry_of i (kind_of a.body) vs) (write_blocks policy d (suc i) bs)
      ∙ ap₂ (λ (x : ℕ) (l : List Entry). totals_from (n + x) (k + length l) (greatest_from g l) (write_blocks policy d (suc i) bs)) p s

-- ---- writing

-- a walk that is written, taken apart at its first block
pub record Split (policy : GdsRoundingPolicy) (d : Float) (i : ℕ) (b : List ℕ) (bs : List (List ℕ)) (ws : List Said) (es : List Entry) : Type 0 where
  pub element : Element
  pub said : Said
  pub deviations : List Deviation
  pub rest : List Said
  pub others : List Entry
  pub held : element_of b ≡ some element
  pub writes : write_element policy d element ≡ made said deviations
  pub after : write_blocks policy d (suc i) bs ≡ written rest others
  pub elements : ws ≡ said ∷ rest
  pub entries : es ≡ entry_of i (kind_of element.body) deviations ++ others

module _ (policy : GdsRoundingPolicy) (d : Float) (i : ℕ) (b : List ℕ) (bs : List (List ℕ)) (ws : List Said) (es : List Entry)
    (w : write_blocks policy d i (b ∷ bs) ≡ written ws es) where
  by-others : (e : Element) (a : Said) (vs : List Deviation) → element_of b ≡ some e → write_element policy d e ≡ made a vs
      → (x : Result (List Said)) → write_blocks policy d (suc i) bs ≡ x → in_front a (entry_of i (kind_of e.body) vs) x ≡ written ws es → Split policy d i b bs ws es
  by-others e a vs h f (stopped r k) g j = let z : ◌≡◌ {A = ℕ} 0 1 = cc in absurd (omega arith)
  by-others e a vs h f (written rs os) g j = record { element = e; said = a; deviations = vs; rest = rs; others = os; held = h; writes = f; after = g; elements = cc; entries = cc }

  by-met : (r : Answered Measured Refusal) → Met policy d i b r → Split policy d i b bs ws es
  by-met r (ill h) = let k = walk-ill policy d i b bs h in let z : ◌≡◌ {A = ℕ} 0 1 = cc in absurd (omega arith)
  by-met r (refusing e x h f) = let k = walk_refused policy d i b bs e x h f in let z : ◌≡◌ {A = ℕ} 0 1 = cc in absurd (omega arith)
  by-met r (writing e a vs h f) = by-others e a vs h f (write_blocks policy d (suc i) bs) refl (sym (walk-made policy d i b bs e a vs h f) ∙ w)

  pub split : Split policy d i b bs ws es
  split = by-met (measured_block policy d i (element_of b)) (met policy d i b)

-- ---- the state of the writing walk, before block i + 1 of n

pub record Reached (policy : GdsRoundingPolicy) (d : Float) (i : ℕ) (bs : List (List ℕ)) (ws : List Said) (es : List Entry) (lead before report : List ℕ) (to at : ℕ) (out after : List ℕ) : Type 0 where
  pub rest : List Said
  pub others : List Entry
  pub writes : write_blocks policy d i bs ≡ written rest others
  pub output : Row 0 (elements_bytes ws) before to (elements_bytes rest) out
  pub entries : Row 0 (report_with lead es) report at (report_with lead others) after

module _ (policy : GdsRoundingPolicy) (d : Float) (bs : List (List ℕ)) (ws : List Said) (es : List Entry) (lead before report : List ℕ) where
  abbrev OutRow : ℕ → List ℕ → List ℕ → Type 0
  OutRow to rest out = Row 0 (elements_bytes ws) before to rest out

  abbrev ReportRow : ℕ → List ℕ → List ℕ → Type 0
  ReportRow at rest after = Row 0 (report_with lead es) report at rest after

  pub reached-start : write_blocks policy d 0 bs ≡ written ws es → Reached policy d 0 bs ws es lead before report 0 0 before report
  reached-start w = record { rest = ws; others = es; writes = w; output = row-start; entries = row-start }

  pub reached-end : (i to at : ℕ) (out after : List ℕ) → length (elements_bytes ws) ≤ length before → length (report_with lead es) ≤ length report
      → Reached policy d i [] ws es lead before report to at out after → WroteAt (elements_bytes ws) before out 0 to × WroteAt (report_with lead es) report after 0 at
  unfolding write_blocks elements_bytes
  reached-end i to at out after f g r =
      let p : r.rest ≡ [] = cc r.writes in
      let q : r.others ≡ [] = cc r.writes in (
        row-end (omega arith) (subst (λ (l : List Said). OutRow to (elements_bytes l) out) p r.output),
        row-end (omega arith) (subst (λ (l : List Entry). ReportRow at (report_with lead l) after) q r.entries),
      )

  -- one block more was written, and its entry if it has one
  pub reached-turn : (i : ℕ) (b : List ℕ) (cs : List (List ℕ)) (to at : ℕ) (out after : List ℕ) (r : Reached policy d i (b ∷ cs) ws es lead before report to at out after)
      → (s : Split policy d i b cs r.rest r.others) (to' at' : ℕ) (out' after' : List ℕ) → WroteAt (element_bytes s.said) out out' to to'
      → WroteAt (report_with lead (entry_of i (kind_of s.element.body) s.deviations)) after after' at at'
      → Reached policy d (suc i) cs ws es lead before report to' at' out' after'
  unfolding elements_bytes
  reached-turn i b cs to at out after r s to' at' out' after' u v =
      let bytes : elements_bytes r.rest ≡ element_bytes s.said ++ elements_bytes s.rest = ap elements_bytes s.elements in
      let first = entry_of i (kind_of s.element.body) s.deviations in
      let more : report_with lead r.others ≡ report_with lead first ++ report_with lead s.others = ap (report_with lead) s.entries ∙ report-append lead first s.others in
      record {
        rest = s.rest;
        others = s.others;
        writes = s.after;
        output = row-turn (subst (λ (l : List ℕ). OutRow to l out) bytes r.output) u;
        entries = row-turn (subst (λ (l : List ℕ). ReportRow at l after) more r.entries) v;
      }
