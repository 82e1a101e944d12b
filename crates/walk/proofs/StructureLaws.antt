-- The structure written: the head's records, each block's, and the end's. Assumes nothing.
use Rattle.std.specs.Prelude as Code
use mathlib.Core.Path.{◌≡◌, sym, ap, ◌∙◌, subst}
use mathlib.Core.Option.{some}
use mathlib.Core.List.{List, ◌++◌}
use Prim.Native.Nat.{ℕ, ◌+◌, ◌-◌, ◌≤◌, ◌<◌}
use native.Mathlib.Omega.{arith}
use lib.Dec.{T}
use lib.ListN.{length, take, drop, length-append, length-take, length-drop}
use lib.Ieee.{Float}
use lib.Ieee.Bits.{is_true}
use Rattle.big_endian.specs.Buffer.{Wrote, WroteAt}
use Rattle.big_endian.proofs.BufferLaws.{from_zero, part_at, same_bytes, then_at, length_at}
use Rattle.conversion.specs.declared.GdsRoundingPolicy.{GdsRoundingPolicy}
use Rattle.conversion.specs.declared.Entry.{Entry}
use Rattle.conversion.specs.Entry.{report_with}
use Rattle.sheet.specs.Element.{Head, head_of}
use Rattle.sheet.specs.Blocks.{pair_count, pairs_fit, block_of}
use Rattle.stream.specs.Record.{ENDSTR}
use Rattle.stream.specs.Records.{empty_record, elements_bytes}
use Rattle.stream.proofs.BytesLaws as S
use Rattle.stream.proofs.BytesLaws.{structure-bytes, end_bytes}
use Rattle.sheet.specs.Cell.{element_blocks}
use Rattle.cell.specs.Cell.{written, write_blocks, structure_for, structure_bytes}
use Rattle.records.specs.code.Bytes.{Recorded}
use Rattle.records.proofs.RecordLaws.{length-record}
use Rattle.block_places.specs.declared.HeadPlaces.{HeadPlaces}
use Rattle.block_places.specs.code.Place.{string_at}
use Rattle.block_places.specs.code.Places.{head_at}
use Rattle.forms.specs.code.Checks.{HeadRead}
use Rattle.walk.specs.declared.Ends.{Ends}
use Rattle.walk.specs.code.Walk.{head_bytes, ElementsFit, PutsElements, StructureFits, PutsStructure}
use Rattle.sheet.proofs.CountLaws.{pairs-count}
use Rattle.walk.proofs.HeadLaws.{name-short}
use Rattle.walk.proofs.WrittenLaws.{Sheet, sheet-split}

module _ {policy : GdsRoundingPolicy} {d : Float} {sheet : List ℕ} (lead out report : List ℕ) (fit : StructureFits policy d sheet lead (length out) (length report)) where
  abbrev parts : Sheet policy d sheet fit.structure fit.entries
  parts = sheet-split policy d sheet fit.structure fit.entries fit.writes

  pub sheet-pairs : T (pairs_fit sheet)
  sheet-pairs = parts.pairs

  -- s is the sheet as the code has it
  module _ {s : List ℕ} (same : s ≡ sheet) where
    pub head-block : 0 < pair_count s
    head-block = let m = (pairs-count sheet sheet-pairs).least in rw same (omega arith)

    module _ {b : List ℕ} (is : b ≡ block_of s 0) where
      held : head_of b ≡ some parts.head
      held = ap head_of is ∙ ap (λ (l : List ℕ). head_of (block_of l 0)) same ∙ parts.held

      pub never-ill : {X : Type 0} → HeadRead b Code.None → X
      never-ill read = let f = read.form in let g = held in let z : ◌≡◌ {A = ℕ} 0 1 = cc in absurd (omega arith)

      module _ {p : HeadPlaces} (read : HeadRead b (Code.Some p)) where
        same_head : parts.head ≡ head_at b p
        same_head = let f = read.form in let g = held in cc

        pub name-most : length (string_at b p.name) ≤ 32
        unfolding head_at
        name-most = subst (λ (h : Head). length h.name ≤ 32) same_head (name-short parts.head.name (is_true _ parts.name))

        -- the structure's bytes in turn
        structure-is : structure_bytes fit.structure ≡ head_bytes (head_at b p) ++ (elements_bytes parts.elements ++ end_bytes)
        unfolding head_bytes S.head_bytes
        structure-is =
            ap structure_bytes parts.structure
            ∙ structure-bytes (structure_for parts.head parts.elements)
            ∙ ap (λ (h : Head). head_bytes h ++ (elements_bytes parts.elements ++ end_bytes)) same_head

        structure-long : length (structure_bytes fit.structure) ≡ length (head_bytes (head_at b p)) + (length (elements_bytes parts.elements) + 4)
        structure-long =
            let l = length-record (empty_record ENDSTR) in
            let e = ap length structure-is in
            let f = length-append (head_bytes (head_at b p)) (elements_bytes parts.elements ++ end_bytes) in
            let g = length-append (elements_bytes parts.elements) end_bytes in
            omega arith

        pub head-fits : length (head_bytes (head_at b p)) ≤ length out
        head-fits = let l = structure-long in let m = fit.out-room in omega arith

        module _ {c1 : List ℕ} {start : ℕ} (head : WroteAt (head_bytes (head_at b p)) out c1 0 start) where
          start-in : start ≤ length c1
          start-in = let l = structure-long in let m = fit.out-room in let n = head.count in let o = length_at head in omega arith

          -- the part that the elements are lent
          abbrev part : List ℕ
          part = take (length c1 - start) (drop start c1)

          pub elements-fit : ElementsFit policy d s lead (length part) (length report)
          elements-fit =
              let l = structure-long in
              let m = fit.out-room in
              let n = head.count in
              let o = length_at head in
              record {
                elements = parts.elements;
                entries = fit.entries;
                writes = ap (λ (l : List ℕ). write_blocks policy d 0 (element_blocks l)) same ∙ parts.writes;
                out-room = simp (length-take, length-drop) (omega arith);
                report-room = fit.report-room;
              }

          module _ {last report' : List ℕ} {ends : Ends} (puts : PutsElements policy d s lead part report last report' ends) where
            here : write_blocks policy d 0 (element_blocks s) ≡ written parts.elements fit.entries
            here = ap (λ (l : List ℕ). write_blocks policy d 0 (element_blocks l)) same ∙ parts.writes

            -- the whole output, with the part come back
            abbrev whole : List ℕ
            whole = take start c1 ++ (last ++ drop (length c1 - start) (drop start c1))

            body : WroteAt (elements_bytes parts.elements) c1 whole start (start + ends.out)
            body = part_at start-in (puts.output parts.elements fit.entries here)

            -- ENDSTR has room
            pub end-within : start + ends.out + 4 ≤ length out
            end-within =
                let l = structure-long in
                let m = fit.out-room in
                let n = head.count in
                let q = body.count in
                omega arith

            pub end_fits : start + ends.out + 4 ≤ length whole
            end_fits =
                let e = end-within in
                let o = length_at head in
                let s = length_at body in
                omega arith

            pub puts-structure : {c3 : List ℕ} {n to : ℕ} → Recorded (empty_record ENDSTR) n whole c3 (start + ends.out) to
                → PutsStructure policy d sheet lead out report c3 report' (record { out = to; report = ends.report })
            puts-structure {c3} {n} {to} w =
                let all : WroteAt (head_bytes (head_at b p) ++ (elements_bytes parts.elements ++ end_bytes)) out c3 0 to = then_at head (then_at body w.wrote) in
                record {
                  output = λ s es f. let e : fit.structure ≡ s = cc (fit.writes, f) in from_zero (same_bytes (sym structure-is ∙ ap structure_bytes e) all);
                  entries = λ s es f.
                      let e : fit.entries ≡ es = cc (fit.writes, f) in
                      subst (λ (l : List Entry). Wrote (report_with lead l) report report' ends.report) e (puts.entries parts.elements fit.entries here);
                }
