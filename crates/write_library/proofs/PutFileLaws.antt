-- The file written: its own records, each cell's structure, and ENDLIB. Assumes nothing.
use mathlib.Core.Path.{◌≡◌, sym, ap, ◌∙◌, subst}
use mathlib.Core.List.{List, ◌++◌, append-nil}
use Prim.Native.Nat.{ℕ, ◌+◌, ◌-◌, ◌≤◌, ◌<◌}
use native.Mathlib.Omega.{arith}
use lib.Dec.{T}
use lib.ListN.{length, take, drop, length-take, length-drop}
use lib.Ieee.{Float}
use lib.Ieee.Bits.{is_true}
use Rattle.big_endian.specs.Buffer.{Wrote, WroteAt}
use Rattle.big_endian.proofs.BufferLaws.{from_zero, part_at, same_bytes, then_at, length_at}
use Rattle.std.proofs.Common.{Result as Answered, Ok, Err}
use Rattle.refusal.specs.declared.Refusal.{Refusal}
use Rattle.conversion.specs.declared.GdsRoundingPolicy.{GdsRoundingPolicy}
use Rattle.sheet.specs.Blocks.{pair_count, pairs_fit, block_of}
use Rattle.sheet.specs.Library.{library_head_of, cell_sheets}
use Rattle.sheet.proofs.CountLaws.{pairs-count}
use Rattle.stream.specs.Record.{record_bytes, stream_bytes}
use Rattle.stream.specs.Records.{empty_record}
use Rattle.stream.specs.Library.{ENDLIB, FileHead, file_head_bytes, file_end_bytes}
use Rattle.records.specs.code.Bytes.{Recorded}
use Rattle.walk.specs.declared.Ends.{Ends}
use Rattle.library.specs.Library.{Result, stopped, written, WrittenCell, write_cells, LibraryFile, file_with, write_library_sheet, cells_bytes, file_bytes, report_from}
use Rattle.library.proofs.ResultLaws.{check-passed}
use Rattle.library_head.specs.declared.HeadParts.{HeadParts}
use Rattle.library_head.specs.declared.HeadChecked.{HeadChecked}
use Rattle.library_head.specs.code.Head.{file_head_at, HeadIn, step_of, HeadRead}
use Rattle.write_library.specs.code.File.{CellsFit, PutsCells, FileFits, PutsFile}
use Rattle.write_library.proofs.FileLaws.{file-length, after_head, as-checked}

-- what is written was put together of the head and the cells
record Whole (f : FileHead) (x : Result (List WrittenCell)) (l : LibraryFile) : Type 0 where
  head : l.head ≡ f
  cells : x ≡ written l.cells

whole : (f : FileHead) (x : Result (List WrittenCell)) (l : LibraryFile) → file_with f x ≡ written l → Whole f x l
whole f (stopped r c k) l e = let z : ◌≡◌ {A = ℕ} 0 1 = cc in absurd (omega arith)
whole f (written ws) l e = let g : record { head = f; cells = ws } ≡ l = cc in record { head = sym (ap (λ (m : LibraryFile). m.head) g); cells = ap (λ (m : LibraryFile). written m.cells) g }

-- the same of a sheet t with the same bytes
pub same-fits : {policy : GdsRoundingPolicy} {d : Float} {sheet t : List ℕ} {out report : ℕ} → t ≡ sheet → FileFits policy d sheet out report → FileFits policy d t out report
same-fits e f = rw e f

module _ {policy : GdsRoundingPolicy} {d : Float} {sheet : List ℕ} (out report : List ℕ) (fit : FileFits policy d sheet (length out) (length report)) where
  pub file-pairs : T (pairs_fit sheet)
  unfolding write_library_sheet
  file-pairs = (check-passed (pairs_fit sheet) _ _ fit.writes).0

  pub head-block : 0 < pair_count sheet
  head-block = let m = (pairs-count sheet file-pairs).least in omega arith

  -- b is block 0, and r the answer on it
  module _ {b : List ℕ} (is : b ≡ block_of sheet 0) where
    by : {r : Answered HeadChecked Refusal} → HeadRead d b (library_head_of b) r → write_library_sheet policy d sheet ≡ after_head policy d sheet (step_of b r)
    by = as-checked policy d sheet (is_true (pairs_fit sheet) file-pairs) is

    pub never-refused : {X : Type 0} {x : Refusal} → HeadRead d b (library_head_of b) (Err x) → X
    never-refused read =
        let f = by read in
        let g = fit.writes in
        let z : ◌≡◌ {A = ℕ} 0 1 = cc in
        absurd (omega arith)

    module _ {q : HeadChecked} (read : HeadRead d b (library_head_of b) (Ok q)) where
      abbrev p : HeadParts
      p = q.parts

      pub parts_in : HeadIn b p
      parts_in = read.places.places

      abbrev front : List ℕ
      front = file_head_bytes (file_head_at b p)

      parts : Whole (file_head_at b p) (write_cells policy d 0 (cell_sheets sheet)) fit.file
      parts = whole (file_head_at b p) (write_cells policy d 0 (cell_sheets sheet)) fit.file (sym (by read) ∙ fit.writes)

      abbrev cells : List WrittenCell
      cells = fit.file.cells

      -- the file's bytes in turn
      file-is : file_bytes fit.file ≡ front ++ (cells_bytes cells ++ record_bytes (empty_record ENDLIB))
      unfolding file_bytes stream_bytes
      file-is =
          ap (λ (h : FileHead). file_head_bytes h ++ (cells_bytes cells ++ file_end_bytes)) parts.head
          ∙ ap (λ (t : List ℕ). front ++ (cells_bytes cells ++ t)) (append-nil (record_bytes (empty_record ENDLIB)))

      file-long : length (file_bytes fit.file) ≡ length front + 4 + length (cells_bytes cells)
      file-long = file-length fit.file.head cells ∙ ap (λ (h : FileHead). length (file_head_bytes h) + 4 + length (cells_bytes cells)) parts.head

      pub head-fits : length front ≤ length out
      head-fits = let l = file-long in let m = fit.out-room in omega arith

      module _ {c1 : List ℕ} {start : ℕ} (head : WroteAt front out c1 0 start) where
        pub start-in : start ≤ length c1
        start-in = let l = file-long in let m = fit.out-room in let k = head.count in let o = length_at head in omega arith

        -- the part that the cells are lent
        abbrev part : List ℕ
        part = take (length c1 - start) (drop start c1)

        pub cells_fit : CellsFit policy d sheet (length part) (length report)
        cells_fit =
            let l = file-long in
            let m = fit.out-room in
            let k = head.count in
            let o = length_at head in
            record {
              cells = cells;
              writes = parts.cells;
              out-room = simp (length-take, length-drop) (omega arith);
              report-room = fit.report-room;
            }

        module _ {last report' : List ℕ} {ends : Ends} (puts : PutsCells policy d sheet part report last report' ends) where
          -- the whole output, with the part come back
          abbrev back : List ℕ
          back = take start c1 ++ (last ++ drop (length c1 - start) (drop start c1))

          body : WroteAt (cells_bytes cells) c1 back start (start + ends.out)
          body = part_at start-in (puts.output cells parts.cells)

          -- ENDLIB has room
          pub end-within : start + ends.out + 4 ≤ length out
          end-within =
              let l = file-long in
              let m = fit.out-room in
              let k = head.count in
              let q = body.count in
              omega arith

          pub end_fits : start + ends.out + 4 ≤ length back
          end_fits =
              let w = end-within in
              let o = length_at head in
              let s = length_at body in
              omega arith

          pub puts-file : {c3 : List ℕ} {k to : ℕ} → Recorded (empty_record ENDLIB) k back c3 (start + ends.out) to
              → PutsFile policy d sheet out report c3 report' (record { out = to; report = ends.report })
          puts-file {c3} {k} {to} w =
              let all : WroteAt (front ++ (cells_bytes cells ++ record_bytes (empty_record ENDLIB))) out c3 0 to = then_at head (then_at body w.wrote) in
              record {
                output = λ l f. let g : fit.file ≡ l = cc (fit.writes, f) in from_zero (same_bytes (sym file-is ∙ ap file_bytes g) all);
                entries = λ l f.
                    let g : fit.file ≡ l = cc (fit.writes, f) in
                    subst (λ (m : LibraryFile). Wrote (report_from 0 m.cells) report report' ends.report) g (puts.entries cells parts.cells);
              }
