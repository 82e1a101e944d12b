-- Writing the cells in turn, as the code sees it: a cell's number in bytes, and one cell more. Assumes nothing.
use mathlib.Core.Path.{◌≡◌, sym, ap, ◌∙◌, subst}
use mathlib.Core.List.{List, [], ◌∷◌, ◌++◌}
use Prim.Native.Nat.{ℕ, suc, ◌+◌, ◌-◌, ◌≤◌, ◌<◌}
use native.Mathlib.Omega.{arith}
use lib.ListN.{length, take, drop, length-append, length-take, length-drop}
use lib.Ieee.{Float}
use Rattle.big_endian.specs.Big.{bytes_of}
use Rattle.big_endian.specs.Buffer.{Wrote}
use Rattle.big_endian.proofs.BufferLaws.{from_zero, part_at, same_bytes}
use Rattle.big_endian.proofs.RowLaws.{Row, row-start, row-turn, row-end}
use Rattle.conversion.specs.declared.GdsRoundingPolicy.{GdsRoundingPolicy}
use Rattle.conversion.specs.Entry.{report_with}
use Rattle.sheet.specs.Blocks.{max_pairs, pair_count, block_of, blocks_from}
use Rattle.cell.specs.Cell.{structure_bytes}
use Rattle.walk.specs.declared.Ends.{Ends}
use Rattle.walk.specs.code.Walk.{StructureFits, PutsStructure}
use Rattle.library.specs.Library.{written, WrittenCell, write_cells, cells_bytes, report_from}
use Rattle.library.proofs.CellsLaws.{Split, split}
use Rattle.write_library.specs.code.File.{CellsFit, PutsCells}
use Rattle.write_library.proofs.CellsLaws.{cells-turn, cells-end}

-- ---- all cells in turn: the state before cell c of m

pub record Turns (policy : GdsRoundingPolicy) (d : Float) (sheet before report : List ℕ) (m : ℕ) (out after : List ℕ) (c to at : ℕ) : Type 0 where
  pub most : m < max_pairs
  pub fit : CellsFit policy d sheet (length before) (length report)
  pub rest : List WrittenCell
  pub writes : write_cells policy d c (blocks_from (m - c) (c + 1) sheet) ≡ written rest
  pub output : Row 0 (cells_bytes fit.cells) before to (cells_bytes rest) out
  pub entries : Row 0 (report_from 0 fit.cells) report at (report_from c rest) after

module _ {policy : GdsRoundingPolicy} {d : Float} {sheet before report : List ℕ} {m : ℕ} where
  pub turns-start : m < max_pairs → m ≡ pair_count sheet - 1 → CellsFit policy d sheet (length before) (length report) → Turns policy d sheet before report m before report 0 0 0
  turns-start l e f =
      let z : m - 0 ≡ pair_count sheet - 1 = omega arith in
      record {
        most = l;
        fit = f;
        rest = f.cells;
        writes = ap (λ (j : ℕ). write_cells policy d 0 (blocks_from j 1 sheet)) z ∙ f.writes;
        output = row-start;
        entries = row-start;
      }

module _ {policy : GdsRoundingPolicy} {d : Float} {sheet before report : List ℕ} {m : ℕ} {out after : List ℕ} {c to at : ℕ}
    (t : Turns policy d sheet before report m out after c to at) where
  pub turns-end : m ≤ c → PutsCells policy d sheet before report out after (record { out = to; report = at })
  unfolding write_cells cells_bytes report_from
  turns-end l =
      let f = t.fit in
      let w = ap (write_cells policy d c) (sym (cells-end m c sheet l)) ∙ t.writes in
      let none : t.rest ≡ [] = cc w in
      let o = row-end (from_start f.out-room) (subst (λ (ws : List WrittenCell). Row 0 (cells_bytes f.cells) before to (cells_bytes ws) out) none t.output) in
      let e = row-end (from_start f.report-room) (subst (λ (ws : List WrittenCell). Row 0 (report_from 0 f.cells) report at (report_from c ws) after) none t.entries) in
      record {
        output = λ ws g. let a : f.cells ≡ ws = cc (f.writes, g) in from_zero (same_bytes (ap cells_bytes a) o);
        entries = λ ws g. let a : f.cells ≡ ws = cc (f.writes, g) in from_zero (same_bytes (ap (report_from 0) a) e);
      }
    where
      from_start : {m l : ℕ} → m ≤ l → 0 + m ≤ l
      from_start h = omega arith

  pub out-same : length out ≡ length before
  out-same = t.output.long

  pub report-same : length after ≡ length report
  report-same = t.entries.long

  -- b is the sheet of cell c
  module _ (h : c < m) {b : List ℕ} (is : b ≡ block_of sheet (c + 1)) where
    abbrev others : List (List ℕ)
    others = blocks_from (m - (c + 1)) (c + 1 + 1) sheet

    abbrev here : Split policy d c b others t.rest
    here =
        split policy d c b others t.rest
        (ap (write_cells policy d c) (sym (cells-turn m c sheet h ∙ ap (λ (l : List ℕ). l ∷ others) (sym is))) ∙ t.writes)

    -- the cell's bytes and entries
    abbrev bytes : List ℕ
    bytes = structure_bytes here.first.structure

    abbrev lead : List ℕ
    lead = bytes_of 4 c

    abbrev told : List ℕ
    told = report_with lead here.first.entries

    bytes-first : cells_bytes t.rest ≡ bytes ++ cells_bytes here.rest
    unfolding cells_bytes
    bytes-first = ap cells_bytes here.cells

    told-first : report_from c t.rest ≡ told ++ report_from (suc c) here.rest
    unfolding report_from
    told-first = ap (report_from c) here.cells

    out-room : to + length bytes ≤ length out
    out-room =
        let a = t.output.end in
        let n = t.output.long in
        let e = ap length bytes-first ∙ length-append bytes (cells_bytes here.rest) in
        let f = t.fit.out-room in
        omega arith

    report-room : at + length told ≤ length after
    report-room =
        let a = t.entries.end in
        let n = t.entries.long in
        let e = ap length told-first ∙ length-append told (report_from (suc c) here.rest) in
        let f = t.fit.report-room in
        omega arith

    -- the parts that the cell is lent
    abbrev part : List ℕ
    part = take (length out - to) (drop to out)

    abbrev share : List ℕ
    share = take (length after - at) (drop at after)

    pub turn-place : to ≤ length out
    turn-place = let a = out-room in omega arith

    pub turn-report : at ≤ length after
    turn-report = let a = report-room in omega arith

    pub turn-fits : StructureFits policy d b lead (length part) (length share)
    turn-fits =
        let a = out-room in
        let e = report-room in
        record {
          structure = here.first.structure;
          entries = here.first.entries;
          writes = here.writes;
          out-room = simp (length-take, length-drop) (omega arith);
          report-room = simp (length-take, length-drop) (omega arith);
        }

    -- what `put_cell` promises of the parts
    module _ {part' share' : List ℕ} {r : Ends} (p : PutsStructure policy d b lead part share part' share' r) where
      done : Wrote bytes part part' r.out
      done = p.output here.first.structure here.first.entries here.writes

      noted : Wrote told share share' r.report
      noted = p.entries here.first.structure here.first.entries here.writes

      pub turn_end : to + r.out ≤ length out
      turn_end = let a = out-room in let e = done.count in omega arith

      pub turn-noted : at + r.report ≤ length after
      turn-noted = let a = report-room in let e = noted.count in omega arith

      -- both buffers, with the parts come back
      abbrev whole : List ℕ
      whole = take to out ++ (part' ++ drop (length out - to) (drop to out))

      abbrev whole-report : List ℕ
      whole-report = take at after ++ (share' ++ drop (length after - at) (drop at after))

      pub turn-next : Turns policy d sheet before report m whole whole-report (c + 1) (to + r.out) (at + r.report)
      turn-next =
          let z : suc c ≡ c + 1 = omega arith in
          record {
            most = t.most;
            fit = t.fit;
            rest = here.rest;
            writes = ap (λ (j : ℕ). write_cells policy d j others) (sym z) ∙ here.after;
            output = row-turn (subst (λ (l : List ℕ). Row 0 (cells_bytes t.fit.cells) before to l out) bytes-first t.output) (part_at turn-place done);
            entries =
                subst (λ (j : ℕ). Row 0 (report_from 0 t.fit.cells) report (at + r.report) (report_from j here.rest) whole-report) z
                (row-turn (subst (λ (l : List ℕ). Row 0 (report_from 0 t.fit.cells) report at l after) told-first t.entries) (part_at turn-report noted));
          }
