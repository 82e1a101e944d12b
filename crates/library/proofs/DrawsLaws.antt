-- A written file draws its sheet's library (specs/Draws). Assumes nothing.
use mathlib.Core.Path.{◌≡◌, refl, sym, ap, subst}
use mathlib.Core.Option.{Option, none, some}
use mathlib.Core.List.{List, [], ◌∷◌, ◌++◌}
use Prim.Native.Nat.{ℕ, suc, ◌-◌, ◌*◌, ◌≤◌}
use native.Mathlib.Omega.{arith}
use lib.Dec.{T, leb, leb→le}
use lib.ListN.{length, take, drop}
use lib.Seq.{take-append_seam}
use lib.Ieee.{Float, binary64, fits}
use lib.Ieee.Positive.{positive}
use Rattle.big_endian.specs.Big.{Bytes}
use Rattle.big_endian.specs.Buffer.{over}
use Rattle.big_endian.proofs.BytesLaws.{bytes-nil, bytes-append}
use Rattle.parsing.specs.All.{All, more}
use Rattle.conversion.specs.declared.GdsRoundingPolicy.{GdsRoundingPolicy}
use Rattle.conversion.specs.Made.{Made}
use Rattle.conversion.specs.Policy.{policy_of}
use Rattle.sheet.specs.Blocks.{pair_count, pairs_fit, block_of}
use Rattle.sheet.specs.Library.{LibraryHead, library_head_of, cell_sheets}
use Rattle.sheet.proofs.CountLaws.{block-bytes, blocks-bytes}
use Rattle.sheet.proofs.FineLaws.{library-head-fine}
use Rattle.stream.specs.Structure.{Structure}
use Rattle.stream.specs.Library.{FileHead, file_head_bytes, file_end_bytes}
use Rattle.cell.specs.Stamps.{stamps_fit}
use Rattle.cell.specs.Call.{checked_call}
use Rattle.cell.specs.Cell as C
use Rattle.cell.specs.Cell.{write_sheet, structure_bytes}
use Rattle.cell.specs.Draws.{Each, Draws}
use Rattle.cell.specs.Draws as W
use Rattle.cell.proofs.ResultLaws as CL
use Rattle.cell.proofs.CallLaws.{Calling, unnamed, no_unit, too_long, passes, calling}
use Rattle.cell.proofs.AnswerLaws.{same-parts}
use Rattle.cell.proofs.DrawsLaws.{Sound, sheet-sound}
use Rattle.library.specs.Library.{Result, stopped, written, WrittenCell, write_one, write_cells, LibraryFile, max_library_name_length, file_with, file_head_of, write_named, write_headed, write_library_sheet, after_caller, library_file, cells_bytes, file_bytes, library_entry_length, entries_in, fitting, write_library, out_after}
use Rattle.library.specs.Answer.{accepted, answer_of}
use Rattle.library.specs.Draws.{concat, DrawsLibrary, WrittenDraws}
use Rattle.library.proofs.ResultLaws.{Whenever, check-whenever}
use Rattle.library.proofs.FileLaws.{head_bytes, end-bytes}

-- ---- the cells

-- the structures as parts of the file
abbrev parts_of : List WrittenCell → List (List ℕ)
parts_of [] = []
parts_of (w ∷ ws) = structure_bytes w.structure ∷ parts_of ws

parts-bytes : (ws : List WrittenCell) → cells_bytes ws ≡ concat (parts_of ws)
unfolding cells_bytes
parts-bytes [] = refl
parts-bytes (w ∷ ws) = ap (λ (t : List ℕ). structure_bytes w.structure ++ t) (parts-bytes ws)

module _ (n : ℕ) (policy : GdsRoundingPolicy) (named : policy_of n ≡ some policy) (d : Float) (fd : T (fits binary64 d)) (pd : T (positive d)) where
  record Drawn (ss : List (List ℕ)) (ws : List WrittenCell) : Type 0 where
    each : Each (Draws n d) ss (parts_of ws)
    bytes : Bytes (cells_bytes ws)

  -- one cell in front of the others
  front-drawn : (c : ℕ) (s : List ℕ) (ss : List (List ℕ)) (x : C.Result Structure) (others : Result (List WrittenCell))
      → CL.Whenever (Sound policy d fd pd s) x → Whenever (Drawn ss) others → Whenever (Drawn (s ∷ ss)) (write_one c x others)
  unfolding write_one cells_bytes
  front-drawn c s ss (C.stopped r k) others h g = tt
  front-drawn c s ss (C.written t es) (stopped r i k) h g = tt
  front-drawn c s ss (C.written t es) (written ws) h g =
      let one = h.draws n named in
      record { each = W.more one g.each; bytes = bytes-append (structure_bytes t) (cells_bytes ws) one.bytewise g.bytes }

  cells-drawn : (c : ℕ) (ss : List (List ℕ)) → All Bytes ss → Whenever (Drawn ss) (write_cells policy d c ss)
  unfolding write_cells cells_bytes
  cells-drawn c [] h = record { each = W.done; bytes = bytes-nil }
  cells-drawn c (s ∷ ss) (more h hs) = front-drawn c s ss (write_sheet policy d s) (write_cells policy d (suc c) ss) (sheet-sound policy d fd pd s h) (cells-drawn (suc c) ss hs)

  -- ---- the file

  module _ (sheet : List ℕ) (all : Bytes sheet) where
    abbrev Drawing : LibraryFile → Type 0
    Drawing l = DrawsLibrary n d sheet (file_bytes l)

    file-drawn : (h : LibraryHead) (f : FileHead) → library_head_of (block_of sheet 0) ≡ some h → file_head_of d h ≡ some f → length h.name ≤ max_library_name_length
        → (x : Result (List WrittenCell)) → Whenever (Drawn (cell_sheets sheet)) x → Whenever Drawing (file_with f x)
    unfolding file_bytes
    file-drawn h f e u m (stopped r c k) g = tt
    file-drawn h f e u m (written ws) g =
        let fine = library-head-fine (block_of sheet 0) h (block-bytes sheet 0 all) e in
        record {
          head = h;
          held = e;
          front = f;
          encoded = u;
          parts = parts_of ws;
          whole = ap (λ (t : List ℕ). file_head_bytes f ++ (t ++ file_end_bytes)) (parts-bytes ws);
          bytewise = bytes-append (file_head_bytes f) (cells_bytes ws ++ file_end_bytes) (head_bytes d h f fine m u) (bytes-append (cells_bytes ws) file_end_bytes g.bytes end-bytes);
          each = g.each;
        }

    named-drawn : (h : LibraryHead) → library_head_of (block_of sheet 0) ≡ some h → (y : Option FileHead) → file_head_of d h ≡ y → Whenever Drawing (write_named policy d sheet h y)
    unfolding write_named
    named-drawn h e none u = tt
    named-drawn h e (some f) u =
        check-whenever Drawing (leb (length h.name) max_library_name_length) _ _
        (λ m. file-drawn h f e u (leb→le (length h.name) max_library_name_length m) (write_cells policy d 0 (cell_sheets sheet))
        (cells-drawn 0 (cell_sheets sheet) (blocks-bytes (pair_count sheet - 1) 1 sheet all)))

    headed-drawn : (x : Option LibraryHead) → library_head_of (block_of sheet 0) ≡ x → Whenever Drawing (write_headed policy d sheet x)
    unfolding write_headed
    headed-drawn none e = tt
    headed-drawn (some h) e = check-whenever Drawing (stamps_fit h.stamps) _ _ (λ t. named-drawn h e (file_head_of d h) refl)

    sheet-drawn : Whenever Drawing (write_library_sheet policy d sheet)
    unfolding write_library_sheet
    sheet-drawn = check-whenever Drawing (pairs_fit sheet) _ _ (λ p. headed-drawn (library_head_of (block_of sheet 0)) refl)

-- ---- measuring and writing

module _ (policy : ℕ) (d : Float) (sheet : List ℕ) (fd : T (fits binary64 d)) (all : Bytes sheet) where
  abbrev Draws-it : LibraryFile → Type 0
  Draws-it l = DrawsLibrary policy d sheet (file_bytes l)

  measured-drawn : Whenever Draws-it (library_file policy d sheet)
  unfolding library_file after_caller
  measured-drawn = go (checked_call policy d sheet) (calling policy d sheet)
    where
      go : (m : Made GdsRoundingPolicy) → Calling policy d sheet m → Whenever Draws-it (after_caller m d sheet)
      go m (unnamed e) = tt
      go m (no_unit rounding e never) = tt
      go m (too_long rounding e pd l) = tt
      go m (passes at) = sheet-drawn policy at.rounding at.named d fd at.unit sheet all

  pub written-drawn : (out report : ℕ) → Whenever Draws-it (write_library policy d sheet out report)
  unfolding write_library fitting
  written-drawn out report = go (library_file policy d sheet) measured-drawn
    where
      go : (x : Result LibraryFile) → Whenever Draws-it x → Whenever Draws-it (fitting out report x)
      go (stopped r c k) h = tt
      go (written l) h =
          check-whenever Draws-it (leb (length (file_bytes l)) out) _ _
          (λ a. check-whenever Draws-it (leb (library_entry_length * entries_in l.cells) report) _ _ (λ b. h))

-- Where the answer is a file of n bytes, the output's first n bytes are the file's.
pub written-draws : WrittenDraws
unfolding over
written-draws policy d sheet out report n entries greatest fd all q =
    go (write_library policy d sheet (length out) (length report)) (written-drawn policy d sheet fd all (length out) (length report)) q
  where
    go : (x : Result LibraryFile) → Whenever (λ l. DrawsLibrary policy d sheet (file_bytes l)) x → answer_of x ≡ accepted n entries greatest → DrawsLibrary policy d sheet (take n (out_after x out))
    go (stopped r c k) h q = let z : ◌≡◌ {A = ℕ} 0 1 = cc in absurd (omega arith)
    go (written l) h q =
        let e = (same-parts _ _ q).0 in
        subst (λ (k : ℕ). DrawsLibrary policy d sheet (take k (out_after (written l) out))) e
        (subst (DrawsLibrary policy d sheet) (sym (take-append_seam (file_bytes l) (drop (length (file_bytes l)) out))) h)
