-- THE ROUND TRIP: a structure that was read goes to a sheet whose structure draws the same and reads to the same sheet. Assumes nothing.
use mathlib.Core.Path.{◌≡◌, refl, ap, ap₂, ◌∙◌, subst}
use mathlib.Core.Bool.{Bool, true, false}
use mathlib.Core.Option.{Option, some}
use mathlib.Core.List.{List, [], ◌∷◌}
use Prim.Native.Nat.{ℕ, suc, ◌+◌, ◌≤◌, ◌<◌}
use native.Mathlib.Omega.{arith}
use borrow.Author.Tests.{le-leb}
use lib.Dec.{T, leb, leb→le}
use lib.ListN.{length}
use lib.Ieee.Bits.{is_true as on}
use Rattle.binary64.specs.Value.{one64}
use Rattle.refusal.specs.declared.Refusal.TheVariants as R
use Rattle.parsing.specs.Parse.{Outcome, refused, given}
use Rattle.parsing.specs.All.{All, done, more}
use Rattle.conversion.specs.declared.GdsRoundingPolicy.{GdsRoundingPolicy}
use Rattle.conversion.specs.declared.GdsRoundingPolicy.TheVariants.{Nearest}
use Rattle.conversion.specs.Entry.{entry_of}
use Rattle.conversion.specs.Made.{Made}
use Rattle.conversion.specs.Policy.{policy_of}
use Rattle.sheet.specs.Element as S
use Rattle.sheet.specs.Element.{kind_of, head_of, element_of}
use Rattle.sheet.specs.Blocks.{max_pairs, block_of}
use Rattle.sheet.specs.Cell.{Cell, element_blocks}
use Rattle.sheet.specs.Encode.{element_block, blocks_of, cell_sheet}
use Rattle.sheet.proofs.Fine.{FineElement}
use Rattle.sheet.proofs.EncodeLaws.{FineCell, element-held, pairs-held, first-held, others-held, cell-held}
use Rattle.sheet.proofs.EncodeLaws as E
use Rattle.stream.specs.Strings.{unpadded, trimmed}
use Rattle.stream.specs.Structure.{Said, Structure}
use Rattle.stream.specs.Drawn.{elements_drawn, drawn_of}
use Rattle.stream.specs.Read.{Stop, read_structure}
use Rattle.stream.proofs.Fit.{FitElement, FitStructure}
use Rattle.stream.proofs.StringLaws.{padded-unpadded}
use Rattle.stream.proofs.Admitted.{AdmittedElements, no_element, one_element, AdmittedStructure}
use Rattle.stream.proofs.ReadLaws.{stamps-back}
use Rattle.stream.proofs.BackLaws.{read_structure-back}
use Rattle.stream.proofs.LenientLaws.{lenient}
use Rattle.cell.specs.Limits.{max_sheet_length}
use Rattle.cell.specs.Names.{is_name}
use Rattle.cell.specs.Stamps.{stamps_fit}
use Rattle.cell.specs.Cell.{Result, written, check, in_front, write_one, write_block, write_blocks, structure_with, write_headed, write_sheet, after_caller, cell_structure, structure_bytes}
use Rattle.cell.proofs.CallLaws.{call-passed}
use Rattle.cell.proofs.ElementLaws.{element-written}
use Rattle.reading.specs.Limits.{record_limit, sheet_limits}
use Rattle.reading.specs.Cell.{body_read, element_read, elements_read, cell_read}
use Rattle.reading.specs.Read.{sheet_from, long_enough, measure_structure, nearest, Canonical, RoundTrip}
use Rattle.reading.specs.Read as Read
use Rattle.reading.proofs.Kept.{KeptElement, KeptStructure}
use Rattle.reading.proofs.KeptLaws.{read_kept}
use Rattle.reading.proofs.RealLaws.{one-fits}
use Rattle.reading.proofs.Canon.{CanonElement}
use Rattle.reading.proofs.BodyLaws.{need-none, string-fine}
use Rattle.reading.proofs.ElementLaws.{element-canon}

-- ---- all elements

record CanonElements (es : List Said) : Type 0 where
  puts : List Said
  writes : (i : ℕ) → write_blocks Nearest one64 i (blocks_of (elements_read es)) ≡ written puts []
  drawn : elements_drawn puts ≡ elements_drawn es
  again : elements_read puts ≡ elements_read es
  admitted : (i : ℕ) → i + length es < max_pairs → AdmittedElements sheet_limits i puts
  fine : All FineElement (elements_read es)
  fit : All FitElement puts

one_block : (i : ℕ) (e : Said) (c : CanonElement e) (others : Result (List Said)) (ws : List Said) → others ≡ written ws []
    → write_block Nearest one64 i (element_of (element_block (element_read e))) others ≡ written (c.put ∷ ws) []
unfolding write_block write_one entry_of
one_block i e c others ws q =
    ap (λ (o : Option S.Element). write_block Nearest one64 i o others) (element-held (element_read e) c.fine)
    ∙ ap (λ (m : Made Said). write_one i (kind_of (body_read e.body)) m others) c.writes
    ∙ ap (in_front c.put []) q

-- what is written fits its records: a law of writing
element-fit : (e : Said) (c : CanonElement e) → FitElement c.put
element-fit e c = (element-written Nearest one64 one-fits tt (element_read e) c.put c.fine (record { log = []; is = c.writes })).fit

elements-canon : (es : List Said) → All KeptElement es → CanonElements es
unfolding write_blocks
elements-canon [] done = record { puts = []; writes = λ i. refl; drawn = refl; again = refl; admitted = λ i l. no_element; fine = done; fit = done }
elements-canon (e ∷ es) (more h hs) =
    let c = element-canon e h in
    let r = elements-canon es hs in
    record {
      puts = c.put ∷ r.puts;
      writes = λ i. one_block i e c (write_blocks Nearest one64 (suc i) (blocks_of (elements_read es))) r.puts (r.writes (suc i));
      drawn = ap₂ (λ (x : _) (y : _). x ∷ y) c.drawn r.drawn;
      again = ap₂ (λ (x : S.Element) (y : List S.Element). x ∷ y) c.again r.again;
      admitted = λ i l. one_element (c.admitted i (omega arith)) (r.admitted (suc i) (omega arith));
      fine = more c.fine r.fine;
      fit = more (element-fit e c) r.fit;
    }

read_length : (es : List Said) → length (elements_read es) ≡ length es
read_length [] = refl
read_length (e ∷ es) = ap suc (read_length es)

-- ---- the structure

module _ (s : Structure) (h : KeptStructure s) (short : length (cell_sheet (cell_read s)) ≤ max_sheet_length) where
  c : CanonElements s.elements
  c = elements-canon s.elements h.elements

  abbrev sheet : List ℕ
  sheet = cell_sheet (cell_read s)

  canonical : Structure
  canonical = record { stamps = s.stamps; name = s.name; elements = c.puts }

  fine : FineCell (cell_read s)
  fine = record {
    head = record { name = string-fine s.name h.name.even; stamps = h.stamps.words; twelve = h.stamps.twelve };
    elements = c.fine;
    most = omega (arith, read_length s.elements, h.count);
    short = omega arith;
  }

  elements-written : write_blocks Nearest one64 0 (element_blocks sheet) ≡ written c.puts []
  elements-written = ap (write_blocks Nearest one64 0) (others-held (cell_read s) fine) ∙ c.writes 0

  head-held : head_of (block_of sheet 0) ≡ some (cell_read s).head
  head-held = ap head_of (first-held (cell_read s) fine) ∙ E.head-held (cell_read s).head fine.head

  headed : write_headed Nearest one64 sheet (some (cell_read s).head) ≡ written canonical []
  unfolding write_headed canonical
  headed =
      ap (λ (t : Bool). check t R.Stamp (check (is_name (unpadded s.name)) R.Name (structure_with (cell_read s).head (write_blocks Nearest one64 0 (element_blocks sheet))))) (on (stamps_fit s.stamps) h.stamps.dated)
      ∙ ap (λ (t : Bool). check t R.Name (structure_with (cell_read s).head (write_blocks Nearest one64 0 (element_blocks sheet)))) (on (is_name (unpadded s.name)) h.name.name)
      ∙ ap (structure_with (cell_read s).head) elements-written
      ∙ ap (λ (n : List ℕ). written (record { stamps = s.stamps; name = n; elements = c.puts }) []) (padded-unpadded s.name h.name.even.even)

  measured : cell_structure nearest one64 sheet ≡ written canonical []
  unfolding cell_structure after_caller policy_of write_sheet
  measured =
      ap (λ (m : Made GdsRoundingPolicy). after_caller m one64 sheet) (call-passed nearest one64 sheet (record { rounding = Nearest; named = refl; unit = tt; size = short }))
      ∙ ap (λ (t : Bool). check t R.Pairs (write_headed Nearest one64 sheet (head_of (block_of sheet 0)))) (pairs-held (cell_read s) fine)
      ∙ ap (write_headed Nearest one64 sheet) head-held ∙ headed

  same-drawn : drawn_of canonical ≡ drawn_of s
  unfolding canonical
  same-drawn = ap (λ (es : _). record { name = trimmed s.name; elements = es }) c.drawn

  fit : FitStructure canonical
  unfolding canonical
  fit = record { stamps = h.stamps.words; twelve = h.stamps.twelve; name = h.name.even; elements = c.fit }

  admitted : AdmittedStructure sheet_limits canonical
  unfolding canonical record_limit
  admitted = record {
    stamps = need-none _ R.Stamp (ap stamps_fit (stamps-back sheet_limits canonical fit) ∙ on (stamps_fit s.stamps) h.stamps.dated);
    name = need-none _ R.Name (on (is_name (unpadded s.name)) h.name.name);
    elements = c.admitted 0 (omega (arith, h.count));
  }

  same-cell : cell_read canonical ≡ cell_read s
  unfolding canonical
  same-cell = ap (λ (es : List S.Element). record { head = record { name = unpadded s.name; stamps = s.stamps }; elements = es }) c.again

  read_again : measure_structure (structure_bytes canonical) ≡ Read.made sheet
  unfolding measure_structure
  read_again =
      ap (λ (o : Outcome Stop Structure). long_enough max_sheet_length R.SheetSize (sheet_from o)) (read_structure-back sheet_limits canonical admitted fit)
      ∙ ap (λ (x : Cell). long_enough max_sheet_length R.SheetSize (Read.made (cell_sheet x))) same-cell
      ∙ ap (λ (t : Bool). Read.check t R.SheetSize (Read.made sheet)) (le-leb (length sheet) max_sheet_length short)

  trip : (bytes : List ℕ) → read_structure sheet_limits bytes ≡ given s → Canonical bytes sheet
  trip bytes e = record {
    read = s;
    reads = lenient sheet_limits bytes s e;
    cell = cell-held (cell_read s) fine;
    canonical = canonical;
    writes = measured;
    draws = same-drawn;
    again = read_again;
  }

pub round_trip : RoundTrip
unfolding measure_structure
round_trip bytes sheet h e = go (read_structure sheet_limits bytes) refl e
  where
    go : (o : Outcome Stop Structure) → read_structure sheet_limits bytes ≡ o → long_enough max_sheet_length R.SheetSize (sheet_from o) ≡ Read.made sheet → Canonical bytes sheet
    go (refused x) q e = let z : ◌≡◌ {A = ℕ} 0 1 = cc in absurd (omega arith)
    go (given s) q e = within (leb (length (cell_sheet (cell_read s))) max_sheet_length) (leb→le (length (cell_sheet (cell_read s))) max_sheet_length) e
      where
        within : (t : Bool) → (T t → length (cell_sheet (cell_read s)) ≤ max_sheet_length) → Read.check t R.SheetSize (Read.made (cell_sheet (cell_read s))) ≡ Read.made sheet → Canonical bytes sheet
        within true l e =
            let x : cell_sheet (cell_read s) ≡ sheet = cc in
            subst (λ (z : List ℕ). Canonical bytes z) x (trip s (read_kept bytes s h q) (l tt) bytes q)
        within false l e = let z : ◌≡◌ {A = ℕ} 0 1 = cc in absurd (omega arith)
