-- Writing a cell (document 01, "Who can cause which refusal" and "Result three"; `write_cell_with_options` of write/mod.rs). Assumes nothing.
-- The cell from its 4 on is `write_sheet`; `cell_structure` puts 1 to 3 before it, and writing 21 and 22 after that.
use Rattle.std.specs.Prelude.{Bool, true, false, List, [], ◌∷◌, ◌++◌, ℕ, suc, ◌*◌, leb, length, Float}
use Rattle.std.proofs.Math.Option.{Option, none, some}
use Rattle.big_endian.specs.Buffer.{over}
use Rattle.refusal.specs.declared.Refusal.{Refusal}
use Rattle.refusal.specs.declared.Refusal.TheVariants as R
use Rattle.conversion.specs.declared.GdsRoundingPolicy.{GdsRoundingPolicy}
use Rattle.conversion.specs.declared.Entry.{Entry}
use Rattle.conversion.specs.Entry.{entry_of, report_bytes, entry_length}
use Rattle.conversion.specs.Made.{Made, refused, made}
use Rattle.sheet.specs.Element.{Head, Element, kind_of, head_of, element_of}
use Rattle.sheet.specs.Blocks.{pairs_fit, block_of}
use Rattle.sheet.specs.Cell.{element_blocks}
use Rattle.stream.specs.Strings.{padded}
use Rattle.stream.specs.Structure.{Said, Structure}
use Rattle.stream.specs.Record.{stream_bytes}
use Rattle.stream.specs.Records.{structure_records}
use Rattle.cell.specs.Call.{checked_call}
use Rattle.cell.specs.Stamps.{stamps_fit}
use Rattle.cell.specs.Names.{is_name}
use Rattle.cell.specs.Write.{write_element}

-- "Each returns its number and a block (0 if none)": the first refusal and its block, or what is written and its report entries.
pub data Result (A : Type 0) : Type 0 where
  stopped : Refusal → ℕ → Result A
  written : A → List Entry → Result A

-- a check of the caller, of the pairs or of the head: block 0
abbrev pub check : {A : Type 0} → Bool → Refusal → Result A → Result A
check true r x = x
check false r x = stopped r 0

-- ---- the elements

-- one element and its entries in front of the others
abbrev pub in_front : Said → List Entry → Result (List Said) → Result (List Said)
in_front w es (stopped r k) = stopped r k
in_front w es (written ws fs) = written (w ∷ ws) (es ++ fs)

-- The element of index i ("block k is element index k − 1") and its kind, and what the others after it gave.
unfoldable pub write_one : ℕ → ℕ → Made Said → Result (List Said) → Result (List Said)
write_one i kind (refused r) others = stopped r (suc i)
write_one i kind (made w vs) others = in_front w (entry_of i kind vs) others

module _ (policy : GdsRoundingPolicy) (d : Float) where
  -- "form first", then the element's own order; "The report shows the kind without these additions" (document 02, request 5)
  unfoldable pub write_block : ℕ → Option Element → Result (List Said) → Result (List Said)
  write_block i none others = stopped R.Form (suc i)
  write_block i (some e) others = write_one i (kind_of e.body) (write_element policy d e) others

  -- "blocks in turn", from element index i on
  unfoldable pub write_blocks : ℕ → List (List ℕ) → Result (List Said)
  write_blocks i [] = written [] []
  write_blocks i (b ∷ bs) =
      let others = write_blocks (suc i) bs in
      write_block i (element_of b) others

-- ---- the cell from its 4 on

-- the structure of a head and its elements
abbrev pub structure_for : Head → List Said → Structure
structure_for h ws = record { stamps = h.stamps; name = padded h.name; elements = ws }

abbrev pub structure_with : Head → Result (List Said) → Result Structure
structure_with h (stopped r k) = stopped r k
structure_with h (written ws es) = written (structure_for h ws) es

-- "form first, then in the head 6 before 7", and the elements
unfoldable pub write_headed : GdsRoundingPolicy → Float → List ℕ → Option Head → Result Structure
write_headed policy d sheet none = stopped R.Form 0
write_headed policy d sheet (some h) =
    check (stamps_fit h.stamps) R.Stamp
    (check (is_name h.name) R.Name
    (structure_with h (write_blocks policy d 0 (element_blocks sheet))))

unfoldable pub write_sheet : GdsRoundingPolicy → Float → List ℕ → Result Structure
write_sheet policy d sheet = check (pairs_fit sheet) R.Pairs (write_headed policy d sheet (head_of (block_of sheet 0)))

-- ---- all that is measured

-- what follows 1 to 3, or what they refuse
unfoldable pub after_caller : Made GdsRoundingPolicy → Float → List ℕ → Result Structure
after_caller (refused r) d sheet = stopped r 0
after_caller (made policy vs) d sheet = write_sheet policy d sheet

unfoldable pub cell_structure : ℕ → Float → List ℕ → Result Structure
cell_structure policy d sheet = after_caller (checked_call policy d sheet) d sheet

-- ---- writing: "Caller, last: 21 output too short; 22 report too short."

abbrev pub structure_bytes : Structure → List ℕ
structure_bytes s = stream_bytes (structure_records s)

-- into an output and a report of these lengths
unfoldable pub fitting : ℕ → ℕ → Result Structure → Result Structure
fitting out report (stopped r k) = stopped r k
fitting out report (written s es) =
    check (leb (length (structure_bytes s)) out) R.OutputShort
    (check (leb (entry_length * length es) report) R.ReportShort
    (written s es))

unfoldable pub write_cell : ℕ → Float → List ℕ → ℕ → ℕ → Result Structure
write_cell policy d sheet out report = fitting out report (cell_structure policy d sheet)

-- ---- the two buffers afterwards

-- "Bytes after the structure and the entries stay."; where refused, "both buffers stay"
abbrev pub out_after : Result Structure → List ℕ → List ℕ
out_after (stopped r k) before = before
out_after (written s es) before = over (structure_bytes s) before

abbrev pub report_after : Result Structure → List ℕ → List ℕ
report_after (stopped r k) before = before
report_after (written s es) before = over (report_bytes es) before
