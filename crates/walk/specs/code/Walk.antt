-- The head and the blocks in turn, measured and written, by the definition of writing a cell (cell/specs/Cell). Assumes nothing.
use Rattle.std.specs.Prelude.{◌≡◌, Bool, true, false, List, ◌++◌, ℕ, ◌+◌, ◌*◌, ◌≤◌, T, length, Float, Result as Answered, Ok, Err}
use Rattle.std.proofs.Math.Option.{Option, none, some}
use Rattle.refusal.specs.declared.Refusal.{Refusal}
use Rattle.refusal.specs.declared.Refusal.TheVariants as R
use Rattle.conversion.specs.declared.GdsRoundingPolicy.{GdsRoundingPolicy}
use Rattle.conversion.specs.declared.Entry.{Entry}
use Rattle.conversion.specs.Entry.{greatest_from, report_with}
use Rattle.big_endian.specs.Buffer.{Wrote}
use Rattle.sheet.specs.Element.{Head}
use Rattle.sheet.specs.Blocks.{max_pairs}
use Rattle.sheet.specs.Cell.{element_blocks}
use Rattle.stream.specs.Strings.{padded}
use Rattle.stream.specs.Structure.{Said, Structure}
use Rattle.stream.specs.Record.{STRNAME, record_bytes}
use Rattle.stream.specs.Records.{elements_bytes, stamps_record, string_record}
use Rattle.cell.specs.Answer.{Answer, refused, accepted}
use Rattle.cell.specs.Limits.{max_sheet_length}
use Rattle.cell.specs.Stamps.{stamps_fit}
use Rattle.cell.specs.Names.{is_name}
use Rattle.cell.specs.Cell.{Result, stopped, written, write_blocks, write_sheet, structure_bytes}
use Rattle.walk.specs.declared.Ends.{Ends}

-- ---- the head

-- BGNSTR and STRNAME
unfoldable pub head_bytes : Head → List ℕ
head_bytes h = record_bytes (stamps_record h.stamps) ++ record_bytes (string_record STRNAME (padded h.name))

-- "form first, then in the head 6 before 7"; then how many bytes its records have
abbrev pub head_measured : Option Head → Answered ℕ Refusal
head_measured none = Err R.Form
head_measured (some h) = by_stamps (stamps_fit h.stamps)
  where
    by_name : Bool → Answered ℕ Refusal
    by_name false = Err R.Name
    by_name true = Ok (length (head_bytes h))

    by_stamps : Bool → Answered ℕ Refusal
    by_stamps false = Err R.Stamp
    by_stamps true = by_name (is_name h.name)

-- a name has at most 32 bytes: sums with it fit
abbrev pub HeadSmall : Answered ℕ Refusal → Type 0
HeadSmall (Err r) = T true
HeadSmall (Ok length) = length ≤ 64

-- ---- blocks in turn

-- after n bytes, k entries and a greatest error g
unfoldable pub totals_from : ℕ → ℕ → Float → Result (List Said) → Answer
totals_from n k g (stopped r b) = refused r b
totals_from n k g (written ws es) = accepted (n + length (elements_bytes ws)) (k + length es) (greatest_from g es)

-- at most 16,384 blocks, of which none is longer than the longest sheet, each with one entry at most: sums with it fit
abbrev pub TotalsSmall : Answer → Type 0
TotalsSmall (Err e) = T true
TotalsSmall (Ok a) = (a.length ≤ max_pairs * (84 + 4 * max_sheet_length)) × (a.entries ≤ max_pairs)

-- no check refuses an element, and there is room for what is written: the elements' bytes, and their entries, each after its lead
pub record ElementsFit (policy : GdsRoundingPolicy) (d : Float) (sheet lead : List ℕ) (out report : ℕ) : Type 0 where
  pub elements : List Said
  pub entries : List Entry
  pub writes : write_blocks policy d 0 (element_blocks sheet) ≡ written elements entries
  pub out-room : length (elements_bytes elements) ≤ out
  pub report-room : length (report_with lead entries) ≤ report

-- then all of them are written at the start of both parts, and nothing else; r says where they end
pub record PutsElements (policy : GdsRoundingPolicy) (d : Float) (sheet lead out report out' report' : List ℕ) (r : Ends) : Type 0 where
  pub output : (ws : List Said) (es : List Entry) → write_blocks policy d 0 (element_blocks sheet) ≡ written ws es → Wrote (elements_bytes ws) out out' r.out
  pub entries : (ws : List Said) (es : List Entry) → write_blocks policy d 0 (element_blocks sheet) ≡ written ws es → Wrote (report_with lead es) report report' r.report

-- ---- the structure

-- the bytes of the head, of the elements and of ENDSTR: their sum over all cells of a library fits
abbrev pub AnswerSmall : Answer → Type 0
AnswerSmall (Err e) = T true
AnswerSmall (Ok a) = (a.length ≤ 68 + max_pairs * (84 + 4 * max_sheet_length)) × (a.entries ≤ max_pairs)

-- the sheet is accepted, and there is room for its structure and its entries, each after its lead
pub record StructureFits (policy : GdsRoundingPolicy) (d : Float) (sheet lead : List ℕ) (out report : ℕ) : Type 0 where
  pub structure : Structure
  pub entries : List Entry
  pub writes : write_sheet policy d sheet ≡ written structure entries
  pub out-room : length (structure_bytes structure) ≤ out
  pub report-room : length (report_with lead entries) ≤ report

-- then both are written at the start of the part that is lent, and nothing else; r says where they end
pub record PutsStructure (policy : GdsRoundingPolicy) (d : Float) (sheet lead out report out' report' : List ℕ) (r : Ends) : Type 0 where
  pub output : (s : Structure) (es : List Entry) → write_sheet policy d sheet ≡ written s es → Wrote (structure_bytes s) out out' r.out
  pub entries : (s : Structure) (es : List Entry) → write_sheet policy d sheet ≡ written s es → Wrote (report_with lead es) report report' r.report
