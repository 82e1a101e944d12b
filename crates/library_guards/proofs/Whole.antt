-- The statements about writing a library, written out once more with their figures; and that the writer's file of the sheet of specs/Files draws it. Assumes nothing.
use mathlib.Core.Path.{◌≡◌, refl, ap, ap₂, ◌∙◌, subst}
use mathlib.Core.List.{List, [], ◌∷◌, ◌++◌}
use Prim.Native.Nat.{ℕ, ◌*◌, ◌≤◌, ◌<◌}
use native.Mathlib.Omega.{arith}
use lib.Dec.{T}
use lib.ListN.{length, take, get_or}
use lib.Ieee.{Float, binary64, fits}
use Rattle.refusal.specs.declared.Refusal.{Refusal}
use Rattle.refusal.specs.declared.Refusal.TheVariants as R
use Rattle.sheet.specs.Library.{cell_sheets}
use Rattle.cell.specs.Cell as C
use Rattle.cell.specs.Cell.{cell_structure}
use Rattle.cell.specs.Draws.{Each}
use Rattle.library.specs.Library as L
use Rattle.library.specs.Library.{stopped, LibraryFile, library_file, write_library, out_after}
use Rattle.library.specs.Answer.{LibraryAnswer, refused, accepted, answer_of}
use Rattle.library.specs.Order.{First}
use Rattle.library.specs.Draws.{DrawsLibrary}
use Rattle.library.proofs.OrderLaws.{ordered}
use Rattle.library.proofs.DrawsLaws.{written-draws}
use Rattle.library.proofs.MeasureLaws.{writing-agrees}
use Rattle.library.proofs.AloneLaws.{cells-alone, refused-alone}
use Rattle.cases.specs.Case.{halved}
use Rattle.cases.proofs.Open.{opened}
use Rattle.guards.specs.Told.{all_bytes}
use Rattle.guards.specs.Question.{bits}
use Rattle.guards.specs.Sample.{flat}
use Rattle.guards.specs.Values.{one}
use Rattle.guards.proofs.DecidedLaws.{all-bytes}
use Rattle.library_guards.specs.Files.{sheet_a, sheet_b, sheet, records}
use Rattle.library_guards.proofs.WrittenLaws.{out, report, answer, file-written}

-- ---- what an accepted file draws

pub demand : (policy : ℕ) (d : Float) (sheet out report : List ℕ) (n entries : ℕ) (greatest : Float) → T (fits binary64 d) → ((i : ℕ) → get_or sheet i 0 < 256)
    → answer_of (write_library policy d sheet (length out) (length report)) ≡ accepted n entries greatest
    → DrawsLibrary policy d sheet (take n (out_after (write_library policy d sheet (length out) (length report)) out))
demand = written-draws

-- what draws is bytes
pub bytes : (policy : ℕ) (d : Float) (sheet file : List ℕ) → DrawsLibrary policy d sheet file → (i : ℕ) → get_or file i 0 < 256
bytes policy d sheet file h = h.bytewise

-- ---- the order: what is answered is the first refusal, and the first refusal is answered

module _ (policy : ℕ) (d : Float) (sheet : List ℕ) (out report : ℕ) (r : Refusal) (c k : ℕ) where
  pub answered-first : write_library policy d sheet out report ≡ stopped r c k → First policy d sheet out report r c k
  answered-first = (ordered policy d sheet out report).is_first r c k

  pub first-answered : First policy d sheet out report r c k → write_library policy d sheet out report ≡ stopped r c k
  first-answered = (ordered policy d sheet out report).first_is r c k

-- ---- each cell, and a refusal in one, by its sheet alone

pub written-alone : (policy : ℕ) (d : Float) (sheet : List ℕ) (l : LibraryFile) → library_file policy d sheet ≡ L.written l
    → Each (λ s w. cell_structure policy d s ≡ C.written w.structure w.entries) (cell_sheets sheet) l.cells
written-alone = cells-alone

there : (s : List (List ℕ)) (a : List ℕ) (t : List (List ℕ)) → get_or (s ++ a ∷ t) (length s) [] ≡ a
there [] a t = refl
there (b ∷ s) a t = there s a t

pub refused-by-itself : (policy : ℕ) (d : Float) (sheet : List ℕ) (r : Refusal) (c k : ℕ) → library_file policy d sheet ≡ stopped r c k → c < 16384
    → cell_structure policy d (get_or (cell_sheets sheet) c []) ≡ C.stopped r k
refused-by-itself policy d sheet r c k e l =
    let h = refused-alone policy d sheet r c k e (outside c l) in
    ap (cell_structure policy d) (ap₂ (λ (ss : List (List ℕ)) (i : ℕ). get_or ss i []) h.split h.number ∙ there h.before h.cell h.after) ∙ h.alone
  where
    outside : (c : ℕ) → c < 16384 → c ≡ 4294967295 → ⊥
    outside c l e = omega arith

-- ---- measuring and writing agree: "21 and 22 come once, at the end"

module _ (policy : ℕ) (d : Float) (sheet : List ℕ) (out report : ℕ) where
  abbrev measured : LibraryAnswer
  measured = answer_of (library_file policy d sheet)

  abbrev written : LibraryAnswer
  written = answer_of (write_library policy d sheet out report)

  pub same-refusal : (r : Refusal) (c k : ℕ) → measured ≡ refused r c k → written ≡ refused r c k
  same-refusal = (writing-agrees policy d sheet out report).refused

  module _ (n e : ℕ) (g : Float) (m : measured ≡ accepted n e g) where
    pub output-short : out < n → written ≡ refused R.OutputShort 4294967295 0
    output-short = (writing-agrees policy d sheet out report).output_short n e g m

    pub report-short : n ≤ out → report < 37 * e → written ≡ refused R.ReportShort 4294967295 0
    report-short = (writing-agrees policy d sheet out report).report_short n e g m

    pub long-enough : n ≤ out → 37 * e ≤ report → written ≡ accepted n e g
    long-enough = (writing-agrees policy d sheet out report).accepted n e g m

-- ---- the file of the tables

sheet-bytes : T (all_bytes sheet)
unfolding opened halved sheet_a sheet_b sheet
sheet-bytes = tt

fitting : T (fits binary64 one)
unfolding opened fits
fitting = tt

pub drawn : DrawsLibrary 0 one sheet (flat records)
drawn = subst (λ (b : List ℕ). DrawsLibrary 0 one sheet b) file-written (demand 0 one sheet out report 174 1 (bits 0x3fe0000000000000) fitting (all-bytes sheet sheet-bytes) answer)
