-- What measuring the cells in turn gathers: one law for each way through the walk. Assumes nothing.
use mathlib.Core.Path.{◌≡◌, refl, sym, ap, ap₂, ◌∙◌, subst}
use mathlib.Core.List.{List, [], ◌∷◌, ◌++◌}
use Prim.Native.Nat.{ℕ, suc, ◌+◌, ◌-◌, ◌≤◌, ◌<◌}
use native.Mathlib.Nat.{add-zero}
use native.Mathlib.Omega.{arith}
use lib.ListN.{length, length-append}
use lib.Ieee.{Float}
use Rattle.binary64.specs.Value.{zero64}
use Rattle.conversion.specs.declared.GdsRoundingPolicy.{GdsRoundingPolicy}
use Rattle.conversion.specs.Entry.{greatest_from}
use Rattle.sheet.specs.Blocks.{pair_count, block_of, blocks_from}
use Rattle.sheet.specs.Library.{cell_sheets}
use Rattle.sheet.proofs.CountLaws.{blocks-turn, blocks_end}
use Rattle.stream.specs.Structure.{Structure}
use Rattle.std.specs.Prelude.{Result as Answered, Ok, Err, MatchResult, IsErrAnd}
use Rattle.cell.specs.declared.Accepted.{Accepted}
use Rattle.cell.specs.declared.CellRefusal.{CellRefusal}
use Rattle.cell.specs.Cell as C
use Rattle.cell.specs.Cell.{write_sheet, structure_bytes}
use Rattle.cell.specs.Answer as CA
use Rattle.cell.specs.Answer.{Answer}
use Rattle.library.specs.declared.LibraryRefusal.{LibraryRefusal}
use Rattle.walk.specs.code.Walk.{AnswerSmall}
use Rattle.library.specs.Answer as L
use Rattle.library.specs.Answer.{LibraryAnswer}
use Rattle.library.specs.Library.{Result, stopped, written, WrittenCell, in_front, write_cells, cells_bytes, entries_in, larger, greatest_in}
use Rattle.library.proofs.CellsLaws.{walk_refused, walk-written}
use Rattle.write_library.specs.code.File.{totals_from}

-- ---- a cell's answer r, and the same as a library's answer w, with the cell where it is refused

abbrev pub InCell : ℕ → Answer → Answered Accepted LibraryRefusal → Type 0
InCell c r w = MatchResult r (λ a. w ≡ Ok a) (λ e. IsErrAnd w (λ x. x ≡ record { refusal = e.refusal; cell = c; block = e.block }))

blamed : (c : ℕ) (r : Answer) {w : Answered Accepted LibraryRefusal} {x : LibraryRefusal} → InCell c r w → w ≡ Err x
    → (e : CellRefusal) × (r ≡ Err e) × (x ≡ record { refusal = e.refusal; cell = c; block = e.block })
blamed c (Err e) {w = Err y} h f = let q : y ≡ _ = cc f in (e, refl, sym q ∙ h)
blamed c (Err e) {w = Ok a} h f = absurd h
blamed c (Ok a) h f = let z : ◌≡◌ {A = ℕ} 0 1 = cc in absurd (omega arith)

passed : (c : ℕ) (r : Answer) {w : Answered Accepted LibraryRefusal} {a : Accepted} → InCell c r w → w ≡ Ok a → r ≡ Ok a
passed c (Err e) {w = Err y} h f = let z : ◌≡◌ {A = ℕ} 0 1 = cc in absurd (omega arith)
passed c (Err e) {w = Ok a} h f = absurd h
passed c (Ok a) h f = let q : ◌≡◌ {A = Accepted} a _ = cc in ap Ok q

-- how little one cell adds, by the bound that measuring it promises
pub told-small : (c : ℕ) (r : Answer) {w : Answered Accepted LibraryRefusal} {a : Accepted} → InCell c r w → w ≡ Ok a → AnswerSmall r → AnswerSmall (Ok a)
told-small c r h f s = subst AnswerSmall (passed c r h f) s

-- ---- on top of what was gathered

-- one cell in front of the others: its length, its entries and their error come first
totals-front : (n k : ℕ) (g : Float) (w : WrittenCell) (x : Result (List WrittenCell))
    → totals_from n k g (in_front w x) ≡ totals_from (n + length (structure_bytes w.structure)) (k + length w.entries) (larger g (greatest_from zero64 w.entries)) x
unfolding totals_from cells_bytes entries_in greatest_in
totals-front n k g w (stopped r c j) = refl
totals-front n k g w (written ws) =
    let bytes = structure_bytes w.structure in
    let a : n + length (bytes ++ cells_bytes ws) ≡ n + length bytes + length (cells_bytes ws) = simp length-append (omega arith) in
    let b : k + (length w.entries + entries_in ws) ≡ k + length w.entries + entries_in ws = omega arith in
    ap₂ (λ (x y : ℕ). L.accepted x y (greatest_in (larger g (greatest_from zero64 w.entries)) ws)) a b

-- ---- the cells from cell c of m on

-- cell c is block c + 1: it, and those after it
pub cells-turn : (m c : ℕ) (s : List ℕ) → c < m → blocks_from (m - c) (c + 1) s ≡ block_of s (c + 1) ∷ blocks_from (m - (c + 1)) (c + 1 + 1) s
cells-turn m c s h =
    let z : m + 1 - (c + 1) ≡ m - c = omega arith in
    let y : m + 1 - (c + 1 + 1) ≡ m - (c + 1) = omega arith in
    ap (λ (j : ℕ). blocks_from j (c + 1) s) (sym z) ∙ blocks-turn (m + 1) (c + 1) s (omega arith) ∙ ap (λ (j : ℕ). block_of s (c + 1) ∷ blocks_from j (c + 1 + 1) s) y

pub cells-end : (m c : ℕ) (s : List ℕ) → m ≤ c → blocks_from (m - c) (c + 1) s ≡ []
cells-end m c s h =
    let z : m + 1 - (c + 1) ≡ m - c = omega arith in
    ap (λ (j : ℕ). blocks_from j (c + 1) s) (sym z) ∙ blocks_end (m + 1) (c + 1) s (omega arith)

-- ---- what is left to measure from cell c on, after len bytes, k entries and a greatest error g

module _ (policy : GdsRoundingPolicy) (d : Float) (s : List ℕ) (m : ℕ) where
  abbrev pub left : ℕ → ℕ → ℕ → Float → LibraryAnswer
  left c len k g = totals_from len k g (write_cells policy d c (blocks_from (m - c) (c + 1) s))

  pub left-start : (len : ℕ) → m ≡ pair_count s - 1 → totals_from len 0 zero64 (write_cells policy d 0 (cell_sheets s)) ≡ left 0 len 0 zero64
  left-start len e = let z : pair_count s - 1 ≡ m - 0 = omega arith in ap (λ (j : ℕ). totals_from len 0 zero64 (write_cells policy d 0 (blocks_from j 1 s))) z

  pub left_end : (c len k : ℕ) (g : Float) → m ≤ c → left c len k g ≡ L.accepted len k g
  unfolding totals_from write_cells cells_bytes entries_in greatest_in
  left_end c len k g h =
      ap (λ (bs : List (List ℕ)). totals_from len k g (write_cells policy d c bs)) (cells-end m c s h)
      ∙ ap₂ (λ (x y : ℕ). L.accepted x y g) (add-zero len) (add-zero k)

  -- b is the cell's sheet
  module _ (c len k : ℕ) (g : Float) {b : List ℕ} (h : c < m) (e : b ≡ block_of s (c + 1)) where
    abbrev others : List (List ℕ)
    others = blocks_from (m - (c + 1)) (c + 1 + 1) s

    by : left c len k g ≡ totals_from len k g (write_cells policy d c (b ∷ others))
    by = ap (λ (bs : List (List ℕ)). totals_from len k g (write_cells policy d c bs)) (cells-turn m c s h ∙ ap (λ (x : List ℕ). x ∷ others) (sym e))

    stop : (x : CellRefusal) → Err x ≡ CA.answer_of (write_sheet policy d b) → left c len k g ≡ L.refused x.refusal c x.block
    unfolding totals_from
    stop x q = go (write_sheet policy d b) refl q
      where
        go : (y : C.Result Structure) → write_sheet policy d b ≡ y → Err x ≡ CA.answer_of y → left c len k g ≡ L.refused x.refusal c x.block
        go (C.stopped z i) p w =
            let u : ◌≡◌ {A = CellRefusal} (record { refusal = z; block = i }) x = cc in
            by ∙ ap (totals_from len k g) (walk_refused policy d c b others z i p) ∙ ap (λ (v : CellRefusal). L.refused v.refusal c v.block) u
        go (C.written t es) p w = let z : ◌≡◌ {A = ℕ} 0 1 = cc in absurd (omega arith)

    turn : (a : Accepted) → Ok a ≡ CA.answer_of (write_sheet policy d b) → left c len k g ≡ left (c + 1) (len + a.length) (k + a.entries) (larger g a.greatest)
    turn a q = go (write_sheet policy d b) refl q
      where
        go : (y : C.Result Structure) → write_sheet policy d b ≡ y → Ok a ≡ CA.answer_of y → left c len k g ≡ left (c + 1) (len + a.length) (k + a.entries) (larger g a.greatest)
        go (C.stopped x i) p w = let z : ◌≡◌ {A = ℕ} 0 1 = cc in absurd (omega arith)
        go (C.written t es) p w =
            let u : ◌≡◌ {A = Accepted} (record { length = length (structure_bytes t); entries = length es; greatest = greatest_from zero64 es }) a = cc in
            let z : suc c ≡ c + 1 = omega arith in
            by
            ∙ ap (totals_from len k g) (walk-written policy d c b others t es p)
            ∙ totals-front len k g (record { structure = t; entries = es }) (write_cells policy d (suc c) others)
            ∙ ap₂ (λ (v : Accepted) (i : ℕ). totals_from (len + v.length) (k + v.entries) (larger g v.greatest) (write_cells policy d i others)) u z

    -- r is the answer on it, and w the same with the cell
    module _ {r : Answer} (f : r ≡ CA.answer_of (write_sheet policy d b)) {w : Answered Accepted LibraryRefusal} (i : InCell c r w) where
      pub left-stop : {x : LibraryRefusal} → w ≡ Err x → left c len k g ≡ Err x
      left-stop q = let y = blamed c r i q in stop y.0 (sym y.1 ∙ f) ∙ ap Err (sym y.2)

      pub left-turn : {a : Accepted} → w ≡ Ok a → left c len k g ≡ left (c + 1) (len + a.length) (k + a.entries) (larger g a.greatest)
      left-turn {a} q = turn a (sym (passed c r i q) ∙ f)
