-- What measuring the blocks in turn gathers: entries, blocks that are short, and one law for each way through the walk. Assumes nothing.
use Rattle.std.specs.Prelude.{Result, Ok, Err, MatchResult, IsErrAnd}
use mathlib.Core.Path.{◌≡◌, sym, ap, ap₂, ◌∙◌, refl, subst}
use mathlib.Core.Bool.{Bool, true, false, cond}
use mathlib.Core.List.{List, [], ◌∷◌}
use Prim.Native.Nat.{ℕ, suc, ◌+◌, ◌-◌, ◌*◌, ◌≤◌, ◌<◌}
use native.Mathlib.Nat.{add-zero}
use native.Mathlib.Omega.{arith}
use lib.Dec.{eqb}
use lib.ListN.{length}
use lib.Ieee.{Float}
use Rattle.binary64.specs.Value.{zero64}
use Rattle.refusal.specs.declared.Refusal.{Refusal}
use Rattle.conversion.specs.declared.GdsRoundingPolicy.{GdsRoundingPolicy}
use Rattle.conversion.specs.declared.Entry.{Entry}
use Rattle.conversion.specs.Entry.{greatest_from}
use Rattle.conversion.specs.code.Fold.{standing}
use Rattle.sheet.specs.Element.{element_of}
use Rattle.sheet.specs.Blocks.{pair_count, block_of, blocks_from}
use Rattle.sheet.specs.Cell.{element_blocks}
use Rattle.stream.specs.Records.{elements_bytes}
use Rattle.cell.specs.declared.CellRefusal.{CellRefusal}
use Rattle.cell.specs.Answer.{Answer, refused, accepted}
use Rattle.cell.specs.Limits.{max_sheet_length}
use Rattle.cell.specs.Cell.{write_blocks}
use Rattle.steps.specs.declared.Measured.{Measured}
use Rattle.elements.specs.code.Block.{measured_block, Short}
use Rattle.elements.proofs.BlockLaws.{Met, met}
use Rattle.walk.specs.code.Walk.{totals_from}
use Rattle.sheet.proofs.CountLaws.{block_within, blocks-turn, blocks_end}
use Rattle.walk.proofs.WalkLaws.{totals-stop, totals-turn}

-- the answer on block k in a cell's words
abbrev pub InBlock : ℕ → Result Measured Refusal → Result Measured CellRefusal → Type 0
InBlock k r w = MatchResult r (λ m. w ≡ Ok m) (λ x. IsErrAnd w (λ e. e ≡ record { refusal = x; block = k }))

-- ---- an entry

-- at most one entry stands
pub stands-once : (e : Entry) → length (standing e) ≤ 1
stands-once e = go (eqb e.count 0)
  where
    go : (t : Bool) → length (cond t [] (e ∷ [])) ≤ 1
    go true = omega arith
    go false = omega arith

-- a block adds little to the length
pub block-short : (s : List ℕ) (k : ℕ) (b : List ℕ) (m : Measured) → length s ≤ max_sheet_length → b ≡ block_of s k → Short (length b) (Ok m) → m.length ≤ 84 + 4 * max_sheet_length
block-short s k b m l p q =
    let v = block_within s k in
    let w = ap length p in
    omega arith

-- ---- a block's answer, w, with the block where it is refused

blamed : (r : Result Measured Refusal) {w : Result Measured CellRefusal} (k : ℕ) {x : CellRefusal} → InBlock k r w → w ≡ Err x → (y : Refusal) × (r ≡ Err y) × (x ≡ record { refusal = y; block = k })
blamed (Err y) {w = Err z} k h e = let q : z ≡ _ = cc e in (y, refl, sym q ∙ h)
blamed (Err y) {w = Ok m} k h e = absurd h
blamed (Ok m) k h e = let z : ◌≡◌ {A = ℕ} 0 1 = cc in absurd (omega arith)

pub passed : (r : Result Measured Refusal) {w : Result Measured CellRefusal} (k : ℕ) {m : Measured} → InBlock k r w → w ≡ Ok m → r ≡ Ok m
passed (Err y) {w = Err z} k h e = let u : ◌≡◌ {A = ℕ} 0 1 = cc in absurd (omega arith)
passed (Err y) {w = Ok m} k h e = absurd h
passed (Ok m) k h e = let q : ◌≡◌ {A = Measured} m _ = cc in ap Ok q

-- ---- what is left to measure from block k on, after len bytes, m entries and a greatest error g

module _ (policy : GdsRoundingPolicy) (d : Float) (s : List ℕ) (n : ℕ) where
  abbrev pub left : ℕ → ℕ → ℕ → Float → Answer
  left k len m g = totals_from len m g (write_blocks policy d (k - 1) (blocks_from (n - k) k s))

  pub left-start : n ≡ pair_count s → totals_from 0 0 zero64 (write_blocks policy d 0 (element_blocks s)) ≡ left 1 0 0 zero64
  left-start e = ap (λ (j : ℕ). totals_from 0 0 zero64 (write_blocks policy d 0 (blocks_from (j - 1) 1 s))) (sym e)

  pub left_end : (k len m : ℕ) (g : Float) → n ≤ k → left k len m g ≡ accepted len m g
  unfolding totals_from write_blocks elements_bytes greatest_from
  left_end k len m g h =
      ap (λ (bs : List (List ℕ)). totals_from len m g (write_blocks policy d (k - 1) bs)) (blocks_end n k s h)
      ∙ ap₂ (λ (x y : ℕ). accepted x y g) (add-zero len) (add-zero m)

  module _ (k len m : ℕ) (g : Float) (b : List ℕ) (r : Result Measured Refusal) (from : 1 ≤ k) (h : k < n) (e : b ≡ block_of s k) (f : r ≡ measured_block policy d (k - 1) (element_of b)) where
    answered : Met policy d (k - 1) (block_of s k) r
    answered = subst (λ (c : List ℕ). Met policy d (k - 1) c r) e (subst (Met policy d (k - 1) b) (sym f) (met policy d (k - 1) b))

    by : left k len m g ≡ totals_from len m g (write_blocks policy d (k - 1) (block_of s k ∷ blocks_from (n - (k + 1)) (k + 1) s))
    by = ap (λ (bs : List (List ℕ)). totals_from len m g (write_blocks policy d (k - 1) bs)) (blocks-turn n k s h)

    left-stop : (x : Refusal) → r ≡ Err x → left k len m g ≡ refused x k
    left-stop x q =
        let z : suc (k - 1) ≡ k = omega arith in
        by ∙ totals-stop policy d len m g (k - 1) (block_of s k) _ r x answered q ∙ ap (refused x) z

    pub left-blamed : {w : Result Measured CellRefusal} {x : CellRefusal} → InBlock k r w → w ≡ Err x → left k len m g ≡ Err x
    left-blamed told q = let y = blamed r k told q in left-stop y.0 y.1 ∙ ap Err (sym y.2)

    pub left-turn : (t : Measured) → r ≡ Ok t → left k len m g ≡ left (k + 1) (len + t.length) (m + length (standing t.entry)) (greatest_from g (standing t.entry))
    left-turn t q =
        let z : suc (k - 1) ≡ k + 1 - 1 = omega arith in
        by
        ∙ totals-turn policy d len m g (k - 1) (block_of s k) _ r t answered q
        ∙ ap (λ (i : ℕ). totals_from (len + t.length) (m + length (standing t.entry)) (greatest_from g (standing t.entry)) (write_blocks policy d i (blocks_from (n - (k + 1)) (k + 1) s))) z
