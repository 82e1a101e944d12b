-- The sheet measured: one law for each way out of the code. Assumes nothing.
use Rattle.std.specs.Prelude.{Result as Answered, Ok, Err}
use mathlib.Core.Path.{◌≡◌, refl, sym, ap, ap₂, ◌∙◌, subst}
use mathlib.Core.Bool.{Bool, true, false}
use mathlib.Core.Option.{Option, none, some}
use mathlib.Core.List.{List}
use Prim.Native.Nat.{ℕ, ◌+◌}
use native.Mathlib.Omega.{arith}
use lib.ListN.{length, length-append}
use lib.Dec.{T}
use lib.Ieee.{Float}
use lib.Ieee.Bits.{is_true}
use Rattle.binary64.specs.Value.{zero64}
use Rattle.refusal.specs.declared.Refusal.{Refusal}
use Rattle.refusal.specs.declared.Refusal.TheVariants as R
use Rattle.conversion.specs.declared.GdsRoundingPolicy.{GdsRoundingPolicy}
use Rattle.conversion.specs.Entry.{greatest_from}
use Rattle.sheet.specs.Element.{Head, head_of}
use Rattle.sheet.specs.Blocks.{pairs_fit, block_of}
use Rattle.sheet.specs.Cell.{element_blocks}
use Rattle.stream.specs.Structure.{Said, Structure}
use Rattle.stream.specs.Strings.{padded}
use Rattle.stream.specs.Record.{ENDSTR}
use Rattle.stream.specs.Records.{empty_record, elements_bytes}
use Rattle.stream.proofs.BytesLaws.{end_bytes, structure-bytes}
use Rattle.stream.proofs.BytesLaws as B
use Rattle.cell.specs.Stamps.{stamps_fit}
use Rattle.cell.specs.Names.{is_name}
use Rattle.cell.specs.Cell.{Result, stopped, written, structure_for, structure_with, structure_bytes, write_blocks, write_headed, write_sheet}
use Rattle.cell.specs.declared.Accepted.{Accepted}
use Rattle.cell.specs.declared.CellRefusal.{CellRefusal}
use Rattle.cell.specs.Answer.{refused, accepted, answer_of}
use Rattle.cell.proofs.ResultLaws.{check-on, check-off}
use Rattle.records.proofs.RecordLaws.{length-record}
use Rattle.walk.specs.code.Walk.{head_bytes, head_measured, totals_from}

head-same : (h : Head) → B.head_bytes h.stamps (padded h.name) ≡ head_bytes h
unfolding head_bytes B.head_bytes
head-same h = refl

-- the head's bytes, the elements' and an ENDSTR of 4
structure-length : (h : Head) (ws : List Said) → length (structure_bytes (structure_for h ws)) ≡ length (head_bytes h) + length (elements_bytes ws) + 4
structure-length h ws =
    let e : length end_bytes ≡ 4 = length-record (empty_record ENDSTR) in
    let l = ap length (head-same h) in
    ap length (structure-bytes (structure_for h ws)) ∙ simp length-append (omega arith)

-- ---- what the elements add: a refusal, or their totals

stop-with : (h : Head) (y : Result (List Said)) (e : CellRefusal) → totals_from 0 0 zero64 y ≡ Err e → Err e ≡ answer_of (structure_with h y)
unfolding totals_from
stop-with h (stopped r j) e f = cc
stop-with h (written ws es) e f = let z : ◌≡◌ {A = ℕ} 0 1 = cc in absurd (omega arith)

go-with : (h : Head) (y : Result (List Said)) (a : Accepted) → totals_from 0 0 zero64 y ≡ Ok a → accepted (length (head_bytes h) + a.length + 4) a.entries a.greatest ≡ answer_of (structure_with h y)
unfolding totals_from
go-with h (stopped r j) a e = let z : ◌≡◌ {A = ℕ} 0 1 = cc in absurd (omega arith)
go-with h (written ws es) a e =
    let same : ◌≡◌ {A = Accepted} (record { length = 0 + length (elements_bytes ws); entries = 0 + length es; greatest = greatest_from zero64 es }) a = cc in
    let p : 0 + length (elements_bytes ws) ≡ a.length = ap (λ (x : Accepted). x.length) same in
    let q : 0 + length es ≡ a.entries = ap (λ (x : Accepted). x.entries) same in
    let u : greatest_from zero64 es ≡ a.greatest = ap (λ (x : Accepted). x.greatest) same in
    let l = structure-length h ws in
    let m : length (head_bytes h) + a.length + 4 ≡ length (structure_bytes (structure_for h ws)) = omega arith in
    let k : a.entries ≡ length es = omega arith in
    ap₂ (λ (x y : ℕ). accepted x y a.greatest) m k ∙ ap (accepted (length (structure_bytes (structure_for h ws))) (length es)) (sym u)

-- ---- the sheet

module _ (policy : GdsRoundingPolicy) (d : Float) (s : List ℕ) where
  -- what measuring the head says, and what the sheet gives then
  data Seen : Answered ℕ Refusal → Result Structure → Type 0 where
    stops : (r : Refusal) → Seen (Err r) (stopped r 0)
    goes : (h : Head) → Seen (Ok (length (head_bytes h))) (structure_with h (write_blocks policy d 0 (element_blocks s)))

  seen : (x : Option Head) → Seen (head_measured x) (write_headed policy d s x)
  unfolding write_headed
  seen none = stops R.Form
  seen (some h) = go (stamps_fit h.stamps) refl (is_name h.name) refl
    where
      go : (t : Bool) → stamps_fit h.stamps ≡ t → (u : Bool) → is_name h.name ≡ u → Seen (head_measured (some h)) (write_headed policy d s (some h))
      go false e u f = rw e (stops R.Stamp)
      go true e false f = rw (e, f) (stops R.Name)
      go true e true f = rw (e, f) (goes h)

  pub pairs-stop : pairs_fit s ≡ false → refused R.Pairs 0 ≡ answer_of (write_sheet policy d s)
  unfolding write_sheet
  pairs-stop e = sym (ap answer_of (check-off (pairs_fit s) R.Pairs _ e))

  -- the head is in block b
  module _ (t : T (pairs_fit s)) (b : List ℕ) (i : b ≡ block_of s 0) where
    reached : (r : Answered ℕ Refusal) → r ≡ head_measured (head_of b) → Seen r (write_sheet policy d s)
    unfolding write_sheet
    reached r e =
        let on = check-on (pairs_fit s) R.Pairs (write_headed policy d s (head_of (block_of s 0))) (is_true (pairs_fit s) t) in
        subst (Seen r) (sym on) (subst (λ (c : List ℕ). Seen r (write_headed policy d s (head_of c))) i (subst (λ (z : Answered ℕ Refusal). Seen z (write_headed policy d s (head_of b))) (sym e) (seen (head_of b))))

    pub head-stop : (x : Refusal) → Err x ≡ head_measured (head_of b) → refused x 0 ≡ answer_of (write_sheet policy d s)
    head-stop x e = go (Err x) (write_sheet policy d s) (reached (Err x) e) refl
      where
        go : (r : Answered ℕ Refusal) (y : Result Structure) → Seen r y → r ≡ Err x → refused x 0 ≡ answer_of y
        go r y (stops z) f = let w : x ≡ z = cc in ap (λ (u : Refusal). refused u 0) w
        go r y (goes h) f = let z : ◌≡◌ {A = ℕ} 0 1 = cc in absurd (omega arith)

    module _ (n : ℕ) (e : Ok n ≡ head_measured (head_of b)) where
      pub elements-stop : (x : CellRefusal) → Err x ≡ totals_from 0 0 zero64 (write_blocks policy d 0 (element_blocks s)) → Err x ≡ answer_of (write_sheet policy d s)
      elements-stop x g = go (Ok n) (write_sheet policy d s) (reached (Ok n) e) refl
        where
          go : (r : Answered ℕ Refusal) (y : Result Structure) → Seen r y → r ≡ Ok n → Err x ≡ answer_of y
          go r y (stops w) f = let z : ◌≡◌ {A = ℕ} 0 1 = cc in absurd (omega arith)
          go r y (goes h) f = stop-with h (write_blocks policy d 0 (element_blocks s)) x (sym g)

      pub sheet-through : (w : Accepted) → Ok w ≡ totals_from 0 0 zero64 (write_blocks policy d 0 (element_blocks s)) → accepted (n + w.length + 4) w.entries w.greatest ≡ answer_of (write_sheet policy d s)
      sheet-through w g = go (Ok n) (write_sheet policy d s) (reached (Ok n) e) refl
        where
          go : (r : Answered ℕ Refusal) (y : Result Structure) → Seen r y → r ≡ Ok n → accepted (n + w.length + 4) w.entries w.greatest ≡ answer_of y
          go r y (stops x) f = let z : ◌≡◌ {A = ℕ} 0 1 = cc in absurd (omega arith)
          go r y (goes h) f =
              let l : n ≡ length (head_bytes h) = cc in
              ap (λ (x : ℕ). accepted (x + w.length + 4) w.entries w.greatest) l ∙ go-with h (write_blocks policy d 0 (element_blocks s)) w (sym g)
