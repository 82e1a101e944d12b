-- The answer is the first refusal in document 01's order, or a structure (specs/Order). Assumes nothing.
use mathlib.Core.Path.{◌≡◌, refl, sym, ap, ◌∙◌, subst}
use mathlib.Core.Bool.{Bool, true, false}
use mathlib.Core.Option.{Option, none, some}
use mathlib.Core.List.{List, [], ◌∷◌, ◌++◌, append_assoc}
use Prim.Native.Nat.{ℕ, suc, ◌+◌, ◌*◌, ◌<◌}
use native.Mathlib.Omega.{arith}
use borrow.Author.Tests.{le-leb, lt-leb, leb-false}
use lib.Dec.{T, leb, leb→le}
use lib.ListN.{length, length-append}
use lib.Ieee.{Float}
use lib.Ieee.Bits.{is_true as on}
use lib.Ieee.Positive.{positive}
use Rattle.refusal.specs.declared.Refusal.{Refusal}
use Rattle.refusal.specs.declared.Refusal.TheVariants as R
use Rattle.parsing.specs.All.{All, done, more}
use Rattle.conversion.specs.declared.GdsRoundingPolicy.{GdsRoundingPolicy}
use Rattle.conversion.specs.declared.Entry.{Entry}
use Rattle.conversion.specs.Made.{Made, refused, made}
use Rattle.conversion.specs.Entry.{entry_of, entry_length}
use Rattle.conversion.proofs.PolicyLaws.{caller-unnamed, caller-with, caller-unit}
use Rattle.sheet.specs.Element.{Head, Element, kind_of, head_of, element_of}
use Rattle.sheet.specs.Blocks.{pairs_fit, block_of}
use Rattle.sheet.specs.Cell.{element_blocks}
use Rattle.stream.specs.Structure.{Said, Structure}
use Rattle.cell.specs.Stamps.{stamps_fit}
use Rattle.cell.specs.Names.{is_name}
use Rattle.cell.specs.Call.{checked_call}
use Rattle.cell.specs.Write.{write_element}
use Rattle.cell.specs.Cell.{Result, stopped, written, in_front, write_one, write_block, write_blocks, structure_with, write_headed, write_sheet, after_caller, cell_structure, structure_bytes, fitting, write_cell}
use Rattle.cell.specs.Order.{Accepted, Called, Headed, Reached, First, Ordered}
use Rattle.cell.specs.Order as O
use Rattle.cell.proofs.ResultLaws.{Stops, check-stops, check-on, check-off}
use Rattle.cell.proofs.CallLaws.{call-refused, call_long, call-passed, Calling, unnamed, no_unit, too_long, passes, calling}
use Rattle.cell.proofs.WalkLaws.{walk-ill, walk_refused, walk-made}

-- a test that fails
pub off : (t : Bool) → (T t → ⊥) → t ≡ false
off true h = absurd (h tt)
off false h = refl

pub not-leb : (a b : ℕ) → (T (leb a b) → ⊥) → b < a
not-leb a b h = leb-false a b (off (leb a b) h)

-- ---- every refusal is the first

-- one more at the end
pub all_snoc : {A : Type 0} {P : A → Type 0} {a : A} (s : List A) → All P s → P a → All P (s ++ a ∷ [])
all_snoc [] done k = more k done
all_snoc (b ∷ s) (more h hs) k = more h (all_snoc s hs k)

pub length-snoc : {A : Type 0} (b : A) (s : List A) → length (s ++ b ∷ []) ≡ suc (length s)
length-snoc b s = omega (arith, length-append s (b ∷ []))

module _ (policy : ℕ) (d : Float) (sheet : List ℕ) (out report : ℕ) where
  abbrev Firsts : {A : Type 0} → Result A → Type 0
  Firsts = Stops (First policy d sheet out report)

  blocks-first : (at : Headed policy d sheet) (before rest : List (List ℕ)) → element_blocks sheet ≡ before ++ rest → All (Accepted at.called.rounding d) before
      → Firsts (write_blocks at.called.rounding d (length before) rest)
  unfolding write_blocks write_block write_one
  blocks-first at before [] s a = tt
  blocks-first at before (b ∷ bs) s a =
      go (write_blocks at.called.rounding d (suc (length before)) bs)
      (λ k. subst (λ (n : ℕ). Firsts (write_blocks at.called.rounding d n bs)) (length-snoc b before)
      (blocks-first at (before ++ b ∷ []) bs (s ∙ sym (append_assoc before (b ∷ []) bs)) (all_snoc before a k)))
      (element_of b) refl
    where
      reached : Reached policy d sheet b (suc (length before))
      reached = record { headed = at; before = before; after = bs; split = s; block = refl; accepted = a }

      front : (w : Said) (es : List Entry) (x : Result (List Said)) → Firsts x → Firsts (in_front w es x)
      front w es (stopped r k) h = h
      front w es (written ws fs) h = tt

      one : (others : Result (List Said)) → (Accepted at.called.rounding d b → Firsts others) → (e : Element) → element_of b ≡ some e
          → (m : Made Said) → write_element at.called.rounding d e ≡ m → Firsts (write_one (length before) (kind_of e.body) m others)
      one others next e h (refused r) k = O.block_refused b (suc (length before)) reached e r h k
      one others next e h (made w vs) k =
          front w (entry_of (length before) (kind_of e.body) vs) others (next (record { element = e; said = w; deviations = vs; held = h; writes = k }))

      go : (others : Result (List Said)) → (Accepted at.called.rounding d b → Firsts others)
          → (x : Option Element) → element_of b ≡ x → Firsts (write_block at.called.rounding d (length before) x others)
      go others next none h = O.block_ill_formed b (suc (length before)) reached h
      go others next (some e) h = one others next e h (write_element at.called.rounding d e) refl

  headed-first : (at : Called policy d sheet) → T (pairs_fit sheet) → (x : Option Head) → head_of (block_of sheet 0) ≡ x → Firsts (write_headed at.rounding d sheet x)
  unfolding write_headed
  headed-first at p none e = O.head_ill_formed at p e
  headed-first at p (some h) e =
      check-stops _ (stamps_fit h.stamps) R.Stamp _ (λ no. O.head_stamps h at p e no)
      (λ t. check-stops _ (is_name h.name) R.Name _ (λ no. O.head_name h at p e t no)
      (λ n. whole (write_blocks at.rounding d 0 (element_blocks sheet))
      (blocks-first (record { called = at; pairs = p; head = h; held = e; stamps = t; name = n }) [] (element_blocks sheet) refl done)))
    where
      whole : (x : Result (List Said)) → Firsts x → Firsts (structure_with h x)
      whole (stopped r k) f = f
      whole (written ws es) f = tt

  measured-first : Firsts (cell_structure policy d sheet)
  unfolding cell_structure after_caller write_sheet
  measured-first = go (checked_call policy d sheet) (calling policy d sheet)
    where
      go : (m : Made GdsRoundingPolicy) → Calling policy d sheet m → Firsts (after_caller m d sheet)
      go m (unnamed e) = O.policy_above3 e
      go m (no_unit rounding e never) = O.unit_not_positive rounding e never
      go m (too_long rounding e u l) = O.sheet_too_long rounding e u l
      go m (passes at) = check-stops _ (pairs_fit sheet) R.Pairs _ (λ no. O.pairs_ill_formed at no) (λ p. headed-first at p (head_of (block_of sheet 0)) refl)

  written-first : Firsts (write_cell policy d sheet out report)
  unfolding write_cell fitting
  written-first = go (cell_structure policy d sheet) refl measured-first
    where
      go : (x : Result Structure) → cell_structure policy d sheet ≡ x → Firsts x → Firsts (fitting out report x)
      go (stopped r k) e f = f
      go (written s es) e f =
          check-stops _ (leb (length (structure_bytes s)) out) R.OutputShort _ (λ no. O.output_too_short s es e (not-leb (length (structure_bytes s)) out no))
          (λ l. check-stops _ (leb (entry_length * length es) report) R.ReportShort _
          (λ no. O.report_too_short s es e (leb→le (length (structure_bytes s)) out l) (not-leb (entry_length * length es) report no)) (λ m. tt))

  -- ---- what is first is the refusal

  module _ (at : Called policy d sheet) where
    -- 1 to 3 have passed: the rest is the cell from its 4 on
    called_is : cell_structure policy d sheet ≡ write_sheet at.rounding d sheet
    unfolding cell_structure after_caller
    called_is = ap (λ (m : Made GdsRoundingPolicy). after_caller m d sheet) (call-passed policy d sheet at)

    -- and 4
    paired_is : (x : Option Head) → T (pairs_fit sheet) → head_of (block_of sheet 0) ≡ x → cell_structure policy d sheet ≡ write_headed at.rounding d sheet x
    unfolding write_sheet
    paired_is x p e = called_is ∙ check-on (pairs_fit sheet) _ _ (on (pairs_fit sheet) p) ∙ ap (λ (y : Option Head). write_headed at.rounding d sheet y) e

  -- and the head
  headed-is : (at : Headed policy d sheet) → cell_structure policy d sheet ≡ structure_with at.head (write_blocks at.called.rounding d 0 (element_blocks sheet))
  unfolding write_headed
  headed-is at =
      paired_is at.called (some at.head) at.pairs at.held
      ∙ check-on (stamps_fit at.head.stamps) _ _ (on (stamps_fit at.head.stamps) at.stamps)
      ∙ check-on (is_name at.head.name) _ _ (on (is_name at.head.name) at.name)

  -- the blocks before are accepted, so the walk goes on to the rest
  past : (rounding : GdsRoundingPolicy) (i j : ℕ) (before rest : List (List ℕ)) (r : Refusal) (k : ℕ) → j ≡ i + length before → All (Accepted rounding d) before
      → write_blocks rounding d j rest ≡ stopped r k → write_blocks rounding d i (before ++ rest) ≡ stopped r k
  past rounding i j [] rest r k n done e =
      let z : i ≡ j = omega arith in
      ap (λ (m : ℕ). write_blocks rounding d m rest) z ∙ e
  past rounding i j (b ∷ before) rest r k n (more a rest-accepted) e =
      walk-made rounding d i b (before ++ rest) a.element a.said a.deviations a.held a.writes
      ∙ ap (in_front a.said (entry_of i (kind_of a.element.body) a.deviations)) (past rounding (suc i) j before rest r k (omega arith) rest-accepted e)

  reached-is : (b : List ℕ) (k : ℕ) (at : Reached policy d sheet b k) (r : Refusal)
      → write_blocks at.headed.called.rounding d (length at.before) (b ∷ at.after) ≡ stopped r (suc (length at.before)) → cell_structure policy d sheet ≡ stopped r k
  reached-is b k at r e =
      let rounding = at.headed.called.rounding in
      headed-is at.headed
      ∙ ap (λ (bs : List (List ℕ)). structure_with at.headed.head (write_blocks rounding d 0 bs)) at.split
      ∙ ap (structure_with at.headed.head) (past rounding 0 (length at.before) at.before (b ∷ at.after) r (suc (length at.before)) (omega arith) at.accepted e)
      ∙ ap (stopped r) (sym at.block)

  -- what the caller's checks refuse is a refusal of measuring
  call-stops : (r : Refusal) → checked_call policy d sheet ≡ refused r → cell_structure policy d sheet ≡ stopped r 0
  unfolding cell_structure after_caller
  call-stops r e = ap (λ (m : Made GdsRoundingPolicy). after_caller m d sheet) e

  -- a refusal of measuring is one of writing
  stops : (r : Refusal) (k : ℕ) → cell_structure policy d sheet ≡ stopped r k → write_cell policy d sheet out report ≡ stopped r k
  unfolding write_cell fitting
  stops r k e = ap (fitting out report) e

  first-is : (r : Refusal) (k : ℕ) → First policy d sheet out report r k → write_cell policy d sheet out report ≡ stopped r k
  unfolding write_cell fitting write_sheet write_headed
  first-is r k (O.policy_above3 e) = stops r k (call-stops r (call-refused policy d sheet r (caller-unnamed policy d e)))
  first-is r k (O.unit_not_positive rounding e never) = stops r k (call-stops r (call-refused policy d sheet r (caller-unit policy d rounding e (off (positive d) never))))
  first-is r k (O.sheet_too_long rounding e u l) = stops r k (call-stops r (call_long policy d sheet rounding (caller-with policy d rounding e (on (positive d) u)) l))
  first-is r k (O.pairs_ill_formed at never) = stops r k (called_is at ∙ check-off (pairs_fit sheet) _ _ (off (pairs_fit sheet) never))
  first-is r k (O.head_ill_formed at p e) = stops r k (paired_is at none p e)
  first-is r k (O.head_stamps h at p e never) = stops r k (paired_is at (some h) p e ∙ check-off (stamps_fit h.stamps) _ _ (off (stamps_fit h.stamps) never))
  first-is r k (O.head_name h at p e t never) =
      stops r k (paired_is at (some h) p e
      ∙ check-on (stamps_fit h.stamps) _ _ (on (stamps_fit h.stamps) t)
      ∙ check-off (is_name h.name) _ _ (off (is_name h.name) never))
  first-is r k (O.block_ill_formed b n at e) = stops r k (reached-is b n at r (walk-ill at.headed.called.rounding d (length at.before) b at.after e))
  first-is r k (O.block_refused b n at e s h m) = stops r k (reached-is b n at r (walk_refused at.headed.called.rounding d (length at.before) b at.after e s h m))
  first-is r k (O.output_too_short s es e l) = ap (fitting out report) e ∙ check-off (leb (length (structure_bytes s)) out) _ _ (lt-leb (length (structure_bytes s)) out l)
  first-is r k (O.report_too_short s es e l m) =
      ap (fitting out report) e
      ∙ check-on (leb (length (structure_bytes s)) out) _ _ (le-leb (length (structure_bytes s)) out l)
      ∙ check-off (leb (entry_length * length es) report) _ _ (lt-leb (entry_length * length es) report m)

-- The answer is one refusal, the first in document 01's order, or a structure.
pub ordered : (policy : ℕ) (d : Float) (sheet : List ℕ) (out report : ℕ) → Ordered policy d sheet out report
ordered policy d sheet out report = record {
  is_first = λ r k e. subst (Stops (First policy d sheet out report)) e (written-first policy d sheet out report);
  first_is = first-is policy d sheet out report;
}
