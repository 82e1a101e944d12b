-- The answer is the first refusal in document 02's order, or a file (specs/Order). Assumes nothing.
use mathlib.Core.Path.{◌≡◌, refl, sym, ap, ◌∙◌, subst}
use mathlib.Core.Option.{Option, none, some}
use mathlib.Core.List.{List, [], ◌∷◌, ◌++◌, append_assoc}
use Prim.Native.Nat.{ℕ, suc, ◌+◌, ◌*◌}
use native.Mathlib.Omega.{arith}
use borrow.Author.Tests.{le-leb, lt-leb}
use lib.Dec.{T, leb, leb→le}
use lib.ListN.{length}
use lib.Ieee.{Float}
use lib.Ieee.Bits.{is_true as on}
use lib.Ieee.Positive.{positive}
use Rattle.refusal.specs.declared.Refusal.{Refusal}
use Rattle.refusal.specs.declared.Refusal.TheVariants as R
use Rattle.parsing.specs.All.{All, done, more}
use Rattle.conversion.specs.declared.GdsRoundingPolicy.{GdsRoundingPolicy}
use Rattle.conversion.specs.Made.{Made, refused}
use Rattle.conversion.proofs.PolicyLaws.{caller-unnamed, caller-with, caller-unit}
use Rattle.sheet.specs.Blocks.{pairs_fit, block_of}
use Rattle.sheet.specs.Library.{LibraryHead, library_head_of, cell_sheets}
use Rattle.stream.specs.Structure.{Structure}
use Rattle.stream.specs.Library.{FileHead}
use Rattle.cell.specs.Stamps.{stamps_fit}
use Rattle.cell.specs.Call.{checked_call}
use Rattle.cell.specs.Cell as C
use Rattle.cell.specs.Cell.{write_sheet}
use Rattle.cell.specs.Order.{Called}
use Rattle.cell.proofs.OrderLaws.{off, not-leb, all_snoc, length-snoc}
use Rattle.cell.proofs.CallLaws.{call-refused, call_long, call-passed, Calling, unnamed, no_unit, too_long, passes, calling}
use Rattle.library.specs.Library.{Result, stopped, written, WrittenCell, in_front, write_one, write_cells, LibraryFile, max_library_name_length, file_with, file_head_for, file_head_of, write_named, write_headed, write_library_sheet, after_caller, library_file, file_bytes, library_entry_length, entries_in, fitting, write_library, no_cell}
use Rattle.library.specs.Order.{Accepted, Encodable, UnitsRefused, user_not_positive, user_not_encodable, database_not_encodable, Formed, Headed, Reached, First, Ordered}
use Rattle.library.specs.Order as O
use Rattle.library.proofs.ResultLaws.{Stops, check-stops, check-on, check-off}
use Rattle.library.proofs.CellsLaws.{walk_refused, walk-written}
use Rattle.library.proofs.FileLaws.{Encoding, refusing, encoding, encodes}

module _ (policy : ℕ) (d : Float) (sheet : List ℕ) (out report : ℕ) where
  -- ---- every refusal is the first

  abbrev pub Firsts : {A : Type 0} → Result A → Type 0
  Firsts = Stops (First policy d sheet out report)

  cells-first : (at : Headed policy d sheet) (before rest : List (List ℕ)) → cell_sheets sheet ≡ before ++ rest → All (Accepted at.formed.called.rounding d) before
      → Firsts (write_cells at.formed.called.rounding d (length before) rest)
  unfolding write_cells write_one
  cells-first at before [] s a = tt
  cells-first at before (b ∷ bs) s a =
      go (write_cells at.formed.called.rounding d (suc (length before)) bs)
      (λ k. subst (λ (n : ℕ). Firsts (write_cells at.formed.called.rounding d n bs)) (length-snoc b before)
      (cells-first at (before ++ b ∷ []) bs (s ∙ sym (append_assoc before (b ∷ []) bs)) (all_snoc before a k)))
      (write_sheet at.formed.called.rounding d b) refl
    where
      reached : Reached policy d sheet b (length before)
      reached = record { headed = at; before = before; after = bs; split = s; cell = refl; accepted = a }

      front : (w : WrittenCell) (x : Result (List WrittenCell)) → Firsts x → Firsts (in_front w x)
      front w (stopped r c k) h = h
      front w (written ws) h = tt

      go : (others : Result (List WrittenCell)) → (Accepted at.formed.called.rounding d b → Firsts others)
          → (x : C.Result Structure) → write_sheet at.formed.called.rounding d b ≡ x → Firsts (write_one (length before) x others)
      go others next (C.stopped r k) h = O.cell_refused b (length before) reached r k h
      go others next (C.written t es) h = front (record { structure = t; entries = es }) others (next (record { structure = t; entries = es; writes = h }))

  named-first : (at : Formed policy d sheet) → T (stamps_fit at.head.stamps) → (x : Option FileHead) → Encoding d at.head x → Firsts (write_named at.called.rounding d sheet at.head x)
  unfolding write_named
  named-first at t x (refusing u) = O.head_units at t u
  named-first at t x (encoding e) =
      check-stops _ (leb (length at.head.name) max_library_name_length) R.LibraryName _ (λ no. O.head_name at t e (not-leb (length at.head.name) max_library_name_length no))
      (λ n. whole (write_cells at.called.rounding d 0 (cell_sheets sheet))
      (cells-first (record { formed = at; stamps = t; units = e; name = leb→le (length at.head.name) max_library_name_length n }) [] (cell_sheets sheet) refl done))
    where
      whole : (x : Result (List WrittenCell)) → Firsts x → Firsts (file_with (file_head_for at.head e.user e.database) x)
      whole (stopped r c k) f = f
      whole (written ws) f = tt

  headed-first : (at : Called policy d sheet) → T (pairs_fit sheet) → (x : Option LibraryHead) → library_head_of (block_of sheet 0) ≡ x → Firsts (write_headed at.rounding d sheet x)
  unfolding write_headed
  headed-first at p none e = O.head_ill_formed at p e
  headed-first at p (some h) e =
      let formed : Formed policy d sheet = record { called = at; pairs = p; head = h; held = e } in
      check-stops _ (stamps_fit h.stamps) R.Stamp _ (λ no. O.head_stamps formed no)
      (λ t. named-first formed t (file_head_of d h) (encodes d h))

  pub measured-first : Firsts (library_file policy d sheet)
  unfolding library_file after_caller write_library_sheet
  measured-first = go (checked_call policy d sheet) (calling policy d sheet)
    where
      go : (m : Made GdsRoundingPolicy) → Calling policy d sheet m → Firsts (after_caller m d sheet)
      go m (unnamed e) = O.policy_above3 e
      go m (no_unit rounding e never) = O.unit_not_positive rounding e never
      go m (too_long rounding e u l) = O.sheet_too_long rounding e u l
      go m (passes at) = check-stops _ (pairs_fit sheet) R.LibraryForm _ (λ no. O.pairs_ill_formed at no) (λ p. headed-first at p (library_head_of (block_of sheet 0)) refl)

  written-first : Firsts (write_library policy d sheet out report)
  unfolding write_library fitting
  written-first = go (library_file policy d sheet) refl measured-first
    where
      go : (x : Result LibraryFile) → library_file policy d sheet ≡ x → Firsts x → Firsts (fitting out report x)
      go (stopped r c k) e f = f
      go (written l) e f =
          check-stops _ (leb (length (file_bytes l)) out) R.OutputShort _ (λ no. O.output_too_short l e (not-leb (length (file_bytes l)) out no))
          (λ m. check-stops _ (leb (library_entry_length * entries_in l.cells) report) R.ReportShort _
          (λ no. O.report_too_short l e (leb→le (length (file_bytes l)) out m) (not-leb (library_entry_length * entries_in l.cells) report no)) (λ n. tt))

  -- ---- what is first is the refusal

  module _ (at : Called policy d sheet) where
    -- 1 to 3 have passed: the rest is the library from its 23 on
    called_is : library_file policy d sheet ≡ write_library_sheet at.rounding d sheet
    unfolding library_file after_caller
    called_is = ap (λ (m : Made GdsRoundingPolicy). after_caller m d sheet) (call-passed policy d sheet at)

    -- and the pairs
    paired_is : (x : Option LibraryHead) → T (pairs_fit sheet) → library_head_of (block_of sheet 0) ≡ x → library_file policy d sheet ≡ write_headed at.rounding d sheet x
    unfolding write_library_sheet
    paired_is x p e = called_is ∙ check-on (pairs_fit sheet) _ _ (on (pairs_fit sheet) p) ∙ ap (λ (y : Option LibraryHead). write_headed at.rounding d sheet y) e

  module _ (at : Formed policy d sheet) where
    formed-is : library_file policy d sheet ≡ write_headed at.called.rounding d sheet (some at.head)
    formed-is = paired_is at.called (some at.head) at.pairs at.held

    -- and the library's stamps
    stamped-is : T (stamps_fit at.head.stamps) → library_file policy d sheet ≡ write_named at.called.rounding d sheet at.head (file_head_of d at.head)
    unfolding write_headed
    stamped-is t = formed-is ∙ check-on (stamps_fit at.head.stamps) _ _ (on (stamps_fit at.head.stamps) t)

    -- 24
    units-off : UnitsRefused at.head.user_unit d → file_head_of d at.head ≡ none
    units-off u = go (file_head_of d at.head) (encodes d at.head) u
      where
        go : (x : Option FileHead) → Encoding d at.head x → UnitsRefused at.head.user_unit d → x ≡ none
        go x (refusing v) u = refl
        go x (encoding e) (user_not_positive n) = absurd (n e.positive-user)
        go x (encoding e) (user_not_encodable n) = let f = e.user-is in let z : ◌≡◌ {A = ℕ} 0 1 = cc in absurd (omega arith)
        go x (encoding e) (database_not_encodable n) = let f = e.database-is in let z : ◌≡◌ {A = ℕ} 0 1 = cc in absurd (omega arith)

    units-on : (e : Encodable at.head.user_unit d) → file_head_of d at.head ≡ some (file_head_for at.head e.user e.database)
    units-on e = go (file_head_of d at.head) (encodes d at.head)
      where
        never : {X : Type 0} → UnitsRefused at.head.user_unit d → X
        never (user_not_positive n) = absurd (n e.positive-user)
        never (user_not_encodable n) = let f = e.user-is in let z : ◌≡◌ {A = ℕ} 0 1 = cc in absurd (omega arith)
        never (database_not_encodable n) = let f = e.database-is in let z : ◌≡◌ {A = ℕ} 0 1 = cc in absurd (omega arith)

        go : (x : Option FileHead) → Encoding d at.head x → x ≡ some (file_head_for at.head e.user e.database)
        go x (refusing v) = never v
        go x (encoding f) =
            let u : f.user ≡ e.user = cc (f.user-is, e.user-is) in
            let b : f.database ≡ e.database = cc (f.database-is, e.database-is) in
            cc (u, b)

    encoded-is : T (stamps_fit at.head.stamps) → (e : Encodable at.head.user_unit d)
        → library_file policy d sheet ≡ write_named at.called.rounding d sheet at.head (some (file_head_for at.head e.user e.database))
    encoded-is t e = stamped-is t ∙ ap (write_named at.called.rounding d sheet at.head) (units-on e)

  -- and the head
  headed-is : (at : Headed policy d sheet) → library_file policy d sheet
      ≡ file_with (file_head_for at.formed.head at.units.user at.units.database) (write_cells at.formed.called.rounding d 0 (cell_sheets sheet))
  unfolding write_named
  headed-is at =
      encoded-is at.formed at.stamps at.units
      ∙ check-on (leb (length at.formed.head.name) max_library_name_length) _ _ (le-leb (length at.formed.head.name) max_library_name_length at.name)

  -- the cells before are accepted, so the walk goes on to the rest
  past : (rounding : GdsRoundingPolicy) (i j : ℕ) (before rest : List (List ℕ)) (r : Refusal) (c k : ℕ) → j ≡ i + length before → All (Accepted rounding d) before
      → write_cells rounding d j rest ≡ stopped r c k → write_cells rounding d i (before ++ rest) ≡ stopped r c k
  past rounding i j [] rest r c k n done e =
      let z : i ≡ j = omega arith in
      ap (λ (m : ℕ). write_cells rounding d m rest) z ∙ e
  past rounding i j (b ∷ before) rest r c k n (more a rest-accepted) e =
      walk-written rounding d i b (before ++ rest) a.structure a.entries a.writes
      ∙ ap (in_front (record { structure = a.structure; entries = a.entries })) (past rounding (suc i) j before rest r c k (omega arith) rest-accepted e)

  reached-is : (b : List ℕ) (c : ℕ) (at : Reached policy d sheet b c) (r : Refusal) (k : ℕ)
      → write_cells at.headed.formed.called.rounding d (length at.before) (b ∷ at.after) ≡ stopped r (length at.before) k → library_file policy d sheet ≡ stopped r c k
  reached-is b c at r k e =
      let rounding = at.headed.formed.called.rounding in
      let f = file_head_for at.headed.formed.head at.headed.units.user at.headed.units.database in
      headed-is at.headed
      ∙ ap (λ (bs : List (List ℕ)). file_with f (write_cells rounding d 0 bs)) at.split
      ∙ ap (file_with f) (past rounding 0 (length at.before) at.before (b ∷ at.after) r (length at.before) k (omega arith) at.accepted e)
      ∙ ap (λ (i : ℕ). stopped r i k) (sym at.cell)

  -- what the caller's checks refuse is a refusal of measuring
  call-stops : (r : Refusal) → checked_call policy d sheet ≡ refused r → library_file policy d sheet ≡ stopped r no_cell 0
  unfolding library_file after_caller
  call-stops r e = ap (λ (m : Made GdsRoundingPolicy). after_caller m d sheet) e

  -- a refusal of measuring is one of writing
  stops : (r : Refusal) (c k : ℕ) → library_file policy d sheet ≡ stopped r c k → write_library policy d sheet out report ≡ stopped r c k
  unfolding write_library fitting
  stops r c k e = ap (fitting out report) e

  first-is : (r : Refusal) (c k : ℕ) → First policy d sheet out report r c k → write_library policy d sheet out report ≡ stopped r c k
  unfolding write_library fitting write_library_sheet write_headed write_named
  first-is r c k (O.policy_above3 e) = stops r c k (call-stops r (call-refused policy d sheet r (caller-unnamed policy d e)))
  first-is r c k (O.unit_not_positive rounding e never) = stops r c k (call-stops r (call-refused policy d sheet r (caller-unit policy d rounding e (off (positive d) never))))
  first-is r c k (O.sheet_too_long rounding e u l) = stops r c k (call-stops r (call_long policy d sheet rounding (caller-with policy d rounding e (on (positive d) u)) l))
  first-is r c k (O.pairs_ill_formed at never) = stops r c k (called_is at ∙ check-off (pairs_fit sheet) _ _ (off (pairs_fit sheet) never))
  first-is r c k (O.head_ill_formed at p e) = stops r c k (paired_is at none p e)
  first-is r c k (O.head_stamps at never) = stops r c k (formed-is at ∙ check-off (stamps_fit at.head.stamps) _ _ (off (stamps_fit at.head.stamps) never))
  first-is r c k (O.head_units at t u) = stops r c k (stamped-is at t ∙ ap (write_named at.called.rounding d sheet at.head) (units-off at u))
  first-is r c k (O.head_name at t e l) =
      stops r c k (encoded-is at t e ∙ check-off (leb (length at.head.name) max_library_name_length) _ _ (lt-leb (length at.head.name) max_library_name_length l))
  first-is r c k (O.cell_refused s i at x j e) = stops r c k (reached-is s i at r k (walk_refused at.headed.formed.called.rounding d (length at.before) s at.after x j e))
  first-is r c k (O.output_too_short l e m) = ap (fitting out report) e ∙ check-off (leb (length (file_bytes l)) out) _ _ (lt-leb (length (file_bytes l)) out m)
  first-is r c k (O.report_too_short l e m n) =
      ap (fitting out report) e
      ∙ check-on (leb (length (file_bytes l)) out) _ _ (le-leb (length (file_bytes l)) out m)
      ∙ check-off (leb (library_entry_length * entries_in l.cells) report) _ _ (lt-leb (library_entry_length * entries_in l.cells) report n)

-- The answer is one refusal, the first in document 02's order, or a file.
pub ordered : (policy : ℕ) (d : Float) (sheet : List ℕ) (out report : ℕ) → Ordered policy d sheet out report
ordered policy d sheet out report = record {
  is_first = λ r c k e. subst (Stops (First policy d sheet out report)) e (written-first policy d sheet out report);
  first_is = first-is policy d sheet out report;
}
