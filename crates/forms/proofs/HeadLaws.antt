-- The form of the head: one law for each way out of its check. Assumes nothing.
use mathlib.Core.Path.{◌≡◌, refl, ap, ◌∙◌}
use mathlib.Core.Bool.{Bool, true, false}
use mathlib.Core.List.{List}
use Prim.Native.Nat.{ℕ, ◌+◌, ◌≤◌, ◌<◌}
use native.Mathlib.Omega.{arith}
use lib.Dec.{leb, ltb}
use lib.ListN.{length, drop, length-drop}
use borrow.Author.Tests.{leb-true, leb-false, ltb-true, ltb-false}
use Rattle.std.specs.Prelude.{None, Some}
use Rattle.parsing.specs.Parse.{ill, part, ill_formed, ended}
use Rattle.sheet.specs.Form.{num}
use Rattle.sheet.specs.Element.{Head, head_form, head_of}
use Rattle.block_places.specs.declared.HeadPlaces.{HeadPlaces}
use Rattle.block_places.specs.code.Place.{words_from, string_at, string_end}
use Rattle.block_places.specs.code.Places.{head_at}
use Rattle.forms.specs.code.Checks.{HeadRead}
use Rattle.forms.proofs.Step.{on, off, string-at, string-long, ends, ends-not}
use Rattle.forms.proofs.Sized.{sized-num, sized-times, string-needs}
use Rattle.forms.proofs.Walk.{words-at}

module _ (b : List ℕ) where
  head-ill : head_form b ≡ ill ill_formed → HeadRead b None
  unfolding head_of
  head-ill e = record { form = ap ended e; places = tt }

  pub head-bare : length b < 2 → HeadRead b None
  unfolding head_form
  head-bare l = head-ill (off _ _ (string-needs b l))

  module _ (p : ℕ) (h : 2 ≤ length b) (e : string_end b 0 ≡ p) where
    abbrev made : Head
    made = record { name = string_at b 0; stamps = words_from 12 b p }

    head-by : p + 24 ≤ length b → head_form b ≡ part made (drop (p + 24) b)
    unfolding head_form
    head-by l = on _ _ (string-at b 0 p e (omega arith)) (on _ _ (words-at 12 b p (p + 24) refl l) refl)

    -- a long name, a short rest, or bytes left over
    pub head-other : (length b ≡ p + 24 → ⊥) → HeadRead b None
    unfolding head_form head_of
    head-other n = go (leb p (length b)) refl (ltb (length b) (p + 24)) refl
      where
        left_over : p + 24 ≤ length b → p + 24 < length b
        left_over l = omega arith

        go : (t : Bool) → leb p (length b) ≡ t → (u : Bool) → ltb (length b) (p + 24) ≡ u → HeadRead b None
        go false q u r = let x = leb-false p (length b) q in head-ill (off _ _ (string-long b 0 h (omega arith)))
        go true q true r =
            let x = leb-true p (length b) q in
            let y = ltb-true (length b) (p + 24) r in
            head-ill (on _ _ (string-at b 0 p e x) (off _ _ ((sized-times 2 12 (num 2) (sized-num 2)).short (drop p b) (simp length-drop (omega arith)))))
        go true q false r =
            let y = ltb-false (length b) (p + 24) r in
            record { form = ends-not b _ (p + 24) (head-by y) (left_over y); places = tt }

    pub head-is : (s : HeadPlaces) → length b ≡ p + 24 → s.name ≡ 0 → s.stamps ≡ p → HeadRead b (Some s)
    unfolding head_of head_at
    head-is s l p1 p2 =
        record {
          form = ends b _ (p + 24) (head-by (omega arith)) (omega arith) ∙ rw (p1, p2);
          places = record { name_in = rw p1 (omega arith); stamps-in = omega arith };
        }
