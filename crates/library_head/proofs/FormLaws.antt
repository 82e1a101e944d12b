-- The form of block 0: one law for each way out of its check. Assumes nothing.
use mathlib.Core.Path.{◌≡◌, refl, ap}
use mathlib.Core.Bool.{Bool, true, false}
use mathlib.Core.List.{List}
use Prim.Native.Nat.{ℕ, ◌+◌, ◌≤◌, ◌<◌}
use native.Mathlib.Omega.{arith}
use lib.Dec.{leb, ltb}
use lib.ListN.{length, drop, length-drop}
use borrow.Author.Tests.{leb-true, leb-false, ltb-true, ltb-false}
use Rattle.parsing.specs.Parse.{ill, part, ill_formed, ended, pure, times, ◌>>=◌}
use Rattle.sheet.specs.Form.{num, double}
use Rattle.sheet.specs.Library.{LibraryHead, library_head_form, library_head_of}
use Rattle.block_places.specs.code.Place.{string_at, string_end}
use Rattle.forms.proofs.Step.{on, off, string-at, string-long, double-at, ends, ends-not}
use Rattle.forms.proofs.Sized.{Sized, sized-bind, sized-double, sized-num, sized-pure, sized-times, string-needs}
use Rattle.forms.proofs.Walk.{words-at}
use Rattle.std.specs.Prelude.{Some, None}
use Rattle.library_head.specs.code.Head.{library_head_at, FormRead}

-- what follows the name: 32 bytes
after-name : (n : List ℕ) → Sized {A = LibraryHead} 32 (double >>= λ u. times 12 (num 2) >>= λ t. pure (record { name = n; user_unit = u; stamps = t }))
after-name n =
    sized-bind 8 24 32 double _ refl sized-double
    (λ u. sized-bind 24 0 24 (times 12 (num 2)) _ refl (sized-times 2 12 (num 2) (sized-num 2)) (λ t. sized-pure _))

module _ (b : List ℕ) where
  head-ill : library_head_form b ≡ ill ill_formed → FormRead b None
  unfolding library_head_of
  head-ill e = record { form = ap ended e; places = tt }

  pub head-bare : length b < 2 → FormRead b None
  unfolding library_head_form
  head-bare l = head-ill (off _ _ (string-needs b l))

  -- the user unit stands at p
  module _ (p : ℕ) (h : 2 ≤ length b) (e : string_end b 0 ≡ p) where
    head-by : p + 32 ≤ length b → library_head_form b ≡ part (library_head_at b p) (drop (p + 8 + 24) b)
    unfolding library_head_form
    head-by l =
        on _ _ (string-at b 0 p e (omega arith))
        (on _ _ (double-at b p (p + 8) refl (omega arith))
        (on _ _ (words-at 12 b (p + 8) (p + 8 + 24) refl (omega arith)) refl))

    -- a long name, a short rest, or bytes left over
    pub head-other : (length b ≡ p + 8 + 24 → ⊥) → FormRead b None
    unfolding library_head_form library_head_of
    head-other n = go (leb p (length b)) refl (ltb (length b) (p + 32)) refl
      where
        left_over : p + 32 ≤ length b → p + 8 + 24 < length b
        left_over l = omega arith

        go : (t : Bool) → leb p (length b) ≡ t → (u : Bool) → ltb (length b) (p + 32) ≡ u → FormRead b None
        go false q u r = let x = leb-false p (length b) q in head-ill (off _ _ (string-long b 0 h (omega arith)))
        go true q true r =
            let x = leb-true p (length b) q in
            let y = ltb-true (length b) (p + 32) r in
            head-ill (on _ _ (string-at b 0 p e x) ((after-name (string_at b 0)).short (drop p b) (simp length-drop (omega arith))))
        go true q false r =
            let y = ltb-false (length b) (p + 32) r in
            record { form = ends-not b _ (p + 8 + 24) (head-by y) (left_over y); places = tt }

    pub head-is : length b ≡ p + 8 + 24 → FormRead b (Some p)
    unfolding library_head_of
    head-is l = record { form = ends b _ (p + 8 + 24) (head-by (omega arith)) (omega arith); places = record { name_in = omega arith; stamps-in = omega arith } }
