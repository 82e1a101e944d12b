-- Parts of one form in a row, as a loop over them sees them. Assumes nothing.
use mathlib.Core.Path.{◌≡◌, refl, sym, ap, ◌∙◌, subst}
use mathlib.Core.List.{List, []}
use Prim.Native.Nat.{ℕ, zero, suc, ◌+◌, ◌-◌, ◌*◌, ◌≤◌, ◌<◌}
use native.Mathlib.Omega.{arith}
use lib.ListN.{length, drop}
use Rattle.parsing.specs.Parse.{ill, part, ill_formed, times}
use Rattle.sheet.specs.Form.{Form, num}
use Rattle.block_places.specs.code.Place.{values_from, place_from, words_from}
use Rattle.forms.proofs.Step.{on, off, num-at}

one_less : (n i : ℕ) → i < n → n - i ≡ suc (n - (i + 1))
one_less n i h = omega arith

-- ---- the places

module _ (next : List ℕ → ℕ → ℕ) (b : List ℕ) where
  one_place : (n at : ℕ) → place_from next (suc n) b at ≡ place_from next n b (next b at)
  unfolding place_from
  one_place n at = refl

  no_place : (at : ℕ) → place_from next 0 b at ≡ at
  unfolding place_from
  no_place at = refl

  -- after i of n parts
  pub place-turn : (n i at : ℕ) → i < n → place_from next (n - i) b at ≡ place_from next (n - (i + 1)) b (next b at)
  place-turn n i at h = ap (λ (k : ℕ). place_from next k b at) (one_less n i h) ∙ one_place (n - (i + 1)) at

  pub place_end : (n i at : ℕ) → n ≤ i → place_from next (n - i) b at ≡ at
  place_end n i at h = ap (λ (k : ℕ). place_from next k b at) none ∙ no_place at
    where
      none : n - i ≡ 0
      none = omega arith

  -- where each part ends after it begins
  pub place_after : ((at : ℕ) → at ≤ next b at) → (n at : ℕ) → at ≤ place_from next n b at
  unfolding place_from
  place_after g zero at = omega arith
  place_after g (suc n) at = let x = g at in let y = place_after g n (next b at) in omega arith

-- ---- the values

module _ {A : Type 0} (p : Form A) (value : List ℕ → ℕ → A) (next : List ℕ → ℕ → ℕ) (b : List ℕ) where
  -- i of n parts from `from` on are read, and `at` is reached: what the rest gives decides
  pub record Left (n from i at : ℕ) : Type 0 where
    pub good : (r : List ℕ) → times (n - i) p (drop at b) ≡ part (values_from value next (n - i) b at) r
        → times n p (drop from b) ≡ part (values_from value next n b from) r
    pub bad : times (n - i) p (drop at b) ≡ ill ill_formed → times n p (drop from b) ≡ ill ill_formed
    pub place : place_from next n b from ≡ place_from next (n - i) b at

  pub left-start : (n from : ℕ) → Left n from 0 from
  left-start n from =
      record {
        good = λ r e. subst (λ (k : ℕ). times k p (drop from b) ≡ part (values_from value next k b from) r) all e;
        bad = λ e. subst (λ (k : ℕ). times k p (drop from b) ≡ ill ill_formed) all e;
        place = ap (λ (k : ℕ). place_from next k b from) (sym all);
      }
    where
      all : n - 0 ≡ n
      all = omega arith

  one-good : (n at : ℕ) (r : List ℕ) → p (drop at b) ≡ part (value b at) (drop (next b at) b)
      → times n p (drop (next b at) b) ≡ part (values_from value next n b (next b at)) r
      → times (suc n) p (drop at b) ≡ part (values_from value next (suc n) b at) r
  unfolding times values_from
  one-good n at r e f = on _ _ e (on _ _ f refl)

  one-bad : (n at : ℕ) → p (drop at b) ≡ part (value b at) (drop (next b at) b) → times n p (drop (next b at) b) ≡ ill ill_formed
      → times (suc n) p (drop at b) ≡ ill ill_formed
  unfolding times
  one-bad n at e f = on _ _ e (off _ _ f)

  one-ill : (n at : ℕ) → p (drop at b) ≡ ill ill_formed → times (suc n) p (drop at b) ≡ ill ill_formed
  unfolding times
  one-ill n at e = off _ _ e

  none-good : (at : ℕ) → times 0 p (drop at b) ≡ part (values_from value next 0 b at) (drop at b)
  unfolding times values_from
  none-good at = refl

  module _ (n from i at : ℕ) (l : Left n from i at) where
    -- one part more, or an ill-formed one
    module _ (h : i < n) where
      pub left-turn : p (drop at b) ≡ part (value b at) (drop (next b at) b) → Left n from (i + 1) (next b at)
      left-turn e =
          record {
            good = λ r f. l.good r (subst (λ (k : ℕ). times k p (drop at b) ≡ part (values_from value next k b at) r) (sym (one_less n i h)) (one-good (n - (i + 1)) at r e f));
            bad = λ f. l.bad (subst (λ (k : ℕ). times k p (drop at b) ≡ ill ill_formed) (sym (one_less n i h)) (one-bad (n - (i + 1)) at e f));
            place = l.place ∙ place-turn next b n i at h;
          }

      pub left-ill : p (drop at b) ≡ ill ill_formed → times n p (drop from b) ≡ ill ill_formed
      left-ill e = l.bad (subst (λ (k : ℕ). times k p (drop at b) ≡ ill ill_formed) (sym (one_less n i h)) (one-ill (n - (i + 1)) at e))

    -- all are read
    module _ (h : n ≤ i) where
      pub left_end : times n p (drop from b) ≡ part (values_from value next n b from) (drop at b)
      left_end = l.good (drop at b) (subst (λ (k : ℕ). times k p (drop at b) ≡ part (values_from value next k b at) (drop at b)) none (none-good at))
        where
          none : 0 ≡ n - i
          none = omega arith

      pub left-place : place_from next n b from ≡ at
      left-place = l.place ∙ place_end next b n i at h

-- ---- n numbers of 2 bytes

pub words-at : (n : ℕ) (b : List ℕ) (at to : ℕ) → at + 2 * n ≡ to → to ≤ length b → times n (num 2) (drop at b) ≡ part (words_from n b at) (drop to b)
unfolding times values_from
words-at zero b at to e h = ap (λ (k : ℕ). part [] (drop k b)) same
  where
    same : at ≡ to
    same = omega arith
words-at (suc n) b at to e h = on _ _ (num-at 2 b at (at + 2) refl (omega arith)) (on _ _ (words-at n b (at + 2) to (omega arith) h) refl)
