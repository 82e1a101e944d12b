-- The properties by their places, to the end of the block: one law for each way out of their check. Assumes nothing.
use mathlib.Core.Path.{◌≡◌, refl, sym, ap, ◌∙◌, subst}
use mathlib.Core.List.{List}
use Prim.Native.Nat.{ℕ, ◌+◌, ◌-◌, ◌≤◌, ◌<◌}
use native.Mathlib.Omega.{arith}
use lib.ListN.{length, drop, length-drop}
use Rattle.std.specs.Prelude.{None, Some}
use Rattle.big_endian.specs.Big.{number_at}
use Rattle.parsing.specs.Parse.{Part, ill, part, IllFormed, ill_formed, ended, times}
use Rattle.sheet.specs.Form.{Form, num, string, counted}
use Rattle.sheet.specs.Element.{property}
use Rattle.block_places.specs.code.Place.{place_from, property_at, property_end, properties_from}
use Rattle.forms.specs.code.Checks.{PropertiesRead}
use Rattle.forms.proofs.Step.{on, off, num-at, string-at, string-long, ends, ends-not}
use Rattle.forms.proofs.Sized.{sized-num, needs-bind, needs-front, string-needs, counted-needs}
use Rattle.forms.proofs.Walk.{place-turn, place_after}

-- ---- one property

module _ (b : List ℕ) (at : ℕ) where
  pub property-is : property_end b at ≤ length b → property (drop at b) ≡ part (property_at b at) (drop (property_end b at) b)
  unfolding property property_at
  property-is h = on _ _ (num-at 2 b at (at + 2) refl (omega arith)) (on _ _ (string-at b (at + 2) (property_end b at) refl h) refl)

  pub property-long : at + 4 ≤ length b → length b < property_end b at → property (drop at b) ≡ ill ill_formed
  unfolding property
  property-long h l = on _ _ (num-at 2 b at (at + 2) refl (omega arith)) (off _ _ (string-long b (at + 2) (omega arith) l))

  pub property-short : at ≤ length b → length b < at + 4 → property (drop at b) ≡ ill ill_formed
  unfolding property
  property-short h l = needs-bind 2 2 4 (num 2) _ refl (sized-num 2) (λ a. needs-front 2 string _ string-needs) (drop at b) (simp length-drop (omega arith))

-- while properties are left that end with the block, the next one lies in it: for loops over them
pub property-in : (b : List ℕ) (n i at : ℕ) → i < n → place_from property_end (n - i) b at ≡ length b
    → (property_end b at ≤ length b) × (place_from property_end (n - (i + 1)) b (property_end b at) ≡ length b)
property-in b n i at h e =
    let f : place_from property_end (n - (i + 1)) b (property_end b at) ≡ length b = sym (place-turn property_end b n i at h) ∙ e in
    let g = place_after property_end b (λ k. omega arith) (n - (i + 1)) (property_end b at) in
    (omega arith, f)

-- ---- a count, and as many parts

pub counted-at : {A : Type 0} (p : Form A) (b : List ℕ) (at n : ℕ) {z : Part IllFormed ℕ (List A)} → at + 2 ≤ length b → n ≡ number_at 2 b at → times n p (drop (at + 2) b) ≡ z
    → counted p (drop at b) ≡ z
unfolding counted
counted-at p b at n {z} h e f = on _ _ (num-at 2 b at (at + 2) refl h) (subst (λ (k : ℕ). times k p (drop (at + 2) b) ≡ z) e f)

module _ (b : List ℕ) (at : ℕ) where
  pub properties-short : at ≤ length b → length b < at + 2 → PropertiesRead b at None
  properties-short h l = record { form = ap ended (counted-needs property (drop at b) (simp length-drop (omega arith))); places = tt }

  module _ (n : ℕ) (h : at + 2 ≤ length b) (e : n ≡ number_at 2 b at) where
    pub properties-ill : times n property (drop (at + 2) b) ≡ ill ill_formed → PropertiesRead b at None
    properties-ill f = record { form = ap ended (counted-at property b at n h e f); places = tt }

    module _ (end : ℕ) (f : times n property (drop (at + 2) b) ≡ part (properties_from n b (at + 2)) (drop end b)) where
      pub properties-long : end ≤ length b → (end ≡ length b → ⊥) → PropertiesRead b at None
      properties-long l g = record { form = ends-not b _ end (counted-at property b at n h e f) (less end (length b) l g); places = tt }
        where
          less : (i j : ℕ) → i ≤ j → (i ≡ j → ⊥) → i < j
          less i j h g = omega arith

      pub properties-are : place_from property_end n b (at + 2) ≡ end → end ≡ length b → PropertiesRead b at (Some (record { count = n; place = at + 2 }))
      properties-are g l = record { form = ends b _ end (counted-at property b at n h e f) l; places = record { first-in = h; last-in = g ∙ l } }
