-- From a body and its properties to the element of a block: one law for each way out of its check. Assumes nothing.
use mathlib.Core.Path.{◌≡◌, refl, ap, ◌∙◌, subst}
use mathlib.Core.Bool.{false}
use mathlib.Core.Option.{Option, none, some}
use mathlib.Core.List.{List, [], ◌∷◌}
use Prim.Native.Nat.{ℕ}
use lib.ListN.{drop}
use Rattle.std.specs.Prelude.{None, Some}
use Rattle.parsing.specs.Parse.{Part, ill, part, IllFormed, pure, follow, ended, whole}
use Rattle.sheet.specs.Form.{counted}
use Rattle.sheet.specs.Element.{Property, Element, property, body_form, element_of}
use Rattle.block_places.specs.declared.PropertyPlaces.{PropertyPlaces}
use Rattle.block_places.specs.declared.Options.{Options}
use Rattle.forms.specs.declared.BodyForm.{BodyForm}
use Rattle.block_places.specs.code.Places.{body_at, properties_at, flags_of, plex_of, ElementIn}
use Rattle.forms.specs.code.Checks.{PropertiesRead, BodyRead, options_in, ElementRead}
use Rattle.forms.proofs.Step.{on, off}
use Rattle.forms.proofs.OptionLaws.{no-options, behind_options, Opened, opened, shift-within}

-- the last step of a form, at the end of a block
abbrev mapped : {A B : Type 0} → (A → B) → Option A → Option B
mapped f none = none
mapped f (some a) = some (f a)

mapped-ended : {A B : Type 0} (x : Part IllFormed ℕ A) (f : A → B) → ended (follow x (λ a. pure (f a))) ≡ mapped f (ended x)
mapped-ended (ill c) f = refl
mapped-ended (part a []) f = refl
mapped-ended (part a (c ∷ s)) f = refl

pub element-empty : (b : List ℕ) → options_in b ≡ false → ElementRead b None
element-empty b e = record { form = no-options b e; places = tt }

-- with the options o, in the block r that is left, of the kind k
module _ {b : List ℕ} {o : Options} {r : List ℕ} {k : ℕ} (w : Opened b o r k) where
  by : element_of b ≡ ended (behind_options o (body_form k) (drop 1 r))
  unfolding element_of
  by = ap ended (opened w)

  pub element-body : BodyRead k r None → ElementRead b None
  element-body v = record { form = by ∙ ap ended (off _ _ v.form); places = tt }

  -- with a body
  module _ {s : BodyForm} (v : BodyRead k r (Some s)) where
    with : List Property → Element
    with qs = record { flags = flags_of o; plex = plex_of o; body = body_at r s.places; properties = qs }

    rest : element_of b ≡ mapped with (whole (counted property) (drop s.end r))
    unfolding with
    rest = by ∙ ap ended (on _ _ v.form refl) ∙ mapped-ended (counted property (drop s.end r)) with

    pub element-properties : PropertiesRead r s.end None → ElementRead b None
    element-properties t = record { form = rest ∙ ap (mapped with) t.form; places = tt }

    pub element-is : {q : PropertyPlaces} → PropertiesRead r s.end (Some q) → ElementRead b (Some (record { options = o; body = s.places; properties = q }))
    unfolding with
    element-is {q} t =
        record {
          form = rest ∙ ap (mapped with) t.form ∙ ap (λ (z : List ℕ). some (record { flags = flags_of o; plex = plex_of o; body = body_at z s.places; properties = properties_at z q })) w.rest;
          places = record {
            options = w.options;
            shift_in = shift-within w;
            parts_in = subst (λ (z : List ℕ). ElementIn z s.places q) w.rest (record { body-in = v.places.body-in; properties-in = t.places });
          };
        }
