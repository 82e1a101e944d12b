-- Writing an element: its body by the kind, its tail after the body, the options behind the first record, and the room that all have. Assumes nothing.
use mathlib.Core.Path.{◌≡◌, refl, sym, ap, ap₂, ◌∙◌, subst}
use mathlib.Core.Bool.{Bool, true, false}
use mathlib.Core.Option.{some}
use mathlib.Core.List.{List, ◌++◌, append_assoc}
use Prim.Native.Nat.{ℕ, ◌+◌, ◌-◌, ◌≤◌}
use native.Mathlib.Omega.{arith}
use lib.ListN.{length, take, drop, length-append}
use lib.Seq.{length-take-le, take_at, drop_at, drop-drop}
use lib.Ieee.{Float}
use Rattle.big_endian.specs.Big.{number_at}
use Rattle.big_endian.specs.Buffer.{splice, WroteAt}
use Rattle.big_endian.proofs.BufferLaws.{from_zero, length_at, part_at, same_bytes}
use Rattle.big_endian.proofs.PlaceLaws.{move}
use Rattle.conversion.specs.declared.Entry.{Entry}
use Rattle.conversion.specs.declared.Deviation.{Deviation}
use Rattle.conversion.specs.declared.GdsRoundingPolicy.{GdsRoundingPolicy}
use Rattle.conversion.specs.code.Fold.{blank_entry, noted_all}
use Rattle.conversion.specs.Made.{Made, refused, made}
use Rattle.conversion.proofs.MadeLaws.{Yields, made_yields, steps}
use Rattle.sheet.specs.Element.{plain_kind, element_of}
use Rattle.stream.specs.Structure as D
use Rattle.stream.specs.Records.{element_bytes}
use Rattle.cell.specs.Write.{flags_fit, write_body, write_properties, write_element}
use Rattle.steps.specs.declared.Written.{Written}
use Rattle.steps.specs.code.Steps.{Succeeds, Writes}
use Rattle.steps.proofs.StepLaws.{yields, succeeds, write-both}
use Rattle.records.specs.code.Bytes.{record_head}
use Rattle.block_places.specs.declared.BodyPlaces.{BodyPlaces}
use Rattle.block_places.specs.declared.PropertyPlaces.{PropertyPlaces}
use Rattle.block_places.specs.declared.Options.{Options}
use Rattle.block_places.specs.declared.ElementPlaces.{ElementPlaces}
use Rattle.std.specs.Prelude.{Some}
use Rattle.block_places.specs.code.Place.{place_from, property_end}
use Rattle.block_places.specs.code.Places.{body_at, properties_at, flags_of, shifted, body_end_in, element_places, ElementIn}
use Rattle.forms.specs.code.Checks.{ElementRead}
use Rattle.forms.proofs.OptionLaws.{kind-within, kind-read}
use Rattle.forms.proofs.HeldLaws.{Held, element-held}
use Rattle.properties.specs.code.Tail.{tail_bytes, tail_length}
use Rattle.bodies.specs.code.Body.{body_bytes, body_length}
use Rattle.bodies.proofs.LengthLaws.{body-length}
use Rattle.elements.specs.code.Block.{Parts, write_parts, parts_bytes, options_length, options_bytes, PutsOptions, Fits, WritesBlock}
use Rattle.elements.proofs.LengthLaws.{tail-length}
use Rattle.elements.proofs.OptionLaws.{first_bytes, rest_bytes, parts-bytes, joined, element-bytes, first-length, options-length, element-length, element_with, mapped, flags-refused, by_parts}

-- ---- the parts

join : D.SaidBody → List D.Property → Parts
join a qs = record { body = a; properties = qs }

module _ (policy : GdsRoundingPolicy) (d : Float) (b : List ℕ) (s : BodyPlaces) (q : PropertyPlaces) where
  abbrev body : Made D.SaidBody
  body = write_body policy d (body_at b s)

  abbrev tail : Made (List D.Property)
  tail = write_properties (properties_at b q)

  pub tail-inside : ElementIn b s q → place_from property_end q.count b q.place ≤ length b
  tail-inside i = let k = i.properties-in.last-in in omega arith

  module _ (y : Succeeds (write_parts policy d (body_at b s) (properties_at b q))) where
    pub body-accepted : Succeeds (write_body policy d (body_at b s))
    unfolding write_parts
    body-accepted = succeeds (steps (yields y)).first

    pub tail-accepted : Succeeds (write_properties (properties_at b q))
    unfolding write_parts
    tail-accepted = succeeds (steps (steps (yields y)).then).first

  -- after the body, written from the entry e on
  module _ (i : ElementIn b s q) (part : List ℕ) (l : body_length b s + tail_length q.count b q.place ≤ length part) (e : Entry) {cur : List ℕ} {t : Written}
      (u : Writes body_bytes e (write_body policy d (body_at b s)) 0 part cur t) where
    pub tail-fits : t.to + tail_length q.count b q.place ≤ length cur
    tail-fits =
        let a = length_at u.wrote in
        let c = u.wrote.count in
        let m = body-length policy d b s u.step.value u.step.deviations i.body-in u.step.makes in
        omega arith

    pub parts-put : {last : List ℕ} {x : Written} → Writes tail_bytes t.entry (write_properties (properties_at b q)) t.to cur last x
        → Writes parts_bytes e (write_parts policy d (body_at b s) (properties_at b q)) 0 part last x
    unfolding write_parts parts_bytes join
    parts-put v = write-both body_bytes tail_bytes parts_bytes join (λ w qs. refl) e body tail u v

  -- the length of both, by the block
  parts-length : ElementIn b s q → (p : Parts) (vs : List Deviation) → write_parts policy d (body_at b s) (properties_at b q) ≡ made p vs → length (parts_bytes p) ≡ body_length b s + tail_length q.count b q.place
  unfolding write_parts parts_bytes
  parts-length i p vs h =
      let k = steps (record { log = vs; is = h }) in
      let l = steps k.then in
      let x = body-length policy d b s k.value k.first.log i.body-in k.first.is in
      let y = tail-length q.count b q.place l.value l.first.log (tail-inside i) l.first.is in
      ap (λ (r : Parts). length (parts_bytes r)) (sym (made_yields l.then)) ∙ length-append (body_bytes k.value) (tail_bytes l.value) ∙ ap₂ ◌+◌ x y

-- ---- the options

-- a run f ++ r that stands at n, with its front put to the start and the run o, of n bytes, behind that
first-forward : (f o r : List ℕ) {d d₁ d₂ : List ℕ} {n to end : ℕ} → length o ≡ n → WroteAt (f ++ r) d d₁ n to → WroteAt (take (length f) (drop n d₁) ++ o) d₁ d₂ 0 end
    → WroteAt (f ++ (o ++ r)) d d₂ 0 to
unfolding splice
first-forward f o r {d} {d₁} {d₂} {n} {to} {end} l w v = record {
  count = omega (arith, w.count, length-append f r, length-append f (o ++ r), length-append o r);
  fits = omega (arith, w.fits, length-append f r, length-append f (o ++ r), length-append o r);
  out =
      v.out ∙ ap₂ (λ (x y : List ℕ). (x ++ o) ++ y) front back
      ∙ append_assoc f o (r ++ after) ∙ ap (λ (x : List ℕ). f ++ x) (sym (append_assoc o r after)) ∙ sym (append_assoc f (o ++ r) after)
      ∙ ap (λ (x : List ℕ). (f ++ (o ++ r)) ++ x) (move d (n + length (f ++ r)) (0 + length (f ++ (o ++ r))) (omega (arith, length-append f r, length-append f (o ++ r), length-append o r)));
}
  where
    -- what is left after the run
    after : List ℕ
    after = drop (n + length (f ++ r)) d

    from-n : drop n d₁ ≡ f ++ (r ++ after)
    from-n = ap (drop n) w.out ∙ drop_at (take n d) ((f ++ r) ++ after) n (length-take-le n d (let k = w.fits in omega arith)) ∙ append_assoc f r after

    front : take (length f) (drop n d₁) ≡ f
    front = ap (take (length f)) from-n ∙ take_at f (r ++ after) (length f) refl

    back : drop (0 + length (take (length f) (drop n d₁) ++ o)) d₁ ≡ r ++ after
    back =
        move d₁ (0 + length (take (length f) (drop n d₁) ++ o)) (n + length f) (omega (arith, length-append (take (length f) (drop n d₁)) o, ap length front))
        ∙ sym (drop-drop (length f) n d₁) ∙ ap (drop (length f)) from-n ∙ drop_at f (r ++ after) (length f) refl

-- ---- the element

module _ (policy : GdsRoundingPolicy) (d : Float) (b part : List ℕ) (f : Fits policy d b (length part)) where
  held : Held b
  held = element-held b f.accepted.element f.accepted.held

  -- the block is as long as its places need
  pub places-room : body_end_in b + 2 ≤ length (shifted b)
  places-room = held.room

  pub kind-in : 1 ≤ length b
  kind-in = kind-within b f.accepted.element f.accepted.held

  -- in the block z that is left without the options
  module _ (p : ElementPlaces) (h : p ≡ element_places b) {z : List ℕ} (g : z ≡ drop p.options.shift b) where
    abbrev o : Options
    o = p.options

    abbrev s : BodyPlaces
    s = p.body

    abbrev q : PropertyPlaces
    q = p.properties

    read : ElementRead b (Some p)
    read = rw h held.read

    pub inside : ElementIn z s q
    inside = subst (λ (l : List ℕ). ElementIn l s q) (sym g) read.places.parts_in

    element : element_of b ≡ some (element_with o (body_at z s) (properties_at z q))
    element = read.form ∙ ap (λ (l : List ℕ). some (element_with o (body_at l s) (properties_at l q))) (sym g)

    accepted : Yields (write_element policy d (element_with o (body_at z s) (properties_at z q))) f.accepted.said
    accepted =
        let k = f.accepted.held in
        let y = element in
        let j : f.accepted.element ≡ element_with o (body_at z s) (properties_at z q) = cc in
        record { log = f.accepted.deviations; is = ap (write_element policy d) (sym j) ∙ f.accepted.writes }

    passed : flags_fit (flags_of o) ≡ true
    passed = go (flags_fit (flags_of o)) refl
      where
        go : (t : Bool) → flags_fit (flags_of o) ≡ t → t ≡ true
        go true e = refl
        go false e = let y = accepted.is in let n = flags-refused policy d o (body_at z s) (properties_at z q) e in let x : ◌≡◌ {A = ℕ} 0 1 = cc in absurd (omega arith)

    -- the value of both parts
    record PartsOf : Type 0 where
      parts : Parts
      deviations : List Deviation
      makes : write_parts policy d (body_at z s) (properties_at z q) ≡ made parts deviations
      said : f.accepted.said ≡ joined o parts

    parts-of : PartsOf
    unfolding accepted
    parts-of = go (write_parts policy d (body_at z s) (properties_at z q)) refl (sym (by_parts policy d o (body_at z s) (properties_at z q) passed) ∙ accepted.is)
      where
        go : (m : Made Parts) → write_parts policy d (body_at z s) (properties_at z q) ≡ m → mapped (joined o) m ≡ made f.accepted.said f.accepted.deviations → PartsOf
        go (refused r) k e = let x : ◌≡◌ {A = ℕ} 0 1 = cc in absurd (omega arith)
        go (made r vs) k e = record { parts = r; deviations = vs; makes = k; said = cc }

    pub parts-accepted : Succeeds (write_parts policy d (body_at z s) (properties_at z q))
    parts-accepted = record { value = parts-of.parts; deviations = parts-of.deviations; makes = parts-of.makes }

    -- the part holds the options, the body and the tail
    pub all_fit : options_length o + (body_length z s + tail_length q.count z q.place) ≤ length part
    all_fit =
        let k = parts-of in
        let a = ap (λ (w : D.Said). length (element_bytes w)) k.said ∙ element-length o k.parts in
        let c = parts-length policy d z s q inside k.parts k.deviations k.makes in
        let r = f.room in
        omega arith

    -- the parts are written behind n bytes, from the entry e on
    module _ (n : ℕ) (n' : n ≡ options_length o) {e : Entry} {last : List ℕ} {t : Written}
        (u : Writes parts_bytes e (write_parts policy d (body_at z s) (properties_at z q)) 0 (take (length part - n) (drop n part)) last t) where
      abbrev cur : List ℕ
      cur = take n part ++ (last ++ drop (length part - n) (drop n part))

      abbrev value : Parts
      value = u.step.value

      behind : WroteAt (parts_bytes value) part cur n (n + t.to)
      behind = part_at (let l = all_fit in omega arith) (from_zero u.wrote)

      pub end-in : n + t.to ≤ length part
      end-in = let w = behind.fits in let c = behind.count in omega arith

      pub options-room : record_head + options_length o ≤ length cur
      options-room =
          let w = behind.fits in
          omega (arith, length_at behind, ap length (parts-bytes value), length-append (first_bytes value) (rest_bytes value), first-length value)

      -- and the options after them
      pub element-put : (i k : ℕ) → k ≡ plain_kind (number_at 1 b 0) → e ≡ blank_entry i k → {after : List ℕ} {end : ℕ} → PutsOptions o cur after end → WritesBlock policy d i b part after (record { to = n + t.to; entry = t.entry })
      element-put i k h' e' {after} {end} v =
          let first = same_bytes (ap₂ (λ (j m : ℕ). take j (drop m cur) ++ options_bytes o) (sym (first-length value)) (sym n')) v.wrote in
          record {
            element = element_with o (body_at z s) (properties_at z q);
            held = element;
            writes = record {
              step = record { value = joined o value; deviations = u.step.deviations; makes = by_parts policy d o (body_at z s) (properties_at z q) passed ∙ ap (mapped (joined o)) u.step.makes };
              wrote = same_bytes (sym (element-bytes o value)) (first-forward (first_bytes value) (options_bytes o) (rest_bytes value) (options-length o ∙ sym n') (same_bytes (parts-bytes value) behind) first);
              entry = u.entry ∙ ap (λ (x : Entry). noted_all x u.step.deviations) (e' ∙ ap (blank_entry i) (h' ∙ sym (kind-read b _ element)));
            };
          }
