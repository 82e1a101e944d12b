-- Text types and properties are limited as by hand: one below, at and above each limit, and in their place in the order. Computed, and for every text, property and element by law. Assumes nothing.
use mathlib.Core.Path.{◌≡◌, refl, sym, ap, ◌∙◌}
use mathlib.Core.Bool.{Bool, true, false, ◌&&◌}
use mathlib.Core.Option.{Option, some}
use mathlib.Core.List.{List, [], ◌∷◌, ◌++◌, append-nil}
use Prim.Native.Nat.{ℕ, ◌+◌, ◌*◌, ◌≤◌, ◌<◌}
use native.Mathlib.Omega.{arith}
use borrow.Author.Tests.{le-leb, lt-leb}
use lib.Dec.{leb}
use lib.ListN.{length}
use lib.IntN.{ℤ}
use lib.Ieee.{Float}
use Rattle.refusal.specs.declared.Refusal.{Refusal}
use Rattle.refusal.specs.declared.Refusal.TheVariants as R
use Rattle.parsing.specs.All.{All, done, more}
use Rattle.units.specs.Point.{Point}
use Rattle.conversion.specs.declared.GdsRoundingPolicy.{GdsRoundingPolicy}
use Rattle.conversion.specs.declared.Deviation.{Deviation}
use Rattle.conversion.specs.Made.{Made, Done, made, refused, pure, after, need, ◌>>=◌, ◌>>◌}
use Rattle.conversion.specs.Points.{write_point}
use Rattle.conversion.specs.Field.{origin_field}
use Rattle.conversion.proofs.MadeLaws.{need-on, need-off, refused-on, then-pure, stops as off, passes, second-stops, both-pass}
use Rattle.sheet.specs.Element as S
use Rattle.stream.specs.Strings.{padded}
use Rattle.stream.specs.Structure as D
use Rattle.cell.specs.Limits.{within}
use Rattle.cell.specs.Write.{flags_fit, layer_and_type, attribute_and_length, write_properties, write_transform, write_text, write_body, write_element}
use Rattle.cell.specs.Cell.{Result, stopped, written, structure_bytes, write_cell}
use Rattle.cases.specs.Case.{halved}
use Rattle.cases.specs.Limits.{repeated}
use Rattle.cases.proofs.Open.{opened}
use Rattle.guards.specs.Sample.{sheet_of}
use Rattle.guards.specs.Values.{one}
use Rattle.option_guards.specs.Options.{head}
use Rattle.option_guards.proofs.OptionsLaws.{numbers, stops, known_stops}
use Rattle.limit_guards.specs.Limits.{Good, goods, structure_of, attributes, values, types, bodies, texts, properties, cells}

-- ---- what is written: from the sheet's bytes to the structure's

streamed : Result D.Structure → Result (List ℕ)
streamed (stopped r k) = stopped r k
streamed (written s es) = written (structure_bytes s) es

pub answers : List Good → List (Result (List ℕ))
unfolding streamed
answers [] = []
answers (g ∷ gs) = streamed (write_cell 0 one (sheet_of (head ∷ g.blocks)) 8192 8192) ∷ answers gs

pub known : List Good → List (Result (List ℕ))
known [] = []
known (g ∷ gs) = written (structure_of g.bytes) g.entries ∷ known gs

pub goods-written : answers goods ≡ known goods
unfolding opened halved repeated goods streamed answers known
goods-written = refl

-- ---- what is refused

pub attributes-refused : stops attributes ≡ known_stops attributes
unfolding opened halved repeated attributes numbers stops known_stops
attributes-refused = refl

pub values-refused : stops values ≡ known_stops values
unfolding opened halved repeated values numbers stops known_stops
values-refused = refl

pub types-refused : stops types ≡ known_stops types
unfolding opened halved repeated types numbers stops known_stops
types-refused = refl

-- ---- two faults at once

pub bodies-first : stops bodies ≡ known_stops bodies
unfolding opened halved repeated bodies numbers stops known_stops
bodies-first = refl

pub texts-hold : stops texts ≡ known_stops texts
unfolding opened halved repeated texts numbers stops known_stops
texts-hold = refl

pub properties-hold : stops properties ≡ known_stops properties
unfolding opened halved repeated properties numbers stops known_stops
properties-hold = refl

pub cells-hold : stops cells ≡ known_stops cells
unfolding opened halved repeated cells numbers stops known_stops
cells-hold = refl

-- ---- steps

refused-first : {A B : Type 0} {m : Made A} {k : Refusal} (f : A → Made B) → m ≡ refused k → m >>= f ≡ refused k
refused-first {k = k} f h = sym (refused-on _ f k (sym h))

then-refused : {A B : Type 0} {m : Made A} {k : Refusal} (n : Made B) → m ≡ refused k → m >> n ≡ refused k
unfolding ◌>>◌
then-refused n h = refused-first (λ _. n) h

then_same : {A B : Type 0} {l m : Made A} (n : Made B) → l ≡ m → l >> n ≡ m >> n
then_same n h = ap (λ (k : Made _). k >> n) h

then-done : {A B : Type 0} {m : Made A} {a : A} (n : Made B) → m ≡ pure a → m >> n ≡ n
unfolding ◌>>◌
then-done n h = then-pure (λ _. n) h refl

made_then : {A B : Type 0} {m : Made A} {a : A} {vs : List Deviation} {k : Refusal} (f : A → Made B) → m ≡ made a vs → f a ≡ refused k → m >>= f ≡ refused k
unfolding ◌>>=◌
made_then {vs = vs} f h g = ap (λ (n : Made _). n >>= f) h ∙ ap (after vs) g

-- ---- text types

-- layer and type have one number
type-off : (l t : ℕ) → 255 < t → layer_and_type l t ≡ refused R.LayerOrType
unfolding layer_and_type
type-off l t h = go (leb l 255)
  where
    go : (b : Bool) → need b R.LayerOrType >> need (leb t 255) R.LayerOrType ≡ refused R.LayerOrType
    go true = sym (second-stops true (leb t 255) R.LayerOrType R.LayerOrType refl (lt-leb t 255 h))
    go false = need-off false R.LayerOrType _ refl

type-on : (l t : ℕ) → t ≤ 255 → layer_and_type l t ≡ need (leb l 255) R.LayerOrType
unfolding layer_and_type
type-on l t h = go (leb l 255)
  where
    go : (b : Bool) → need b R.LayerOrType >> need (leb t 255) R.LayerOrType ≡ need b R.LayerOrType
    go true = sym (both-pass true (leb t 255) R.LayerOrType R.LayerOrType refl (le-leb t 255 h)) ∙ passes true R.LayerOrType refl
    go false = need-off false R.LayerOrType _ refl ∙ off false R.LayerOrType refl

abbrev Text : Type 0
Text = D.Text (Option ℕ) (Option D.Strans)

-- a text of type t, from what its two checks, its transform and its origin give, with the rest of it
said : ℕ → S.Text → Option D.Strans → Point ℤ → Text
said t e v q = record { layer = e.layer; texttype = t; presentation = some (4 * e.vertical + e.horizontal); transform = v; origin = q; string = padded e.string }

text_of : ℕ → S.Text → Made Done → Made Done → Made (Option D.Strans) → Made (Point ℤ) → Made Text
text_of t e a b u p = a >> (b >> (u >>= λ v. p >>= λ q. pure (said t e v q)))

-- the same of another type
abbrev pub typed_as : ℕ → Made Text → Made Text
typed_as t m = m >>= λ w. pure (record { layer = w.layer; texttype = t; presentation = w.presentation; transform = w.transform; origin = w.origin; string = w.string })

typed-as : (t : ℕ) (e : S.Text) (a b : Made Done) (u : Made (Option D.Strans)) (p : Made (Point ℤ)) → text_of t e a b u p ≡ typed_as t (text_of 0 e a b u p)
unfolding text_of said ◌>>◌ ◌>>=◌
typed-as t e (refused k) b u p = refl
typed-as t e (made i ds) (refused k) u p = refl
typed-as t e (made i ds) (made j es) (refused k) p = refl
typed-as t e (made i ds) (made j es) (made v fs) (refused k) = refl
typed-as t e (made i ds) (made j es) (made v fs) (made q gs) = ap (λ (vs : List Deviation). made (said t e v q) vs) (sym (append-nil (ds ++ (es ++ (fs ++ (gs ++ []))))))

module _ (r : GdsRoundingPolicy) (d : Float) (e : S.Text) where
  -- "Such a text type now gives 9", whatever else is wrong with the text
  pub type-above : 255 < e.texttype → write_body r d (S.text e) ≡ refused R.LayerOrType
  unfolding write_body write_text
  type-above h = refused-first _ (then-refused _ (type-off e.layer e.texttype h))

  -- else it is refused, or written and reported, as it is with type 0
  abbrev with_type : ℕ → S.Text
  with_type t = record { layer = e.layer; texttype = t; vertical = e.vertical; horizontal = e.horizontal; reflection = e.reflection; magnification = e.magnification; degrees = e.degrees; origin = e.origin; string = e.string }

  parts : ℕ → Made Text
  parts t =
      text_of t e (need (leb e.layer 255) R.LayerOrType) (need (leb (length e.string) 512) R.StringLength) (write_transform e.degrees e.magnification e.reflection)
      (write_point r d origin_field 0 e.origin)

  by_parts : (t : ℕ) → t ≤ 255 → write_text r d (with_type t) ≡ parts t
  unfolding write_text parts text_of said
  by_parts t h = then_same _ (type-on e.layer t h)

  pub type-carried : e.texttype ≤ 255 → write_text r d e ≡ typed_as e.texttype (write_text r d (with_type 0))
  unfolding parts
  type-carried h = by_parts e.texttype h ∙ typed-as e.texttype e _ _ _ _ ∙ ap (typed_as e.texttype) (sym (by_parts 0 (omega arith)))

-- ---- properties

-- what a property within the limits is written as
abbrev pub property_of : S.Property → D.Property
property_of q = record { attribute = q.attribute; value = padded q.value }

pub record Within (q : S.Property) : Type 0 where
  pub least : 1 ≤ q.attribute
  pub most : q.attribute ≤ 127
  pub short : length q.value ≤ 126

in-limits : (a : ℕ) → 1 ≤ a → a ≤ 127 → within 1 a 127 ≡ true
in-limits a l m = ap (λ (b : Bool). b && leb a 127) (le-leb 1 a l) ∙ le-leb a 127 m

above-limits : (a : ℕ) → 127 < a → within 1 a 127 ≡ false
above-limits a h = ap (λ (b : Bool). leb 1 a && b) (lt-leb a 127 h) ∙ off (leb 1 a)
  where
    off : (b : Bool) → b && false ≡ false
    off true = refl
    off false = refl

module _ (q : S.Property) (qs : List S.Property) where
  outside : within 1 q.attribute 127 ≡ false → write_properties (q ∷ qs) ≡ refused R.Attribute
  unfolding write_properties attribute_and_length
  outside h = then-refused _ (need-off (within 1 q.attribute 127) R.Attribute _ h)

  -- "27 attribute outside 1 to 127", whatever its value and the properties after it
  pub attribute-below : q.attribute < 1 → write_properties (q ∷ qs) ≡ refused R.Attribute
  attribute-below h = outside (ap (λ (b : Bool). b && leb q.attribute 127) (lt-leb 1 q.attribute h))

  pub attribute-above : 127 < q.attribute → write_properties (q ∷ qs) ≡ refused R.Attribute
  attribute-above h = outside (above-limits q.attribute h)

  -- "A property value above 126 bytes gives 10", whatever the properties after it
  pub value-above : 1 ≤ q.attribute → q.attribute ≤ 127 → 126 < length q.value → write_properties (q ∷ qs) ≡ refused R.StringLength
  unfolding write_properties attribute_and_length
  value-above l m h =
      then-refused _
      (sym (second-stops (within 1 q.attribute 127) (leb (length q.value) 126) R.Attribute R.StringLength (in-limits q.attribute l m) (lt-leb (length q.value) 126 h)))

  -- else they are refused, or written, as those after it
  pub within-carried : Within q → write_properties (q ∷ qs) ≡ write_properties qs >>= λ rest. pure (property_of q ∷ rest)
  unfolding write_properties attribute_and_length
  within-carried h =
      then-done _
      (sym (both-pass (within 1 q.attribute 127) (leb (length q.value) 126) R.Attribute R.StringLength (in-limits q.attribute h.least h.most) (le-leb (length q.value) 126 h.short)))

-- "properties' strings last", one after the other: those within the limits, and then as the others
abbrev pub properties_of : List S.Property → List D.Property
properties_of [] = []
properties_of (q ∷ qs) = property_of q ∷ properties_of qs

abbrev pub in_front : List D.Property → Made (List D.Property) → Made (List D.Property)
in_front ws m = m >>= λ rest. pure (ws ++ rest)

none-in-front : (m : Made (List D.Property)) → m ≡ in_front [] m
unfolding ◌>>=◌
none-in-front (refused k) = refl
none-in-front (made ws ds) = ap (λ (vs : List Deviation). made ws vs) (sym (append-nil ds))

one_more : (w : D.Property) (ws : List D.Property) (m : Made (List D.Property)) → in_front ws m >>= (λ rest. pure (w ∷ rest)) ≡ in_front (w ∷ ws) m
unfolding ◌>>=◌
one_more w ws (refused k) = refl
one_more w ws (made us ds) = ap (λ (vs : List Deviation). made (w ∷ (ws ++ us)) vs) (append-nil (ds ++ []))

pub in-turn : (ps qs : List S.Property) → All Within ps → write_properties (ps ++ qs) ≡ in_front (properties_of ps) (write_properties qs)
in-turn [] qs done = none-in-front (write_properties qs)
in-turn (p ∷ ps) qs (more h hs) =
    within-carried p (ps ++ qs) h
    ∙ ap (λ (m : Made (List D.Property)). m >>= λ rest. pure (property_of p ∷ rest)) (in-turn ps qs hs)
    ∙ one_more (property_of p) (properties_of ps) (write_properties qs)

pub first-fault : (ps qs : List S.Property) (k : Refusal) → All Within ps → write_properties qs ≡ refused k → write_properties (ps ++ qs) ≡ refused k
first-fault ps qs k h e = in-turn ps qs h ∙ refused-first _ e

-- ---- elements

module _ (r : GdsRoundingPolicy) (d : Float) (e : S.Element) (fit : flags_fit e.flags ≡ true) where
  -- where the body is refused, by that, whatever the properties
  pub body-first : (k : Refusal) → write_body r d e.body ≡ refused k → write_element r d e ≡ refused k
  unfolding write_element
  body-first k h = need-on (flags_fit e.flags) R.Flags _ fit ∙ refused-first _ h

  -- so by a text's type, whatever else is wrong with the element
  pub type-first : (t : S.Text) → e.body ≡ S.text t → 255 < t.texttype → write_element r d e ≡ refused R.LayerOrType
  type-first t h l = body-first R.LayerOrType (ap (write_body r d) h ∙ type-above r d t l)

  -- else as the properties
  pub properties-next : (k : Refusal) (w : D.SaidBody) (vs : List Deviation) → write_body r d e.body ≡ made w vs → write_properties e.properties ≡ refused k → write_element r d e ≡ refused k
  unfolding write_element
  properties-next k w vs b h = need-on (flags_fit e.flags) R.Flags _ fit ∙ made_then _ b (refused-first _ h)
