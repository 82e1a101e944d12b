-- An element's parts measured in turn: its body, then its properties. Assumes nothing.
use mathlib.Core.Path.{◌≡◌, refl, sym, ap, ap₂, ◌∙◌}
use mathlib.Core.Bool.{true, false}
use mathlib.Core.List.{List, ◌++◌}
use Prim.Native.Nat.{ℕ, ◌+◌, ◌*◌, ◌≤◌}
use native.Mathlib.Omega.{arith}
use lib.ListN.{length, drop}
use lib.Ieee.{Float}
use Rattle.big_endian.specs.Big.{number_at}
use Rattle.std.specs.Prelude as Code
use Rattle.std.specs.Prelude.{Result, Ok, Err, Some, None}
use Rattle.std.specs.Option.{ok_or}
use Rattle.std.specs.Result.{is_err}
use Rattle.refusal.specs.declared.Refusal.{Refusal}
use Rattle.refusal.specs.declared.Refusal.TheVariants as R
use Rattle.conversion.specs.declared.Deviation.{Deviation}
use Rattle.conversion.specs.declared.GdsRoundingPolicy.{GdsRoundingPolicy}
use Rattle.conversion.specs.declared.Entry.{Entry}
use Rattle.conversion.specs.Made.{Made, refused, made}
use Rattle.conversion.specs.code.Fold.{blank_entry, noted_all, run}
use Rattle.sheet.specs.Element.{Body, kind_of, plain_kind, element_of}
use Rattle.stream.specs.Structure.{Property, SaidBody, Said}
use Rattle.stream.specs.Records.{element_bytes}
use Rattle.cell.specs.Write.{flags_fit, write_body, write_properties}
use Rattle.steps.specs.declared.Measured.{Measured}
use Rattle.steps.specs.code.Steps.{through, sizing, Measures}
use Rattle.steps.proofs.StepLaws.{measure-first-refused, measure-second-refused, measure-both}
use Rattle.block_places.specs.declared.BodyPlaces.{BodyPlaces}
use Rattle.block_places.specs.declared.PropertyPlaces.{PropertyPlaces}
use Rattle.block_places.specs.declared.ElementPlaces.{ElementPlaces}
use Rattle.block_places.specs.code.Place.{place_from, property_end}
use Rattle.block_places.specs.code.Places.{body_at, properties_at, flags_of, ElementIn}
use Rattle.forms.specs.code.Checks.{ElementRead}
use Rattle.forms.proofs.OptionLaws.{kind-within, kind-read}
use Rattle.properties.specs.code.Tail.{tail_bytes}
use Rattle.bodies.specs.code.Body.{body_bytes}
use Rattle.elements.specs.code.Block.{Parts, write_parts, parts_bytes, options_length, longer, measured_block, Short}
use Rattle.bodies.proofs.LengthLaws.{body-length, body-short}
use Rattle.elements.proofs.LengthLaws.{tail-length, tail-short}
use Rattle.elements.proofs.OptionLaws.{flags-refused, measured-with}

-- ---- what was measured, where it was not refused

record Through {A : Type 0} (bytes : A → List ℕ) (m : Made A) (n : ℕ) : Type 0 where
  value : A
  deviations : List Deviation
  makes : m ≡ made value deviations
  size : n ≡ length (bytes value)

measured : {A : Type 0} (bytes : A → List ℕ) (e : Entry) (m : Made A) (v : Measured) → Measures bytes e m (Ok v) → Through bytes m v.length
unfolding run sizing
measured bytes e (refused x) v h = let z : ◌≡◌ {A = ℕ} 0 1 = cc in absurd (omega arith)
measured bytes e (made a vs) v h =
    let same : v ≡ record { length = length (bytes a); entry = noted_all e vs } = cc in
    record { value = a; deviations = vs; makes = refl; size = ap (λ (w : Measured). w.length) same }

-- ---- both parts

module _ (policy : GdsRoundingPolicy) (d : Float) (b : List ℕ) (s : BodyPlaces) (q : PropertyPlaces) (e : Entry) where
  abbrev body : Made SaidBody
  body = write_body policy d (body_at b s)

  abbrev properties : Made (List Property)
  properties = write_properties (properties_at b q)

  -- r is what measuring both answers
  abbrev Answers : Result Measured Refusal → Type 0
  Answers r = Measures parts_bytes e (write_parts policy d (body_at b s) (properties_at b q)) r

  abbrev join : SaidBody → List Property → Parts
  join w qs = record { body = w; properties = qs }

  split : (w : SaidBody) (qs : List Property) → parts_bytes (join w qs) ≡ body_bytes w ++ tail_bytes qs
  unfolding parts_bytes
  split w qs = refl

  pub body_refused : (x : Refusal) → Measures body_bytes e body (Err x) → Answers (Err x)
  unfolding write_parts
  body_refused x h = measure-first-refused body_bytes tail_bytes parts_bytes join split e body properties (Err x) x h refl

  both-stop : (r : Result Measured Refusal) → Measures body_bytes e body r → is_err r ≡ true → run Err e (write_parts policy d (body_at b s) (properties_at b q)) (sizing parts_bytes) ≡ r
  both-stop (Err x) h i = sym (body_refused x h)
  both-stop (Ok v) h i = cc

  -- for `grind`: its left side shows every argument
  pub body_stops : is_err (run Err e body (sizing body_bytes)) ≡ true → run Err e (write_parts policy d (body_at b s) (properties_at b q)) (sizing parts_bytes) ≡ run Err e body (sizing body_bytes)
  body_stops h = both-stop (run Err e body (sizing body_bytes)) refl h

  module _ (v : Measured) (h : Measures body_bytes e body (Ok v)) where
    pub tail-refused : (x : Refusal) → Measures tail_bytes v.entry properties (Err x) → Answers (Err x)
    unfolding write_parts
    tail-refused x i = measure-second-refused body_bytes tail_bytes parts_bytes join split e body properties (Ok v) v.length v.entry h refl (Err x) i x refl

    module _ (t : Measured) (i : Measures tail_bytes v.entry properties (Ok t)) where
      pub both-measured : Answers (through (v.length + t.length) t.entry)
      unfolding write_parts
      both-measured = measure-both body_bytes tail_bytes parts_bytes join split e body properties (Ok v) v.length v.entry h refl (Ok t) i t.length t.entry refl

      -- little more than what four such blocks take
      pub both_small : ElementIn b s q → v.length + t.length ≤ 84 + 4 * length b
      both_small k =
          let end : place_from property_end q.count b q.place ≤ length b = let z = k.properties-in.last-in in omega arith in
          let u = measured body_bytes e body v h in
          let w = measured tail_bytes v.entry properties t i in
          let x = u.size ∙ body-length policy d b s u.value u.deviations k.body-in u.makes in
          let y = w.size ∙ tail-length q.count b q.place w.value w.deviations end w.makes in
          let z = body-short b s k.body-in in
          let o = tail-short q.count b q.place end in
          omega arith

-- ---- the block

-- what was read, behind `ok_or` and `?`
pub read-as : {b : List ℕ} (o : Code.Option ElementPlaces) → ElementRead b o → (p : ElementPlaces) → o ≡ Some p → ElementRead b (Some p)
read-as o w p e = rw e at w

module _ (policy : GdsRoundingPolicy) (d : Float) (i : ℕ) (b : List ℕ) where
  -- what measuring the block answers
  abbrev Block : Result Measured Refusal → Type 0
  Block r = r ≡ measured_block policy d i (element_of b)

  pub ill-met : (o : Code.Option ElementPlaces) (x : Refusal) → ElementRead b o → Err x ≡ ok_or o R.Form → record { value : Block (Err x); short : Short (length b) (Err x) }
  unfolding measured_block
  ill-met None x w e = let f : x ≡ R.Form = cc in record { value = ap Err f ∙ ap (measured_block policy d i) (sym w.form); short = tt }
  ill-met (Some p) x w e = let z : ◌≡◌ {A = ℕ} 0 1 = cc in absurd (omega arith)

  module _ (p : ElementPlaces) (w : ElementRead b (Some p)) where
    abbrev rest : List ℕ
    rest = drop p.options.shift b

    abbrev body-of : Body
    body-of = body_at rest p.body

    pub kind-in : 1 ≤ length b
    kind-in = kind-within b _ w.form

    pub block-flags : flags_fit (flags_of p.options) ≡ false → Block (Err R.Flags)
    unfolding measured_block run
    block-flags f =
        sym (ap (measured_block policy d i) w.form
        ∙ ap (λ (m : Made Said). run Err (blank_entry i (kind_of body-of)) m (sizing element_bytes)) (flags-refused policy d p.options body-of (properties_at rest p.properties) f))

    -- with the entry that measuring starts from, in the block z that is left without the options
    pub block-measured : flags_fit (flags_of p.options) ≡ true → {z : List ℕ} → z ≡ rest → (k : ℕ) (e : Entry) → k ≡ plain_kind (number_at 1 b 0) → e ≡ blank_entry i k → (t : Result Measured Refusal)
        → Measures parts_bytes e (write_parts policy d (body_at z p.body) (properties_at z p.properties)) t → Block (longer (options_length p.options) t)
    unfolding measured_block
    block-measured f {z} y k e h j t u =
        ap (longer (options_length p.options)) (u ∙ ap₂ (λ (l : List ℕ) (c : Entry). run Err c (write_parts policy d (body_at l p.body) (properties_at l p.properties)) (sizing parts_bytes)) y
        (j ∙ ap (blank_entry i) (h ∙ sym (kind-read b _ w.form))))
        ∙ sym (measured-with policy d p.options body-of (properties_at rest p.properties) (blank_entry i (kind_of body-of)) f)
        ∙ ap (measured_block policy d i) (sym w.form)
