-- Properties in turn: their lengths, and a turn of each walk over them. Assumes nothing.
use mathlib.Core.Path.{◌≡◌, sym, ap, ap₂, ◌∙◌, subst}
use mathlib.Core.List.{List, [], ◌∷◌, ◌++◌, append_assoc, append-nil}
use Prim.Native.Nat.{ℕ, zero, suc, ◌+◌, ◌-◌, ◌%◌, ◌≤◌, ◌<◌}
use native.Mathlib.Omega.{arith}
use lib.Dec.{leb→le}
use lib.ListN.{length, length-append}
use Rattle.refusal.specs.declared.Refusal.{Refusal}
use Rattle.refusal.specs.declared.Refusal.TheVariants as R
use Rattle.big_endian.specs.Big.{number_at}
use Rattle.big_endian.specs.Buffer.{splice}
use Rattle.big_endian.proofs.BufferLaws.{at_turn}
use Rattle.conversion.specs.declared.Entry.{Entry}
use Rattle.conversion.specs.Made.{Made, Done, refused, pure, ◌>>◌}
use Rattle.conversion.specs.code.Fold.{run}
use Rattle.conversion.proofs.FoldLaws.{run-pure, run-map}
use Rattle.conversion.proofs.MadeLaws.{steps, then-steps, checked, needed, refused-on, pure-on, both-passed}
use Rattle.sheet.specs.Element as S
use Rattle.stream.specs.Strings.{padded}
use Rattle.stream.specs.Structure as D
use Rattle.stream.specs.Record.{ENDEL, PROPATTR, PROPVALUE, record_bytes, stream_bytes}
use Rattle.stream.specs.Records.{empty_record, word_record, string_record, tail_records}
use Rattle.cell.specs.Limits.{max_value_length}
use Rattle.cell.specs.Write.{attribute_and_length, write_properties}
use Rattle.records.specs.code.Bytes.{Placed, Recorded}
use Rattle.records.proofs.RecordLaws.{length-record, length-padded, then-placed}
use Rattle.block_places.specs.code.Place.{values_from, place_from, string_at, property_at, property_end, properties_from}
use Rattle.block_places.proofs.StringLaws.{length-string}
use Rattle.steps.specs.declared.Measured.{Measured}
use Rattle.std.proofs.Common.{Result}
use Rattle.steps.specs.code.Steps.{through, sizing, Succeeds}
use Rattle.steps.proofs.StepLaws.{yields, succeeds, written, putting}
use Rattle.properties.specs.code.Tail.{said, property_bytes, property_front, property_length, tail_bytes, tail_length}

-- ---- lengths

pub length-property : (b : List ℕ) (at : ℕ) → property_end b at ≤ length b
    → length (property_bytes (said (property_at b at))) ≡ property_length (number_at 2 b (at + 2))
unfolding property_at
length-property b at h =
    let s = string_at b (at + 2) in
    let l = length-string b (at + 2) h in
    let p = length-padded s in
    let u = length-record (word_record PROPATTR (number_at 2 b at)) in
    let v = length-record (string_record PROPVALUE (padded s)) in
    length-append (record_bytes (word_record PROPATTR (number_at 2 b at))) (record_bytes (string_record PROPVALUE (padded s)))
    ∙ go (length s) (number_at 2 b (at + 2)) (length (padded s)) _ _ l p u v
  where
    go : (n m p u v : ℕ) → n ≡ m → p ≡ n + n % 2 → u ≡ 6 → v ≡ 4 + p → u + v ≡ property_length m
    go n m p u v a b c d = omega arith

pub tail-cons : (q : D.Property) (qs : List D.Property) → tail_bytes (q ∷ qs) ≡ property_bytes q ++ tail_bytes qs
unfolding tail_bytes stream_bytes tail_records
tail-cons q qs = sym (append_assoc (record_bytes (word_record PROPATTR q.attribute)) (record_bytes (string_record PROPVALUE q.value)) (stream_bytes (tail_records qs [])))

pub tail-nil : tail_bytes [] ≡ record_bytes (empty_record ENDEL)
unfolding tail_bytes stream_bytes tail_records
tail-nil = append-nil (record_bytes (empty_record ENDEL))

-- ---- properties that succeed: the first passes, its value is not too long, and the others succeed

abbrev checks : S.Property → Made Done
checks q = attribute_and_length q.attribute (length q.value)

record First (q : S.Property) (qs : List S.Property) : Type 0 where
  passed : pure tt ≡ checks q
  fits : length q.value ≤ max_value_length
  rest : Succeeds (write_properties qs)

first_fits : (q : S.Property) (qs : List S.Property) → Succeeds (write_properties (q ∷ qs)) → First q qs
unfolding write_properties attribute_and_length
first_fits q qs s =
    let k = then-steps (yields s) in
    let c = checked R.Attribute k.first in
    record {
      passed = both-passed _ _ R.Attribute R.StringLength k.first;
      fits = leb→le (length q.value) max_value_length (needed _ R.StringLength c.then);
      rest = succeeds (steps k.then).first;
    }

-- ---- the property at a place, of those that are left

module _ (n i : ℕ) (b : List ℕ) (at m : ℕ) (h : i < n) (g : m ≡ number_at 2 b (at + 2)) (in_block : at + 4 + m ≤ length b) where
  next : properties_from (n - i) b at ≡ property_at b at ∷ properties_from (n - (i + 1)) b (property_end b at)
  unfolding values_from
  next = ap (λ (j : ℕ). properties_from j b at) (go n i h)
    where
      go : (n i : ℕ) → i < n → n - i ≡ suc (n - (i + 1))
      go n i h = omega arith

  value-long : length (property_at b at).value ≡ m
  unfolding property_at
  value-long = length-string b (at + 2) (go at m (number_at 2 b (at + 2)) g in_block) ∙ sym g
    where
      go : (at m x : ℕ) → m ≡ x → at + 4 + m ≤ length b → at + 2 + 2 + x ≤ length b
      go at m x e h = omega arith

  checks-are : attribute_and_length (number_at 2 b at) m ≡ checks (property_at b at)
  unfolding property_at
  checks-are = ap (λ (x : ℕ). attribute_and_length (number_at 2 b at) x) (sym value-long)

  end_is : property_end b at ≡ at + 4 + m
  end_is = go at m (number_at 2 b (at + 2)) g
    where
      go : (at m x : ℕ) → m ≡ x → at + 2 + 2 + x ≡ at + 4 + m
      go at m x e = omega arith

  module _ (s : Succeeds (write_properties (properties_from (n - i) b at))) where
    first_next : Succeeds (write_properties (property_at b at ∷ properties_from (n - (i + 1)) b (property_end b at)))
    first_next = subst (λ (qs : List S.Property). Succeeds (write_properties qs)) next s

    pub first_passes : pure tt ≡ attribute_and_length (number_at 2 b at) m
    first_passes = (first_fits (property_at b at) _ first_next).passed ∙ sym checks-are

    pub value-fits : m ≤ max_value_length
    value-fits = subst (λ (x : ℕ). x ≤ max_value_length) value-long (first_fits (property_at b at) _ first_next).fits

    pub rest-succeeds : Succeeds (write_properties (properties_from (n - (i + 1)) b (at + 4 + m)))
    rest-succeeds = subst (λ (j : ℕ). Succeeds (write_properties (properties_from (n - (i + 1)) b j))) end_is (first_fits (property_at b at) _ first_next).rest

-- ---- properties in turn, whatever is to follow

module _ {Z : Type 0} (stop : Refusal → Z) (e : Entry) (k : List D.Property → Entry → Z) where
  property-made : (q : S.Property) (qs : List S.Property) → pure tt ≡ checks q
      → run stop e (write_properties (q ∷ qs)) k ≡ run stop e (write_properties qs) (λ ws e'. k (said q ∷ ws) e')
  unfolding write_properties ◌>>◌
  property-made q qs h = ap (λ (m : Made (List D.Property)). run stop e m k) (sym (pure-on (checks q) _ tt h)) ∙ run-map stop e (write_properties qs) (λ ws. said q ∷ ws) k

  property-stops : (q : S.Property) (qs : List S.Property) (x : Refusal) → refused x ≡ checks q → run stop e (write_properties (q ∷ qs)) k ≡ stop x
  unfolding write_properties run ◌>>◌
  property-stops q qs x h = ap (λ (m : Made (List D.Property)). run stop e m k) (sym (refused-on (checks q) _ x h))

  properties-made : run stop e (write_properties []) k ≡ k [] e
  unfolding write_properties
  properties-made = run-pure stop e [] k

  module _ (n i : ℕ) (b : List ℕ) (at m : ℕ) (h : i < n) (g : m ≡ number_at 2 b (at + 2)) (in_block : at + 4 + m ≤ length b) where
    pub tail-stops : (x : Refusal) → refused x ≡ attribute_and_length (number_at 2 b at) m → run stop e (write_properties (properties_from (n - i) b at)) k ≡ stop x
    tail-stops x l =
        ap (λ (qs : List S.Property). run stop e (write_properties qs) k) (next n i b at m h g in_block)
        ∙ property-stops (property_at b at) _ x (l ∙ checks-are n i b at m h g in_block)

    pub tail-turn : pure tt ≡ attribute_and_length (number_at 2 b at) m
        → run stop e (write_properties (properties_from (n - i) b at)) k ≡ run stop e (write_properties (properties_from (n - (i + 1)) b (at + 4 + m))) (λ ws e'. k (said (property_at b at) ∷ ws) e')
    tail-turn l =
        ap (λ (qs : List S.Property). run stop e (write_properties qs) k) (next n i b at m h g in_block)
        ∙ property-made (property_at b at) _ (l ∙ checks-are n i b at m h g in_block)
        ∙ ap (λ (j : ℕ). run stop e (write_properties (properties_from (n - (i + 1)) b j)) (λ ws e'. k (said (property_at b at) ∷ ws) e')) (end_is n i b at m h g in_block)

  pub tail-end : (n i : ℕ) (b : List ℕ) (at : ℕ) → n ≤ i → run stop e (write_properties (properties_from (n - i) b at)) k ≡ k [] e
  unfolding values_from
  tail-end n i b at h =
      let z : n - i ≡ 0 = omega arith in
      ap (λ (j : ℕ). run stop e (write_properties (properties_from j b at)) k) z ∙ properties-made

-- ---- measuring: what is left after `done` bytes

unfoldable pub counting : ℕ → List D.Property → Entry → Result Measured Refusal
counting done ws e = through (done + length (tail_bytes ws)) e

pub count-start : (ws : List D.Property) (e : Entry) → sizing tail_bytes ws e ≡ counting 0 ws e
unfolding sizing counting
count-start ws e = ap (λ (n : ℕ). through n e) (go (length (tail_bytes ws)))
  where
    go : (n : ℕ) → n ≡ 0 + n
    go n = omega arith

pub count_turn : (b : List ℕ) (at m done next : ℕ) → m ≡ number_at 2 b (at + 2) → at + 4 + m ≤ length b → next ≡ done + property_front + m + m % 2
    → (ws : List D.Property) (e : Entry) → counting done (said (property_at b at) ∷ ws) e ≡ counting next ws e
unfolding counting
count_turn b at m done next g h f ws e =
    let l = length-property b at (go at m (number_at 2 b (at + 2)) g h) in
    let s = ap length (tail-cons (said (property_at b at)) ws) ∙ length-append (property_bytes (said (property_at b at))) (tail_bytes ws) in
    ap (λ (n : ℕ). through n e) (sum m (number_at 2 b (at + 2)) done next (length (tail_bytes ws)) _ _ g f l s)
  where
    go : (at m x : ℕ) → m ≡ x → at + 4 + m ≤ length b → at + 2 + 2 + x ≤ length b
    go at m x e h = omega arith

    sum : (m x done next r p t : ℕ) → m ≡ x → next ≡ done + property_front + m + m % 2 → p ≡ property_length x → t ≡ p + r → done + t ≡ next + r
    sum m x done next r p t a b c d = omega arith

pub count-end : (done : ℕ) (e : Entry) → counting done [] e ≡ through (done + 4) e
unfolding counting
count-end done e = ap (λ (n : ℕ). through (done + n) e) (ap length tail-nil ∙ length-record (empty_record ENDEL))

-- ---- writing: what is left at the place reached

pub put-turn : (b : List ℕ) (at n to end : ℕ) (out out' : List ℕ) → Placed (property_bytes (said (property_at b at))) n out out' to end
    → (ws : List D.Property) (e : Entry) → putting tail_bytes to out (said (property_at b at) ∷ ws) e ≡ putting tail_bytes end out' ws e
unfolding putting
put-turn b at n to end out out' w ws e =
    let c = tail-cons (said (property_at b at)) ws in
    let k = w.wrote.count in
    ap₂ (λ (o : List ℕ) (j : ℕ). written o j e)
    (ap (λ (l : List ℕ). splice to l out) c ∙ at_turn w.wrote (tail_bytes ws))
    (ap (λ (l : List ℕ). to + length l) c ∙ ap (λ (j : ℕ). to + j) (length-append (property_bytes (said (property_at b at))) (tail_bytes ws)) ∙ go to (length (property_bytes (said (property_at b at)))) (length (tail_bytes ws)) end k)
  where
    go : (t p r end : ℕ) → end ≡ t + p → t + (p + r) ≡ end + r
    go t p r end h = omega arith

pub put-end : (to end : ℕ) (out last : List ℕ) (e : Entry) → Placed (record_bytes (empty_record ENDEL)) 4 out last to end → putting tail_bytes to out [] e ≡ written last end e
unfolding putting
put-end to end out last e w =
    ap₂ (λ (o : List ℕ) (j : ℕ). written o j e)
    (ap (λ (l : List ℕ). splice to l out) tail-nil ∙ sym w.wrote.out)
    (ap (λ (l : List ℕ). to + length l) tail-nil ∙ sym w.wrote.count)

-- ---- the length by the block alone

pub length-turn : (n i : ℕ) (b : List ℕ) (at m : ℕ) → i < n → m ≡ number_at 2 b (at + 2) → tail_length (n - i) b at ≡ property_length m + tail_length (n - (i + 1)) b (at + 4 + m)
unfolding tail_length
length-turn n i b at m h g =
    let z : n - i ≡ suc (n - (i + 1)) = omega arith in
    let y : at + 2 + 2 + number_at 2 b (at + 2) ≡ at + 4 + m = go at m (number_at 2 b (at + 2)) g in
    ap (λ (j : ℕ). tail_length j b at) z
    ∙ ap (λ (j : ℕ). property_length (number_at 2 b (at + 2)) + tail_length (n - (i + 1)) b j) y
    ∙ ap (λ (x : ℕ). property_length x + tail_length (n - (i + 1)) b (at + 4 + m)) (sym g)
  where
    go : (at m x : ℕ) → m ≡ x → at + 2 + 2 + x ≡ at + 4 + m
    go at m x e = omega arith

pub length-end : (n i : ℕ) (b : List ℕ) (at : ℕ) → n ≤ i → tail_length (n - i) b at ≡ 4
unfolding tail_length
length-end n i b at h =
    let z : n - i ≡ 0 = omega arith in
    ap (λ (j : ℕ). tail_length j b at) z

-- ---- places: what is left ends in the block

-- a place is never before the one that it comes from
pub place_up : (n : ℕ) (b : List ℕ) (at : ℕ) → at ≤ place_from property_end n b at
unfolding place_from
place_up zero b at = omega arith
place_up (suc n) b at = go at (number_at 2 b (at + 2)) (place_from property_end n b (property_end b at)) (place_up n b (property_end b at))
  where
    go : (at x z : ℕ) → at + 2 + 2 + x ≤ z → at ≤ z
    go at x z h = omega arith

place-turn : (n i : ℕ) (b : List ℕ) (at : ℕ) → i < n → place_from property_end (n - i) b at ≡ place_from property_end (n - (i + 1)) b (property_end b at)
unfolding place_from
place-turn n i b at h =
    let z : n - i ≡ suc (n - (i + 1)) = omega arith in
    ap (λ (j : ℕ). place_from property_end j b at) z

-- the next property lies in the block, and so does what is left after it
pub place_in : (n i : ℕ) (b : List ℕ) (at : ℕ) → i < n → place_from property_end (n - i) b at ≤ length b → at + 4 + number_at 2 b (at + 2) ≤ length b
place_in n i b at h p =
    go at (number_at 2 b (at + 2)) _ _ (place-turn n i b at h) (place_up (n - (i + 1)) b (property_end b at)) p
  where
    go : (at x y z : ℕ) → y ≡ z → at + 2 + 2 + x ≤ z → y ≤ length b → at + 4 + x ≤ length b
    go at x y z e f g = omega arith

-- its value, of m bytes, as it is read
pub value_in : (n i : ℕ) (b : List ℕ) (at m : ℕ) → i < n → m ≡ number_at 2 b (at + 2) → place_from property_end (n - i) b at ≤ length b → at + 4 + m ≤ length b
value_in n i b at m h g p = subst (λ (x : ℕ). at + 4 + x ≤ length b) (sym g) (place_in n i b at h p)

pub place-next : (n i : ℕ) (b : List ℕ) (at m : ℕ) → i < n → m ≡ number_at 2 b (at + 2) → place_from property_end (n - i) b at ≤ length b → place_from property_end (n - (i + 1)) b (at + 4 + m) ≤ length b
place-next n i b at m h g p =
    let y : at + 2 + 2 + number_at 2 b (at + 2) ≡ at + 4 + m = go at m (number_at 2 b (at + 2)) g in
    subst (λ (j : ℕ). place_from property_end (n - (i + 1)) b j ≤ length b) y (subst (λ (z : ℕ). z ≤ length b) (place-turn n i b at h) p)
  where
    go : (at m x : ℕ) → m ≡ x → at + 2 + 2 + x ≡ at + 4 + m
    go at m x e = omega arith

-- ---- one property by its place

pub value_long : (b : List ℕ) (at : ℕ) → at + 4 + number_at 2 b (at + 2) ≤ length b → length (string_at b (at + 2)) ≡ number_at 2 b (at + 2)
value_long b at h = length-string b (at + 2) (go at (number_at 2 b (at + 2)) h)
  where
    go : (at x : ℕ) → at + 4 + x ≤ length b → at + 2 + 2 + x ≤ length b
    go at x h = omega arith

-- a value by another name
pub value-recorded : {v w : List ℕ} {d e : List ℕ} {a b : ℕ} → v ≡ w → Recorded (string_record PROPVALUE (padded v)) (4 + (length v + length v % 2)) d e a b → Recorded (string_record PROPVALUE (padded w)) (4 + (length w + length w % 2)) d e a b
value-recorded {v} {w} {d} {e} {a} {b} h r = subst (λ (s : List ℕ). Recorded (string_record PROPVALUE (padded s)) (4 + (length s + length s % 2)) d e a b) h r

pub property-placed : (b : List ℕ) (at : ℕ) {d cur last : List ℕ} {to r1 r2 : ℕ} → at + 4 + number_at 2 b (at + 2) ≤ length b
    → Recorded (word_record PROPATTR (number_at 2 b at)) 6 d cur to r1
    → Recorded (string_record PROPVALUE (padded (string_at b (at + 2)))) (4 + (length (string_at b (at + 2)) + length (string_at b (at + 2)) % 2)) cur last r1 r2
    → Placed (property_bytes (said (property_at b at))) (property_length (number_at 2 b (at + 2))) d last to r2
unfolding property_at
property-placed b at {d} {cur} {last} {to} {r1} {r2} h u w =
    let s = string_at b (at + 2) in
    subst (λ (k : ℕ). Placed (property_bytes (said (record { attribute = number_at 2 b at; value = s }))) k d last to r2) (sum (length s) _ (value_long b at h)) (then-placed u w)
  where
    sum : (n m : ℕ) → n ≡ m → 6 + (4 + (n + n % 2)) ≡ property_length m
    sum n m e = omega arith
