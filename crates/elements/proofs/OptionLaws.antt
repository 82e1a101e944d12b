-- An element with its options: the parts' checks behind that of the flags, and their bytes with two records behind the first. Assumes nothing.
use mathlib.Core.Path.{◌≡◌, refl, sym, ap, ap₂, ◌∙◌, subst}
use mathlib.Core.Bool.{Bool, true, false}
use mathlib.Core.List.{List, [], ◌++◌, append_assoc}
use Prim.Native.Nat.{ℕ, ◌+◌, ◌*◌, ◌^◌, ◌≤◌, ◌<◌}
use native.Mathlib.Omega.{arith}
use lib.ListN.{length, take, drop, length-append, length-drop}
use lib.Seq.{length-take-le}
use lib.IntN.{ℤ}
use lib.Ieee.{Float}
use mir.Val.{to_z}
use mir.Syntax.{w32}
use Rattle.big_endian.specs.Big.{Bytes, number, number_at, bytes_of}
use Rattle.big_endian.specs.Buffer.{WroteAt}
use Rattle.big_endian.proofs.BigLaws.{length-bytes_of, number-back, number_lt}
use Rattle.big_endian.proofs.BytesLaws.{take-bytes, drop-bytes, bytes-bytes_of, number-once}
use Rattle.big_endian.proofs.BufferLaws.{same_bytes}
use Rattle.std.specs.Prelude.{Result, Ok, Err}
use Rattle.refusal.specs.declared.Refusal.TheVariants as R
use Rattle.std.specs.Prelude as Code
use Rattle.std.specs.Bool.{then_some}
use Rattle.std.specs.Option.{is_some, option_map, MatchOption, IsSomeAnd}
use Rattle.conversion.specs.declared.GdsRoundingPolicy.{GdsRoundingPolicy}
use Rattle.conversion.specs.declared.Entry.{Entry}
use Rattle.conversion.specs.Made.{Made, refused, made, pure, ◌>>=◌}
use Rattle.conversion.specs.code.Fold.{run}
use Rattle.conversion.proofs.MadeLaws.{need-on, need-off}
use Rattle.sheet.specs.Element.{Body, Element, flags_raise, plex_raise, raised}
use Rattle.sheet.specs.Element as S
use Rattle.stream.specs.Record.{Rec, ELFLAGS, PLEX, record_bytes, stream_bytes}
use Rattle.stream.specs.Structure.{Property, SaidBody, Said}
use Rattle.stream.specs.Records.{empty_record, bits_record, long_record, body_records, tail_records, element_bytes}
use Rattle.stream.proofs.AppendLaws.{code_of, body-append, first-is, element-first}
use Rattle.stream.proofs.BytesLaws.{stream-append}
use Rattle.cell.specs.Write.{flags_fit, write_body, write_properties, write_element}
use Rattle.records.specs.code.Bytes.{Placed, opt_bytes, opt_length, option_of}
use Rattle.records.proofs.RecordLaws.{placed, then-placed, length-record, opt-is}
use Rattle.steps.specs.code.Steps.{through, sizing}
use Rattle.steps.proofs.StepLaws.{run-through}
use Rattle.block_places.specs.declared.Options.{Options}
use Rattle.block_places.specs.declared.ElementPlaces.{ElementPlaces}
use Rattle.block_places.specs.code.Places.{option_as, flags_of, plex_of, size_if, shift_of, options_at, element_places}
use Rattle.properties.specs.code.Tail.{tail_bytes}
use Rattle.bodies.specs.code.Body.{body_bytes}
use Rattle.elements.specs.code.Block.{Parts, write_parts, parts_bytes, options_length, options_bytes, longer, PutsOptions}

-- ---- bytes

-- the first record, and what the parts have after it
abbrev pub first_bytes : Parts → List ℕ
first_bytes p = record_bytes (empty_record (code_of p.body))

abbrev pub rest_bytes : Parts → List ℕ
rest_bytes p = stream_bytes (drop 1 (body_records p.body (tail_records p.properties [])))

pub parts-bytes : (p : Parts) → parts_bytes p ≡ first_bytes p ++ rest_bytes p
unfolding parts_bytes body_bytes tail_bytes stream_bytes
parts-bytes p =
    sym (stream-append (body_records p.body []) (tail_records p.properties []))
    ∙ ap stream_bytes (body-append p.body [] (tail_records p.properties []) ∙ first-is p.body (tail_records p.properties []))

-- what the records of the parts say, with the options o
abbrev pub joined : Options → Parts → Said
joined o p = record { flags = flags_of o; plex = plex_of o; body = p.body; properties = p.properties }

pub element-bytes : (o : Options) (p : Parts) → element_bytes (joined o p) ≡ first_bytes p ++ (options_bytes o ++ rest_bytes p)
unfolding element_bytes options_bytes stream_bytes
element-bytes o p =
    let flags = opt_bytes (bits_record ELFLAGS) (flags_of o) in
    let plex = opt_bytes (long_record PLEX) (plex_of o) in
    ap stream_bytes (element-first (joined o p) [])
    ∙ ap (λ (l : List ℕ). first_bytes p ++ l)
    (sym (opt-is (bits_record ELFLAGS) (flags_of o) _) ∙ ap (λ (l : List ℕ). flags ++ l) (sym (opt-is (long_record PLEX) (plex_of o) _))
    ∙ sym (append_assoc flags plex (rest_bytes p)))

-- ---- lengths

pub first-length : (p : Parts) → length (first_bytes p) ≡ 4
first-length p = length-record (empty_record (code_of p.body))

opt-long : {A B : Type 0} (f : B → Rec) (g : A → B) (o : Code.Option A) (n : ℕ) → ((b : B) → 4 + length (f b).content ≡ n) → length (opt_bytes f (option_as g o)) ≡ size_if (is_some o) n
unfolding opt_bytes
opt-long f g (Code.Some a) n h = length-record (f (g a)) ∙ h (g a)
opt-long f g Code.None n h = refl

pub options-length : (o : Options) → length (options_bytes o) ≡ options_length o
unfolding options_bytes
options-length o =
    let a = opt-long (bits_record ELFLAGS) (λ n. n) o.flags 6 (λ v. refl) in
    let b = opt-long (long_record PLEX) (to_z w32) o.plex 8 (λ v. refl) in
    length-append (opt_bytes (bits_record ELFLAGS) (flags_of o)) (opt_bytes (long_record PLEX) (plex_of o)) ∙ ap₂ ◌+◌ a b

pub element-length : (o : Options) (p : Parts) → length (element_bytes (joined o p)) ≡ length (parts_bytes p) + options_length o
element-length o p =
    let e = ap length (element-bytes o p) in
    let f = ap length (parts-bytes p) in
    let a = length-append (first_bytes p) (options_bytes o ++ rest_bytes p) in
    let b = length-append (options_bytes o) (rest_bytes p) in
    let c = length-append (first_bytes p) (rest_bytes p) in
    let n = options-length o in
    omega arith

-- the options take at most four times their part of the block
pub options-short : (b : List ℕ) {o : Options} → o ≡ options_at b → options_length o ≤ 4 * o.shift
unfolding options_at shift_of
options-short b {o} e = rw e (go (raised flags_raise (number_at 1 b 0)) (raised plex_raise (number_at 1 b 0)) _ _)
  where
    go : (f p : Bool) (m n : ℕ) → size_if (is_some (then_some f m)) 6 + size_if (is_some (then_some p n)) 8 ≤ 4 * (size_if f 2 + size_if p 4)
    go true true m n = omega arith
    go true false m n = omega arith
    go false true m n = omega arith
    go false false m n = omega arith

-- ---- checks

abbrev pub element_with : Options → Body → List S.Property → Element
element_with o x qs = record { flags = flags_of o; plex = plex_of o; body = x; properties = qs }

abbrev pub mapped : {A B : Type 0} → (A → B) → Made A → Made B
mapped f (refused r) = refused r
mapped f (made a vs) = made (f a) vs

module _ (policy : GdsRoundingPolicy) (d : Float) (o : Options) (x : Body) (qs : List S.Property) where
  pub flags-refused : flags_fit (flags_of o) ≡ false → write_element policy d (element_with o x qs) ≡ refused R.Flags
  unfolding write_element
  flags-refused e = need-off (flags_fit (flags_of o)) R.Flags _ e

  -- where the flags pass, the parts decide
  pub by_parts : flags_fit (flags_of o) ≡ true → write_element policy d (element_with o x qs) ≡ mapped (joined o) (write_parts policy d x qs)
  unfolding write_element write_parts ◌>>=◌
  by_parts e = need-on (flags_fit (flags_of o)) R.Flags _ e ∙ go (write_body policy d x) (write_properties qs)
    where
      go : (m : Made SaidBody) (n : Made (List Property))
          → (m >>= λ w. n >>= λ rs. pure (record { flags = flags_of o; plex = plex_of o; body = w; properties = rs })) ≡ mapped (joined o) (m >>= λ w. n >>= λ rs. pure (record { body = w; properties = rs }))
      go (refused r) n = refl
      go (made w vs) (refused r) = refl
      go (made w vs) (made rs ws) = refl

  -- measured: the parts, and the options' bytes more
  pub measured-with : (e : Entry) → flags_fit (flags_of o) ≡ true
      → run Err e (write_element policy d (element_with o x qs)) (sizing element_bytes) ≡ longer (options_length o) (run Err e (write_parts policy d x qs) (sizing parts_bytes))
  unfolding sizing run
  measured-with e h =
      ap (λ (m : Made Said). run Err e m (sizing element_bytes)) (by_parts h)
      ∙ by-map (write_parts policy d x qs)
      ∙ sym (run-through Err (sizing parts_bytes) (longer (options_length o)) Err (λ p e'. sizing element_bytes (joined o p) e') (λ r. refl) (λ p e'. ap (λ (n : ℕ). through n e') (sym (element-length o p))) e (write_parts policy d x qs))
    where
      by-map : (m : Made Parts) → run Err e (mapped (joined o) m) (sizing element_bytes) ≡ run Err e m (λ p e'. sizing element_bytes (joined o p) e')
      by-map (refused r) = refl
      by-map (made p vs) = refl

-- ---- the options in the output

-- four bytes, read as a number and put as one
first-number : (d : List ℕ) (n : ℕ) → Bytes d → n + 4 ≤ length d → bytes_of 4 (number_at 4 d n) ≡ take 4 (drop n d)
unfolding number_at
first-number d n h l =
    let s = take 4 (drop n d) in
    let k = take-bytes 4 (drop n d) (drop-bytes n d h) in
    let m : length s ≡ 4 = length-take-le 4 (drop n d) (simp length-drop (omega arith)) in
    number-once (bytes_of 4 (number s)) s (bytes-bytes_of 4 (number s)) k (length-bytes_of 4 (number s) ∙ sym m) (number-back 4 (number s) (subst (λ (j : ℕ). number s < 256 ^ j) m (number_lt s k)))

-- an option's record, of the number q that the code has of it
opt-put : {A B : Type 0} (f : B → Rec) (g : A → B) (n : ℕ) (o : Code.Option A) {q : Code.Option B} {d d' : List ℕ} {at to : ℕ} → q ≡ option_map g o
    → Placed (opt_bytes f (option_of q)) (opt_length n q) d d' at to → Placed (opt_bytes f (option_as g o)) (size_if (is_some o) n) d d' at to
opt-put f g n (Code.Some a) e p = rw e at p
opt-put f g n Code.None e p = rw e at p

-- what `map` gives
pub mapped-by : {A B : Type 0} (g : A → B) (o : Code.Option A) (q : Code.Option B) {P : A → B → Type 0} → MatchOption o (q ≡ Code.None) (λ a. IsSomeAnd q (P a)) → ((a : A) (b : B) → P a b → b ≡ g a) → q ≡ option_map g o
mapped-by g (Code.Some a) (Code.Some b) h f = ap Code.Some (f a b h)
mapped-by g (Code.Some a) Code.None h f = absurd h
mapped-by g Code.None q h f = h

itself : {A : Type 0} (o : Code.Option A) → o ≡ option_map (λ n. n) o
itself (Code.Some a) = refl
itself Code.None = refl

-- the first record, then each option's
pub options-put : (o : Options) (v n : ℕ) {q : Code.Option ℤ} {d d₁ d₂ d₃ : List ℕ} {a c r : ℕ} → Bytes d → n ≡ options_length o → n + 4 ≤ length d → v ≡ number_at 4 d n → q ≡ option_map (to_z w32) o.plex
    → WroteAt (bytes_of 4 v) d d₁ 0 a → Placed (opt_bytes (bits_record ELFLAGS) (option_of o.flags)) (opt_length 6 o.flags) d₁ d₂ a c
    → Placed (opt_bytes (long_record PLEX) (option_of q)) (opt_length 8 q) d₂ d₃ c r → PutsOptions o d d₃ r
unfolding options_bytes
options-put o v n {d = d} h e l f g w x y =
    let first : bytes_of 4 v ≡ take 4 (drop (options_length o) d) = ap (bytes_of 4) f ∙ first-number d n h l ∙ ap (λ (k : ℕ). take 4 (drop k d)) e in
    then-placed (placed (same_bytes first w) (sym (ap length (sym first) ∙ length-bytes_of 4 v)))
    (then-placed (opt-put (bits_record ELFLAGS) (λ n. n) 6 o.flags (itself o.flags) x) (opt-put (long_record PLEX) (to_z w32) 8 o.plex g y))

-- the options among the places of an element
pub options-are : (b : List ℕ) {p : ElementPlaces} → p ≡ element_places b → p.options ≡ options_at b
unfolding element_places
options-are b e = ap (λ (x : ElementPlaces). x.options) e
