-- A text: each way out of its checks and conversions is the definition's, its records in the output, and their length. Assumes nothing.
use mathlib.Core.Path.{◌≡◌, refl, sym, ap, ap₂, ◌∙◌, subst}
use mathlib.Core.Option.{Option, some}
use mathlib.Core.List.{List, [], ◌∷◌}
use Prim.Native.Nat.{ℕ, ◌+◌, ◌*◌, ◌%◌, ◌≤◌}
use native.Mathlib.Omega.{arith}
use lib.Dec.{leb, leb→le}
use lib.ListN.{length}
use lib.IntN.{ℤ}
use lib.Ieee.{Float}
use Rattle.std.specs.Prelude.{Result, Ok, Err, IsOk}
use Rattle.std.specs.Result.{result_and}
use Rattle.refusal.specs.declared.Refusal.{Refusal}
use Rattle.refusal.specs.declared.Refusal.TheVariants as R
use Rattle.big_endian.specs.Big.{number_at}
use Rattle.units.specs.Point.{Point}
use Rattle.conversion.specs.declared.DatabasePoint.{DatabasePoint}
use Rattle.conversion.specs.declared.Entry.{Entry}
use Rattle.conversion.specs.declared.GdsRoundingPolicy.{GdsRoundingPolicy}
use Rattle.conversion.specs.Field.{origin_field}
use Rattle.conversion.specs.code.Answer.{made_of, grid_point_of}
use Rattle.conversion.specs.code.Fold.{run}
use Rattle.conversion.specs.Made.{Made, Done, ◌>>=◌, ◌>>◌}
use Rattle.conversion.specs.Points.{write_point}
use Rattle.conversion.proofs.FoldLaws.{run_bind, run-map, run-same}
use Rattle.conversion.proofs.MadeLaws.{Yields, made_yields, steps, then-steps, checked, pure-on, then-assoc}
use Rattle.sheet.specs.Element as S
use Rattle.stream.specs.Strings.{padded}
use Rattle.stream.specs.Structure as D
use Rattle.stream.specs.Record.{TEXT, LAYER, TEXTTYPE, PRESENTATION, STRING, stream_bytes}
use Rattle.stream.specs.Records.{empty_record, word_record, bits_record, xy_record, string_record, opt, strans_records, text_records}
use Rattle.cell.specs.Limits.{max_string_length}
use Rattle.cell.specs.Write.{layer_and_type, write_transform, write_text}
use Rattle.records.specs.code.Bytes.{Placed, Recorded}
use Rattle.records.proofs.RecordLaws.{length-padded, length-first, then-rest, alone}
use Rattle.block_places.specs.declared.TextPlaces.{TextPlaces}
use Rattle.block_places.specs.code.Place.{string_at, string_end}
use Rattle.block_places.specs.code.Places.{text_at}
use Rattle.block_places.proofs.StringLaws.{length-string}
use Rattle.validation.proofs.CheckLaws.{both-yield}
use Rattle.coordinate.specs.declared.Pointed.{Pointed}
use Rattle.coordinate.specs.code.Coordinate.{pointed, GivesPoint}
use Rattle.coordinate.proofs.TurnLaws.{spread}
use Rattle.transform.specs.declared.Strans.{Strans}
use Rattle.transform.specs.code.Strans.{said_of, strans_bytes, strans_length}
use Rattle.transform.proofs.StransLaws.{then-strans, length-strans, length-strans-of, transform-length}
use Rattle.steps.specs.code.Ready.{Ready, stopped, ready}
use Rattle.steps.specs.code.Steps.{Succeeds}
use Rattle.steps.proofs.StepLaws.{run-through, yields, past-check}
use Rattle.steps.proofs.ReadyLaws.{ready-yields, never-stopped}
use Rattle.text.specs.declared.TextValues.{TextValues}
use Rattle.text.specs.code.Text.{SaidText, text_bytes, size_of, text_length, string_check, after_checks, text_of, ready_of}

-- what the records say of a text whose transform and origin are these
abbrev said : S.Text → Option D.Strans → Point ℤ → SaidText
said t u o = record { layer = t.layer; texttype = t.texttype; presentation = some (4 * t.vertical + t.horizontal); transform = u; origin = o; string = padded t.string }

pub said-of : (b : List ℕ) (s : TextPlaces) (t : Strans) (p : DatabasePoint) → said (text_at b s) (said_of t) (grid_point_of p) ≡ text_of b s t p
unfolding text_of text_at
said-of b s t p = refl

-- ---- the checks and conversions in turn

pub both-checked : (a b : Result Done Refusal) → made_of (result_and a b) ≡ made_of a >> made_of b
unfolding ◌>>◌ ◌>>=◌
both-checked (Ok u) (Ok v) = refl
both-checked (Ok u) (Err y) = refl
both-checked (Err x) b = refl

module _ (policy : GdsRoundingPolicy) (d : Float) (t : S.Text) where
  -- the checks, then the conversions
  pub text-is : write_text policy d t ≡ layer_and_type t.layer t.texttype >> string_check (length t.string) >> after_checks policy d t
  unfolding write_text string_check after_checks
  text-is = sym (then-assoc (layer_and_type t.layer t.texttype) (string_check (length t.string)) (after_checks policy d t))

  -- the transform, then the origin
  pub conversions-are : (e : Entry) → run stopped e (after_checks policy d t) ready
      ≡ run stopped e (write_transform t.degrees t.magnification t.reflection) (λ u e1. run stopped e1 (write_point policy d origin_field 0 t.origin) (λ o e2. ready (said t u o) e2))
  unfolding after_checks
  conversions-are e =
      run_bind stopped e (write_transform t.degrees t.magnification t.reflection) _ ready
      ∙ run-same stopped e (write_transform t.degrees t.magnification t.reflection) _ _ (λ u e1. run-map stopped e1 (write_point policy d origin_field 0 t.origin) (said t u) ready)

-- what is left after a point
pub point-met : {e : Entry} {m : Made (Point ℤ)} (k : Point ℤ → Entry → Ready SaidText) (r : Result Pointed Refusal) → GivesPoint e m r → run stopped e m k ≡ spread stopped k r
point-met {e} {m} k r h = sym (run-through Err pointed (spread stopped k) stopped k (λ x. refl) (λ q e1. refl) e m) ∙ ap (spread stopped k) (sym h.is)

-- a text that succeeds has passed its checks
text-past : (policy : GdsRoundingPolicy) (d : Float) (t : S.Text) → Succeeds (write_text policy d t) → write_text policy d t ≡ after_checks policy d t
unfolding write_text after_checks ◌>>◌
text-past policy d t s =
    let h = sym (pure-on (layer_and_type t.layer t.texttype) _ tt (both-yield t.layer t.texttype (then-steps (yields s)).first)) in
    h ∙ past-check (leb (length t.string) max_string_length) R.StringLength _ (subst Succeeds h s)

-- and what is ready after them is its own
pub ready-past : (policy : GdsRoundingPolicy) (d : Float) (t : S.Text) (e : Entry) (r : Ready SaidText) → Succeeds (write_text policy d t) → r ≡ run stopped e (after_checks policy d t) ready → r ≡ run stopped e (write_text policy d t) ready
ready-past policy d t e r s h = h ∙ ap (λ (m : Made SaidText). run stopped e m ready) (sym (text-past policy d t s))

-- and nothing of it is refused
pub never-refused : (policy : GdsRoundingPolicy) (d : Float) (b : List ℕ) (s : TextPlaces) (e : Entry) (r : Result TextValues Refusal) → Succeeds (write_text policy d (text_at b s)) → ready_of b s r ≡ run stopped e (after_checks policy d (text_at b s)) ready → IsOk r
never-refused policy d b s e (Err x) w h = never-stopped e _ x w (ready-past policy d (text_at b s) e (stopped x) w h)
never-refused policy d b s e (Ok v) w h = refl

-- ---- lengths

length-said : (t : S.Text) (u : Option D.Strans) (o : Point ℤ) → length (text_bytes (said t u o)) ≡ size_of (length (strans_bytes u)) (length t.string)
unfolding text_bytes text_records opt stream_bytes
length-said t u o =
    let s = string_record STRING (padded t.string) in
    let x = xy_record (o ∷ []) in
    let p = bits_record PRESENTATION (4 * t.vertical + t.horizontal) in
    let y = word_record TEXTTYPE t.texttype in
    let l = word_record LAYER t.layer in
    go (length (strans_bytes u)) (length t.string) _ _ _ _ _ _ _ _
    (length-padded t.string)
    (length-first s [])
    (length-first x (s ∷ []))
    (length-strans u (x ∷ s ∷ []))
    (length-first p (strans_records u (x ∷ s ∷ [])))
    (length-first y (p ∷ strans_records u (x ∷ s ∷ [])))
    (length-first l (y ∷ p ∷ strans_records u (x ∷ s ∷ [])))
    (length-first (empty_record TEXT) (l ∷ y ∷ p ∷ strans_records u (x ∷ s ∷ [])))
  where
    go : (t n q r7 r6 r5 r4 r3 r2 r1 : ℕ) → q ≡ n + n % 2 → r7 ≡ 4 + q + 0 → r6 ≡ 4 + 8 + r7 → r5 ≡ t + r6 → r4 ≡ 4 + 2 + r5 → r3 ≡ 4 + 2 + r4 → r2 ≡ 4 + 2 + r3 → r1 ≡ 4 + 0 + r2
        → r1 ≡ size_of t n
    go t n q r7 r6 r5 r4 r3 r2 r1 a b c d e f g h = omega arith

module _ (b : List ℕ) (s : TextPlaces) (inside : string_end b s.string ≤ length b) where
  -- the string is as long as its number says
  pub string-long : length (text_at b s).string ≡ number_at 2 b s.string
  unfolding text_at
  string-long = length-string b s.string inside

  pub read_long : (read : List ℕ) → read ≡ string_at b s.string → length read ≡ number_at 2 b s.string
  read_long read h = ap length h ∙ length-string b s.string inside

  pub length-text-of : (t : Strans) (p : DatabasePoint) → length (text_bytes (text_of b s t p)) ≡ size_of (strans_length t) (number_at 2 b s.string)
  length-text-of t p =
      ap (λ (w : SaidText). length (text_bytes w)) (sym (said-of b s t p))
      ∙ length-said (text_at b s) (said_of t) (grid_point_of p)
      ∙ ap₂ size_of (length-strans-of t) string-long

  module _ (policy : GdsRoundingPolicy) (d : Float) (w : SaidText) (y : Yields (write_text policy d (text_at b s)) w) where
    -- what the definition gives has the length that the sheet tells
    pub text-length : length (text_bytes w) ≡ text_length b s
    unfolding write_text text_length text_at
    text-length =
        let n = checked R.StringLength (then-steps y).then in
        let u = steps n.then in
        let o = steps u.then in
        ap (λ (v : SaidText). length (text_bytes v)) (sym (made_yields o.then))
        ∙ length-said (text_at b s) u.value o.value
        ∙ ap₂ size_of (transform-length s.degrees s.magnification s.reflection u.value u.first) string-long

    pub text-short : number_at 2 b s.string ≤ max_string_length
    unfolding write_text
    text-short =
        let n = checked R.StringLength (then-steps y).then in
        subst (λ (k : ℕ). k ≤ max_string_length) string-long (leb→le (length (text_at b s).string) max_string_length n.passed)

  -- the same of the values that are ready
  module _ (policy : GdsRoundingPolicy) (d : Float) (e : Entry) (v : TextValues) (h : ready_of b s (Ok v) ≡ run stopped e (write_text policy d (text_at b s)) ready) where
    gives : Yields (write_text policy d (text_at b s)) (text_of b s v.strans v.point)
    gives = ready-yields e (write_text policy d (text_at b s)) (text_of b s v.strans v.point) v.entry h

    pub ready-length : size_of (strans_length v.strans) (number_at 2 b s.string) ≡ text_length b s
    ready-length = sym (length-text-of v.strans v.point) ∙ text-length policy d (text_of b s v.strans v.point) gives

    pub ready-short : number_at 2 b s.string ≤ max_string_length
    ready-short = text-short policy d (text_of b s v.strans v.point) gives

-- ---- the records in the output

pub text-placed : (b : List ℕ) (s : TextPlaces) (t : Strans) (p : DatabasePoint) (v n : ℕ) (str : List ℕ) {d1 d2 d3 d4 d5 d6 d7 d8 : List ℕ} {a1 a2 a3 a4 a5 a6 a7 a8 : ℕ}
    → v ≡ 4 * s.vertical + s.horizontal → str ≡ string_at b s.string → length str ≡ n
    → Recorded (empty_record TEXT) 4 d1 d2 a1 a2
    → Recorded (word_record LAYER s.layer) 6 d2 d3 a2 a3
    → Recorded (word_record TEXTTYPE s.texttype) 6 d3 d4 a3 a4
    → Recorded (bits_record PRESENTATION v) 6 d4 d5 a4 a5
    → Placed (strans_bytes (said_of t)) (strans_length t) d5 d6 a5 a6
    → Recorded (xy_record (grid_point_of p ∷ [])) 12 d6 d7 a6 a7
    → Recorded (string_record STRING (padded str)) (4 + (length str + length str % 2)) d7 d8 a7 a8
    → Placed (text_bytes (text_of b s t p)) (size_of (strans_length t) n) d1 d8 a1 a8
unfolding text_bytes text_records text_of opt
text-placed b s t p v n str f g h w1 w2 w3 w4 w5 w6 w7 =
    let w = rw f at w4 in
    let r = rw (h, g) at w7 in
    then-rest _ _ w1 (then-rest _ _ w2 (then-rest _ _ w3 (then-rest _ _ w (then-strans (said_of t) _ w5 (then-rest _ _ w6 (alone _ r))))))
