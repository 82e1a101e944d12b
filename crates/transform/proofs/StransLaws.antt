-- The records of a transform: their bytes in front of the rest, and their length. Assumes nothing.
use mathlib.Core.Path.{◌≡◌, refl, sym, ap, ap₂, ◌∙◌, subst}
use mathlib.Core.Bool.{Bool, true, false, not, ◌||◌, cond}
use mathlib.Core.Option.{Option, none, some}
use mathlib.Core.List.{List, [], ◌∷◌, ◌++◌, append-nil}
use Prim.Native.Nat.{ℕ, ◌+◌, ◌≤◌}
use native.Mathlib.Omega.{arith}
use lib.ListN.{length, length-append}
use lib.Ieee.{Float, eq, le}
use lib.Ieee.Scale.{finite}
use Rattle.refusal.specs.declared.Refusal.TheVariants as R
use Rattle.binary64.specs.Value.{zero64, one64}
use Rattle.std.specs.Prelude as Code
use Rattle.std.specs.Prelude.{Ok, Err}
use Rattle.gds_format.specs.Real8.{Encoding, encoding, values_of, real8}
use Rattle.conversion.specs.Made.{pure, need, ◌>>=◌, ◌>>◌}
use Rattle.conversion.proofs.MadeLaws.{Yields, no-yield, made_yields, steps, checked}
use Rattle.stream.specs.Structure as D
use Rattle.stream.specs.Record.{Rec, STRANS, MAG, ANGLE, record_bytes, stream_bytes}
use Rattle.stream.specs.Records.{bits_record, real_record, opt, strans_bits, strans_records}
use Rattle.stream.proofs.AppendLaws.{strans-append}
use Rattle.stream.proofs.BytesLaws.{stream-append}
use Rattle.cell.specs.Write.{is_some, encodable, write_real, write_magnification, write_angle, strans_of, write_transform}
use Rattle.records.specs.code.Bytes.{Placed, Recorded, opt_bytes, opt_length}
use Rattle.records.proofs.RecordLaws.{then-placed, then-rest, then-opt, opt-missing, length-record}
use Rattle.transform.specs.declared.Strans.{Strans}
use Rattle.transform.specs.code.Strans.{eight_of, said_of, strans_bytes, real_length, length_of, strans_length, transform_length}

-- ---- in front of the rest

strans-rest : (t : Option D.Strans) (rs : List Rec) → strans_bytes t ++ stream_bytes rs ≡ stream_bytes (strans_records t rs)
unfolding strans_bytes
strans-rest t rs = sym (stream-append (strans_records t []) rs) ∙ ap stream_bytes (strans-append t [] rs)

-- the transform, then the rest
pub then-strans : (t : Option D.Strans) (rs : List Rec) {n m : ℕ} {d cur last : List ℕ} {at to end : ℕ}
    → Placed (strans_bytes t) n d cur at to → Placed (stream_bytes rs) m cur last to end → Placed (stream_bytes (strans_records t rs)) (n + m) d last at end
then-strans t rs {n} {m} {d} {cur} {last} {at} {to} {end} w v = subst (λ (l : List ℕ). Placed l (n + m) d last at end) (strans-rest t rs) (then-placed w v)

-- its length is a part of the whole
pub length-strans : (t : Option D.Strans) (rs : List Rec) → length (stream_bytes (strans_records t rs)) ≡ length (strans_bytes t) + length (stream_bytes rs)
length-strans t rs = ap length (sym (strans-rest t rs)) ∙ length-append (strans_bytes t) (stream_bytes rs)

-- a record that may be missing, and nothing after it
opt_alone : {A : Type 0} (f : A → Rec) (x : Option A) → opt_bytes f x ≡ stream_bytes (opt f x [])
unfolding opt_bytes opt stream_bytes
opt_alone f none = refl
opt_alone f (some a) = sym (append-nil (record_bytes (f a)))

-- ---- lengths

-- a real that is there exactly if `there`, and then of eight bytes
abbrev Eight : Bool → Option (List ℕ) → Type 0
Eight there none = there ≡ false
Eight there (some b) = (there ≡ true) × (length b ≡ 8)

is-there : (t : Bool) (x : Option (List ℕ)) → Eight t x → is_some x ≡ t
is-there t none h = sym h
is-there t (some b) h = sym h.0

length-real : (c : ℕ) (t : Bool) (x : Option (List ℕ)) (rs : List Rec) → Eight t x → length (stream_bytes (opt (real_record c) x rs)) ≡ real_length t + length (stream_bytes rs)
unfolding opt stream_bytes
length-real c t none rs h = rw h (go (length (stream_bytes rs)))
  where
    go : (n : ℕ) → n ≡ 0 + n
    go n = omega arith
length-real c t (some b) rs h =
    rw h.0 (length-append (record_bytes (real_record c b)) (stream_bytes rs) ∙ ap (λ (n : ℕ). n + length (stream_bytes rs)) (length-record (real_record c b) ∙ ap (λ (n : ℕ). 4 + n) h.1))

-- a STRANS and the two after it
length-all : (v : ℕ) (s t : Bool) (m a : Option (List ℕ)) → Eight s m → Eight t a
    → length (stream_bytes (bits_record STRANS v ∷ opt (real_record MAG) m (opt (real_record ANGLE) a []))) ≡ 6 + (real_length s + real_length t)
unfolding stream_bytes
length-all v s t m a h k =
    let r = length-record (bits_record STRANS v) in
    let x = length-real MAG s m (opt (real_record ANGLE) a []) h in
    let y = length-real ANGLE t a [] k in
    length-append (record_bytes (bits_record STRANS v)) _ ∙ go _ _ _ (real_length s) (real_length t) r x y
  where
    go : (r x y s t : ℕ) → r ≡ 6 → x ≡ s + y → y ≡ t + 0 → r + x ≡ 6 + (s + t)
    go r x y s t h i j = omega arith

length-said : (r s t : Bool) (m a : Option (List ℕ)) → Eight s m → Eight t a → length (strans_bytes (strans_of r m a)) ≡ length_of r s t
unfolding strans_of length_of strans_bytes strans_records stream_bytes
length-said r s t m a h k =
    ap₂ (λ (p q : Bool). length (strans_bytes (cond (r || p || q) (some (record { reflection = r; magnification = m; angle = a })) none))) (is-there s m h) (is-there t a k)
    ∙ go (r || s || t)
  where
    go : (b : Bool) → length (strans_bytes (cond b (some (record { reflection = r; magnification = m; angle = a })) none)) ≡ cond b (6 + (real_length s + real_length t)) 0
    go true = length-all (strans_bits r) s t m a h k
    go false = refl

eight-of : (o : Code.Option ℕ) → Eight (Code.is_some o) (eight_of o)
eight-of Code.None = refl
eight-of (Code.Some p) = (refl, refl)

-- what the code's values say
pub length-strans-of : (s : Strans) → length (strans_bytes (said_of s)) ≡ strans_length s
length-strans-of s = length-said s.reflection _ _ _ _ (eight-of s.magnification) (eight-of s.angle)

-- what the definition gives
real-eight : (x : Float) (v : Option (List ℕ)) → Yields (write_real x) v → Eight true v
unfolding write_real encodable real8 ◌>>=◌
real-eight x v y = go (encoding x) y
  where
    go : (e : Encoding) → Yields (encodable (values_of e).bytes >>= λ b. pure (some b)) v → Eight true v
    go (Err r) y = no-yield y
    go (Ok r) y = subst (Eight true) (made_yields y) (refl, refl)

magnification-eight : (m : Float) (v : Option (List ℕ)) → Yields (write_magnification m) v → Eight (not (eq m one64)) v
unfolding write_magnification
magnification-eight m v y = go (eq m one64) y
  where
    go : (t : Bool) → Yields (cond t (pure none) (need (not (le m zero64) || not (finite m)) R.Magnification >> write_real m)) v → Eight (not t) v
    go true y = subst (Eight false) (made_yields y) refl
    go false y = real-eight m v (checked R.Magnification y).then

angle-eight : (a : Float) (v : Option (List ℕ)) → Yields (write_angle a) v → Eight (not (eq a zero64)) v
unfolding write_angle
angle-eight a v y = go (eq a zero64) y
  where
    go : (t : Bool) → Yields (cond t (pure none) (write_real a)) v → Eight (not t) v
    go true y = subst (Eight false) (made_yields y) refl
    go false y = real-eight a v y

module _ (degrees magnification : Float) (reflection : Bool) where
  -- the length by the sheet is that of the records
  pub transform-length : (t : Option D.Strans) → Yields (write_transform degrees magnification reflection) t → length (strans_bytes t) ≡ transform_length degrees magnification reflection
  unfolding write_transform
  transform-length t y =
      let m = steps y in
      let a = steps m.then in
      ap (λ (u : Option D.Strans). length (strans_bytes u)) (sym (made_yields a.then))
      ∙ length-said reflection _ _ m.value a.value (magnification-eight magnification m.value m.first) (angle-eight degrees a.value a.first)

  -- and of the code's values
  pub strans-length-is : (s : Strans) → pure (said_of s) ≡ write_transform degrees magnification reflection → strans_length s ≡ transform_length degrees magnification reflection
  strans-length-is s h = sym (length-strans-of s) ∙ transform-length (said_of s) (record { log = []; is = sym h })

-- ---- with a STRANS or without

-- a real's length, by its record
real-long : (o : Code.Option ℕ) → opt_length 12 o ≡ real_length (Code.is_some o)
real-long Code.None = refl
real-long (Code.Some p) = refl

module _ (s : Strans) where
  abbrev there : Bool
  there = s.reflection || Code.is_some s.magnification || Code.is_some s.angle

  pub length_there : there ≡ true → strans_length s ≡ 6 + (opt_length 12 s.magnification + opt_length 12 s.angle)
  unfolding length_of
  length_there h = rw (h, real-long s.magnification, real-long s.angle)

  abbrev strans : D.Strans
  strans = record { reflection = s.reflection; magnification = eight_of s.magnification; angle = eight_of s.angle }

  said-is : said_of s ≡ cond there (some strans) none
  unfolding strans_of
  said-is =
      ap₂ (λ (p q : Bool). cond (s.reflection || p || q) (some strans) none) (is-there _ _ (eight-of s.magnification)) (is-there _ _ (eight-of s.angle))

  -- STRANS, MAG and ANGLE in turn
  pub strans-placed : (v : ℕ) {d cur next last : List ℕ} {at r1 r2 r3 : ℕ} → there ≡ true → v ≡ strans_bits s.reflection
      → Recorded (bits_record STRANS v) 6 d cur at r1 → Placed (opt_bytes (real_record MAG) (eight_of s.magnification)) (opt_length 12 s.magnification) cur next r1 r2
      → Placed (opt_bytes (real_record ANGLE) (eight_of s.angle)) (opt_length 12 s.angle) next last r2 r3
      → Placed (strans_bytes (said_of s)) (strans_length s) d last at r3
  unfolding length_of strans_bytes strans_records
  strans-placed v h g u w x =
      let y = then-rest (bits_record STRANS v) _ u (then-opt (real_record MAG) (eight_of s.magnification) _ w (rw (opt_alone (real_record ANGLE) (eight_of s.angle)) at x)) in
      rw (said-is, h, ← g, ← real-long s.magnification, ← real-long s.angle) y

  -- nothing
  pub strans-gone : {d : List ℕ} {at : ℕ} → there ≡ false → at + strans_length s ≤ length d → Placed (strans_bytes (said_of s)) (strans_length s) d d at at
  unfolding length_of strans_bytes strans_records stream_bytes
  strans-gone {d} {at} h g = rw (said-is, h) (opt-missing (omega (arith, g)))

-- ---- sums of lengths fit

pub real-small : (t : Bool) → real_length t ≤ 12
real-small true = omega arith
real-small false = omega arith

pub length-small : (r s t : Bool) → length_of r s t ≤ 30
unfolding length_of
length-small r s t = go (r || s || t) (real-small s) (real-small t)
  where
    go : (b : Bool) → real_length s ≤ 12 → real_length t ≤ 12 → cond b (6 + (real_length s + real_length t)) 0 ≤ 30
    go true h k = omega arith
    go false h k = omega arith

pub strans-short : (s : Strans) → strans_length s ≤ 30
strans-short s = length-small _ _ _
