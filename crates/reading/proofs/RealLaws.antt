-- Reals and transforms that were read, written again: missing where they need not be there, and else worth the same. Assumes nothing.
use mathlib.Core.Path.{◌≡◌, refl, sym, ap, ap₂, ◌∙◌, subst}
use mathlib.Core.Logic.{inl, inr}
use mathlib.Core.Bool.{Bool, true, false, not, ◌||◌, cond}
use mathlib.Core.Option.{Option, none, some, some-injective, none-ne-some, some-ne-none}
use mathlib.Core.List.{List}
use Prim.Native.Nat.{ℕ, ◌^◌, ◌≤◌}
use native.Mathlib.Nat.{lt_irrefl, lt_of_lt_of_le}
use native.Mathlib.Omega.{arith}
use lib.Dec.{T}
use lib.IntN.{ℤ, pos, nat_abs}
use lib.Pow.{pow_pos}
use lib.Ieee.{Float, fin, binary64, fits, eq, le}
use lib.Ieee.Scale.{finite}
use Rattle.binary64.specs.Value.{size_of, negative, scaled, zero64, one64}
use Rattle.binary64.proofs.Signed.{scaled-abs}
use Rattle.binary64.proofs.Equal.{eq-scaled, eq-finite}
use Rattle.binary64.proofs.Same.{same-or-zeros, zero_is}
use Rattle.refusal.specs.declared.Refusal.TheVariants as R
use Rattle.parsing.specs.All.{All, more, Opt, absent, present}
use Rattle.gds_format.specs.Real8.{real8}
use Rattle.gds_format.specs.Decode.{double_of}
use Rattle.gds_format.specs.Faithful.{Plain, Reads}
use Rattle.gds_format.proofs.Real8Laws.{faithful}
use Rattle.gds_format.proofs.DecodeLaws.{reads, real8-back}
use Rattle.conversion.specs.Made.{Made, Done, refused, made, pure, need, ◌>>=◌, ◌>>◌}
use Rattle.conversion.proofs.MadeLaws.{need-on, then-pure}
use Rattle.stream.specs.Record.{Rec, MAG, ANGLE}
use Rattle.stream.specs.Records.{opt, real_record, strans_records}
use Rattle.stream.specs.Structure.{Strans}
use Rattle.stream.specs.Drawn.{one, real_of, transform_of}
use Rattle.cell.specs.Write.{encodable, write_real, write_magnification, write_angle, is_some, strans_of, write_transform}
use Rattle.reading.specs.Limits.{real_limit, record_limit, refusal_in}
use Rattle.reading.specs.Cell.{or_else, real_read, placing}
use Rattle.reading.proofs.Kept.{Written, KeptStrans}

-- ---- doubles that need no record: 1, and a zero that was read

pub one-fits : T (fits binary64 one64)
unfolding fits
one-fits = tt

pub zero-fits : T (fits binary64 zero64)
unfolding fits
zero-fits = tt

one-scaled : scaled one64 ≡ one
unfolding scaled size_of negative
one-scaled = refl

zero-scaled : scaled zero64 ≡ pos 0
unfolding scaled size_of negative
zero-scaled = refl

is_one : (x : Float) → T (fits binary64 x) → T (eq x one64) → x ≡ one64
is_one x X t =
    let e = eq-scaled x one64 t in
    elim (same-or-zeros x one64 X one-fits (eq-finite x false 1 (pos 0) t) tt e) [
      | inl q ↦ q
      | inr z ↦ absurd (some_size (size_of x) z.0 (sym (scaled-abs x) ∙ ap nat_abs (e ∙ one-scaled)))
    ]
  where
    some_size : (n : ℕ) → n ≤ 0 → n ≡ 2 ^ 1074 → ⊥
    some_size n h e = lt_irrefl 0 (lt_of_lt_of_le (pow_pos 1074) (subst (λ (k : ℕ). k ≤ 0) e h))

is_zero : (x : Float) → T (fits binary64 x) → Plain x → T (eq x zero64) → x ≡ zero64
is_zero x X p t =
    let z : size_of x ≡ 0 = sym (scaled-abs x) ∙ ap nat_abs (eq-scaled x zero64 t ∙ zero-scaled) in
    zero_is x X (eq-finite x false 0 (pos 0) t) (omega arith) ∙ ap (λ (s : Bool). fin s 0 (pos 0)) (p z)

-- ---- what is written for a real: nothing where it equals z, or eight bytes

data Put (write : Float → Made (Option (List ℕ))) (z x : Float) : Type 0 where
  left_out : T (eq x z) → write x ≡ pure none → Put write z x
  bytes : (b : List ℕ) → real8 x ≡ some b → write x ≡ pure (some b) → Put write z x

real-put : (write : Float → Made (Option (List ℕ))) (z x : Float) → refusal_in (write_real x) ≡ none → write x ≡ write_real x → Put write z x
unfolding write_real encodable ◌>>=◌
real-put write z x e d = go (real8 x) refl e d
  where
    go : (o : Option (List ℕ)) → real8 x ≡ o → refusal_in (encodable o >>= λ b. pure (some b)) ≡ none → write x ≡ (encodable o >>= λ b. pure (some b)) → Put write z x
    go none q e d = absurd (some-ne-none R.Real e)
    go (some b) q e d = bytes b q d

-- left out where x equals z, and else `other`
put-unless : (write : Float → Made (Option (List ℕ))) (z x : Float) (other : Made (Option (List ℕ))) → write x ≡ cond (eq x z) (pure none) other → (refusal_in other ≡ none → write x ≡ other → Put write z x)
    → refusal_in (write x) ≡ none → Put write z x
put-unless write z x other d k e = go (eq x z) refl d (subst (λ (m : Made _). refusal_in m ≡ none) d e)
  where
    go : (t : Bool) → eq x z ≡ t → write x ≡ cond t (pure none) other → refusal_in (cond t (pure none) other) ≡ none → Put write z x
    go true q d e = left_out (subst T (sym q) tt) d
    go false q d e = k e d

angle-put : (x : Float) → refusal_in (write_angle x) ≡ none → Put write_angle zero64 x
unfolding write_angle
angle-put x e = put-unless write_angle zero64 x (write_real x) refl (real-put write_angle zero64 x) e

magnification-put : (x : Float) → refusal_in (write_magnification x) ≡ none → Put write_magnification one64 x
unfolding write_magnification need ◌>>◌ ◌>>=◌
magnification-put x e = put-unless write_magnification one64 x _ refl (λ f d. above (not (le x zero64) || not (finite x)) f d) e
  where
    above : (t : Bool) → refusal_in (need t R.Magnification >> write_real x) ≡ none → write_magnification x ≡ (need t R.Magnification >> write_real x) → Put write_magnification one64 x
    above true f d = let q = need-on true R.Magnification (write_real x) refl in real-put write_magnification one64 x (subst (λ (m : Made _). refusal_in m ≡ none) q f) (d ∙ q)
    above false f d = absurd (some-ne-none R.Magnification f)

-- ---- a real that was read, or is missing, and what is written for it

pub record Rewritten (write : Float → Made (Option (List ℕ))) (z : Float) (worth : ℤ) (o : Option (List ℕ)) : Type 0 where
  pub put : Option (List ℕ)
  pub writes : write (real_read z o) ≡ pure put
  pub drawn : real_of worth put ≡ real_of worth o
  pub again : real_read z put ≡ real_read z o
  pub admitted : (b : List ℕ) → put ≡ some b → refusal_in (real_limit write (double_of b)) ≡ none
  pub double : T (fits binary64 (real_read z o))

-- z is what a missing real is worth, and a real that equals z was z
module _ (write : Float → Made (Option (List ℕ))) (z : Float) (worth : ℤ) (Z : T (fits binary64 z)) (own : write z ≡ pure none) (is : scaled z ≡ worth)
    (puts : (x : Float) → refusal_in (write x) ≡ none → Put write z x) (back : (x : Float) → T (fits binary64 x) → Plain x → T (eq x z) → x ≡ z) where
  rewritten : (o : Option (List ℕ)) → Opt (Written write) o → Rewritten write z worth o
  unfolding real_limit ◌>>◌ ◌>>=◌
  rewritten none absent = record { put = none; writes = own; drawn = refl; again = refl; admitted = λ b e. absurd (none-ne-some b e); double = Z }
  rewritten (some b) (present h) = go (puts h.value h.passes)
    where
      x : Float
      x = h.value

      r : Reads b x
      r = reads b x h.reads

      at : real_read z (some b) ≡ x
      at = ap (or_else z) h.reads

      double : T (fits binary64 (real_read z (some b)))
      double = subst (λ (y : Float). T (fits binary64 y)) (sym at) r.fit

      limit : (m : Made (Option (List ℕ))) → refusal_in m ≡ none → refusal_in (m >> pure {A = Done} tt) ≡ none
      limit (refused s) e = e
      limit (made a vs) e = refl

      go : Put write z x → Rewritten write z worth (some b)
      go (left_out t e) =
          let q = back x r.fit r.plain t in
          record { put = none; writes = ap write at ∙ e; drawn = sym (r.equal ∙ ap scaled q ∙ is); again = sym (at ∙ q); admitted = λ c d. absurd (none-ne-some c d); double = double }
      go (bytes c d e) =
          let f = real8-back x c r.fit r.plain d in
          record {
            put = some c;
            writes = ap write at ∙ e;
            drawn = ((faithful x r.fit).accepted c d).1 ∙ sym r.equal;
            again = ap (or_else z) f ∙ sym at;
            admitted = λ i q.
                let g : double_of i ≡ some x = ap double_of (sym (some-injective c i q)) ∙ f in
                ap (λ (o : Option Float). refusal_in (real_limit write o)) g ∙ limit (write x) h.passes;
            double = double;
          }

own-one : write_magnification one64 ≡ pure none
unfolding write_magnification eq
own-one = refl

own-zero : write_angle zero64 ≡ pure none
unfolding write_angle eq
own-zero = refl

magnification-rewritten : (o : Option (List ℕ)) → Opt (Written write_magnification) o → Rewritten write_magnification one64 one o
magnification-rewritten = rewritten write_magnification one64 one one-fits own-one one-scaled magnification-put (λ x X p t. is_one x X t)

angle-rewritten : (o : Option (List ℕ)) → Opt (Written write_angle) o → Rewritten write_angle zero64 (pos 0) o
angle-rewritten = rewritten write_angle zero64 (pos 0) zero-fits own-zero zero-scaled angle-put is_zero

-- ---- transforms

-- what a transform is worth or read as, by its parts: a STRANS that is left out has none
strans-by : {X : Type 0} (f : Option Strans → X) (g : Bool → Option (List ℕ) → Option (List ℕ) → X) → f none ≡ g false none none
    → ((r : Bool) (m a : Option (List ℕ)) → f (some (record { reflection = r; magnification = m; angle = a })) ≡ g r m a) → (r : Bool) (m a : Option (List ℕ)) → f (strans_of r m a) ≡ g r m a
unfolding strans_of
strans-by f g n s true m a = s true m a
strans-by f g n s false (some m) a = s false (some m) a
strans-by f g n s false none (some a) = s false none (some a)
strans-by f g n s false none none = n

strans-worth : (r : Bool) (m a : Option (List ℕ)) → transform_of (strans_of r m a) ≡ record { reflection = r; magnification = real_of one m; degrees = real_of (pos 0) a }
strans-worth = strans-by transform_of (λ r m a. record { reflection = r; magnification = real_of one m; degrees = real_of (pos 0) a }) refl (λ r m a. refl)

strans-placing : (r : Bool) (m a : Option (List ℕ)) → placing (strans_of r m a) ≡ record { reflection = r; magnification = real_read one64 m; degrees = real_read zero64 a }
strans-placing = strans-by placing (λ r m a. record { reflection = r; magnification = real_read one64 m; degrees = real_read zero64 a }) refl (λ r m a. refl)

-- a record that may be missing, in front of others
pub opt-all : {A : Type 0} {P : Rec → Type 0} (f : A → Rec) (x : Option A) (rs : List Rec) → ((a : A) → x ≡ some a → P (f a)) → All P rs → All P (opt f x rs)
unfolding opt
opt-all f none rs h k = k
opt-all f (some a) rs h k = more (h a refl) k

-- what is kept of an option is kept of what it holds
pub opt-at : {A : Type 0} {P : A → Type 0} {x : Option A} {a : A} → Opt P x → x ≡ some a → P a
opt-at {a = a} absent e = absurd (none-ne-some a e)
opt-at {P = P} (present h) e = subst P (some-injective _ _ e) h

-- the sheet's limits admit a record
abbrev pub Passes : ℕ → ℕ → Rec → Type 0
Passes kind i r = refusal_in (record_limit kind i r) ≡ none

strans-passes : (kind : ℕ) (r : Bool) (m a : Option (List ℕ)) (rs : List Rec) → ((b : List ℕ) → m ≡ some b → refusal_in (real_limit write_magnification (double_of b)) ≡ none)
    → ((b : List ℕ) → a ≡ some b → refusal_in (real_limit write_angle (double_of b)) ≡ none) → All (Passes kind 0) rs → All (Passes kind 0) (strans_records (strans_of r m a) rs)
unfolding strans_records strans_of record_limit
strans-passes kind r m a rs hm ha h = go (r || is_some m || is_some a)
  where
    go : (t : Bool) → All (Passes kind 0) (strans_records (cond t (some (record { reflection = r; magnification = m; angle = a })) none) rs)
    go true = more refl (opt-all (real_record MAG) m _ hm (opt-all (real_record ANGLE) a rs ha h))
    go false = h

-- what is written for a transform that was read
pub record Turned (t : Option Strans) : Type 0 where
  pub put : Option Strans
  pub writes : write_transform (placing t).degrees (placing t).magnification (placing t).reflection ≡ pure put
  pub drawn : transform_of put ≡ transform_of t
  pub again : placing put ≡ placing t
  pub admitted : (kind : ℕ) (rs : List Rec) → All (Passes kind 0) rs → All (Passes kind 0) (strans_records put rs)
  pub magnification : T (fits binary64 (placing t).magnification)
  pub degrees : T (fits binary64 (placing t).degrees)

pub turned : (t : Option Strans) → Opt KeptStrans t → Turned t
unfolding write_transform strans_records strans_of
turned none absent = record {
  put = none;
  writes = then-pure _ own-one (then-pure _ own-zero refl);
  drawn = refl;
  again = refl;
  admitted = λ kind rs h. h;
  magnification = one-fits;
  degrees = zero-fits;
}
turned (some t) (present h) =
    let m = magnification-rewritten t.magnification h.magnification in
    let a = angle-rewritten t.angle h.angle in
    record {
      put = strans_of t.reflection m.put a.put;
      writes = then-pure _ m.writes (then-pure _ a.writes refl);
      drawn = strans-worth t.reflection m.put a.put ∙ ap₂ (λ (x y : ℤ). record { reflection = t.reflection; magnification = x; degrees = y }) m.drawn a.drawn;
      again = strans-placing t.reflection m.put a.put ∙ ap₂ (λ (x y : Float). record { reflection = t.reflection; magnification = x; degrees = y }) m.again a.again;
      admitted = λ kind rs g. strans-passes kind t.reflection m.put a.put rs m.admitted a.admitted g;
      magnification = m.double;
      degrees = a.double;
    }
