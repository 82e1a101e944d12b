-- Reading eight-byte reals: what is read equals the bytes, one that no double equals is not read, and what was written is read back. Assumes nothing.
use mathlib.Core.Path.{◌≡◌, refl, sym, ap, ap₂, ◌∙◌, subst}
use mathlib.Core.Logic.{inl, inr}
use mathlib.Core.Bool.{Bool, true, false, cond}
use mathlib.Core.Option.{none, some, some-injective, none-ne-some}
use mathlib.Core.List.{List}
use Prim.Native.Nat.{ℕ, zero, suc, ◌+◌, ◌*◌, ◌/◌, ◌%◌, ◌^◌, ◌≤◌, ◌<◌}
use native.Mathlib.Nat.{lt_of_lt_of_le}
use native.Mathlib.Decide.{ℕ_discrete}
use native.Mathlib.Omega.{arith}
use borrow.Author.Tests.{eq-eqb}
use lib.Dec.{T, eqb→eq}
use lib.Pow.{pow_pos, pow_mono, shl_lt}
use lib.IntN.{ℤ, pos, negsuc, nat_abs}
use lib.Ieee.{Float, nan, inf, fin, binary64, round, fits, to_bits}
use lib.Ieee as Ieee
use lib.Ieee.Fits.{round-fits}
use lib.Ieee.Exact.{HasValue, round_exact}
use lib.Ieee.Scale.{finite}
use Rattle.binary64.specs.Value.{unit, size_of, negative, signed, scaled, same_int, zero64}
use Rattle.binary64.specs.code.Parts.{PartsOf}
use Rattle.binary64.proofs.ValueLaws.{size-of-value, sign-of-value}
use Rattle.binary64.proofs.PartsLaws.{parts-zero, parts-suc}
use Rattle.binary64.proofs.Signed.{scaled-zero}
use Rattle.binary64.proofs.Order.{has-finite}
use Rattle.binary64.proofs.Same.{same-or-zeros, zero_is}
use Rattle.gds_format.specs.Real8.{real8_value}
use Rattle.gds_format.specs.Decode.{below0, double_near, double_of}
use Rattle.gds_format.specs.Faithful.{Equals, Plain, Reads, DecoderFaithful, WrittenIsRead}
use Rattle.gds_format.proofs.Real8Laws.{faithful}

-- ---- the same whole number

pub same-is : (a b : ℤ) → T (same_int a b) → a ≡ b
same-is (pos a) (pos b) t = ap pos (eqb→eq a b t)
same-is (pos a) (negsuc b) t = absurd t
same-is (negsuc a) (pos b) t = absurd t
same-is (negsuc a) (negsuc b) t = ap negsuc (eqb→eq a b t)

pub same-own : (a : ℤ) → same_int a a ≡ true
same-own (pos a) = eq-eqb a a refl
same-own (negsuc a) = eq-eqb a a refl

-- ---- the double nearest to a finite double's own value is that double

module _ (x : Float) (F : T (fits binary64 x)) (f : T (finite x)) (s : Bool) where
  near_parts : (t : Bool) (m j : ℕ) → PartsOf x t m j → HasValue (round binary64 s (size_of x) unit) s (size_of x) unit
  near_parts t m j p =
      round_exact binary64 s (size_of x) unit m j (pow_pos 1074) p.digits (lt_of_lt_of_le (shl_lt 53 j p.digits) (pow_mono {i = 53 + j} {j = 2098} (top j p.power))) (ap (λ (z : ℕ). z * unit) p.size)
    where
      top : (j : ℕ) → j < 2046 → 53 + j ≤ 2098
      top j h = omega arith

  near-value : HasValue (round binary64 s (size_of x) unit) s (size_of x) unit
  near-value = elim (ℕ_discrete (to_bits binary64 x % 2 ^ 63 / 2 ^ 52) 0) [ yes i ↦ near_parts _ _ _ (parts-zero x F f i) | no i ↦ near_parts _ _ _ (parts-suc x F f i) ]

signed_parts : (s : Bool) (n : ℕ) → (n ≡ 0 → s ≡ false) → (below0 (signed s n) ≡ s) × (nat_abs (signed s n) ≡ n)
signed_parts false n h = (refl, refl)
signed_parts true zero h = (sym (h refl), refl)
signed_parts true (suc n) h = (refl, refl)

module _ (x : Float) (F : T (fits binary64 x)) (f : T (finite x)) (p : Plain x) where
  abbrev y : Float
  y = round binary64 (negative x) (size_of x) unit

  near-is : double_near (scaled x) ≡ y
  unfolding double_near scaled
  near-is = let q = signed_parts (negative x) (size_of x) p in ap₂ (λ (s : Bool) (n : ℕ). round binary64 s n unit) q.0 q.1

  value : HasValue y (negative x) (size_of x) unit
  value = near-value x F f (negative x)

  same_sign : negative y ≡ negative x
  same_sign = sign-of-value y (negative x) (size_of x) unit value

  same-scaled : scaled y ≡ scaled x
  unfolding scaled
  same-scaled = ap₂ signed same_sign (size-of-value y (negative x) (size_of x) value)

  itself : y ≡ x
  itself =
      let Y = round-fits binary64 (negative x) (size_of x) unit in
      let g = has-finite y (negative x) (size_of x) unit value in
      elim (same-or-zeros y x Y F g f same-scaled) [
        | inl e ↦ e
        | inr z ↦ zero_is y Y g z.0 ∙ ap (λ (s : Bool). fin s 0 (pos 0)) same_sign ∙ sym (zero_is x F f z.1)
      ]

  -- what a double equals is read as that double
  pub read_back : (b : List ℕ) → Equals b x → double_of b ≡ some x
  unfolding double_of
  read_back b e =
      let d : double_near (real8_value b) ≡ x = ap double_near e ∙ near-is ∙ itself in
      let t : same_int (scaled (double_near (real8_value b))) (real8_value b) ≡ true = ap₂ same_int (ap scaled d) e ∙ same-own (scaled x) in
      rw t (ap some d)

-- ---- what is read

-- zero is read as plus zero
zero-near : double_near (pos 0) ≡ zero64
unfolding double_near Ieee.round Ieee.size
zero-near = refl

near-zero : (v : ℤ) → v ≡ pos 0 → double_near v ≡ zero64
near-zero v e = ap double_near e ∙ zero-near

module _ (v : ℤ) (e : scaled (double_near v) ≡ v) where
  near-finite : T (finite (double_near v))
  unfolding scaled size_of negative
  near-finite = go (double_near v) refl
    where
      -- what is not finite counts as 0, and the nearest to 0 is finite
      not_so : (x : Float) → double_near v ≡ x → scaled x ≡ pos 0 → T (finite x)
      not_so x d z = subst (λ (x : Float). T (finite x)) (sym (near-zero v (sym e ∙ ap scaled d ∙ z)) ∙ d) tt

      go : (x : Float) → double_near v ≡ x → T (finite x)
      go nan d = not_so nan d refl
      go (inf true) d = not_so (inf true) d refl
      go (inf false) d = not_so (inf false) d refl
      go (fin s m k) d = tt

  near_fits : T (fits binary64 (double_near v))
  unfolding double_near
  near_fits = round-fits binary64 (below0 v) (nat_abs v) unit

  near-plain : Plain (double_near v)
  unfolding negative
  near-plain z = ap negative (near-zero v (sym e ∙ scaled-zero (double_near v) z))

pub reads : (b : List ℕ) (x : Float) → double_of b ≡ some x → Reads b x
unfolding double_of
reads b x e = go (same_int (scaled y) v) (same-is (scaled y) v) e
  where
    v : ℤ
    v = real8_value b

    y : Float
    y = double_near v

    go : (t : Bool) → (T t → scaled y ≡ v) → cond t (some y) none ≡ some x → Reads b x
    go false h e = absurd (none-ne-some x e)
    go true h e =
        let q : scaled y ≡ v = h tt in
        subst (Reads b) (some-injective y x e) (record { fit = near_fits v q; finite = near-finite v q; equal = sym q; plain = near-plain v q })

zero-scaled : pos 0 ≡ scaled zero64
unfolding scaled size_of negative
zero-scaled = refl

unread : (b : List ℕ) → double_of b ≡ none → (x : Float) → T (fits binary64 x) → T (finite x) → Equals b x → ⊥
unfolding fits negative
unread b e x F f q = elim (ℕ_discrete (size_of x) 0) [
  | yes z ↦ never (read_back zero64 tt tt (λ h. refl) b (q ∙ scaled-zero x z ∙ zero-scaled))
  | no z ↦ never (read_back x F f (λ h. absurd (z h)) b q)
]
  where
    never : {y : Float} → double_of b ≡ some y → ⊥
    never {y} d = none-ne-some y (sym e ∙ d)

pub decoder-faithful : DecoderFaithful
decoder-faithful b = record { read = reads b; unread = unread b }

-- a real that was written is read back
pub real8-back : WrittenIsRead
real8-back x b F p e = let a = (faithful x F).accepted b e in read_back x F a.0 p b a.1
