-- The sign of a difference that is not 0: of two doubles it tells the greater (`sub-side`), and so it does where the first is a fraction that was rounded, taken as it was before (`rounded-side`),
-- say a whole number times a double (`times-side`). Assumes nothing.
use mathlib.Core.Path.{◌≡◌, refl, sym, ap, ◌∙◌, subst}
use mathlib.Core.Logic.{◌⊎◌, inl, inr}
use mathlib.Core.Bool.{Bool, true, false, not, cond, true≢false}
use Prim.Native.Nat.{ℕ, ◌+◌, ◌-◌, ◌*◌, ◌^◌, ◌≤◌, ◌<◌, zero-le}
use native.Mathlib.Nat.{le_trans, le_of_eq, le_antisymm, mul-pos, mul-le-mul_right, add_comm, eq-zero-or-pos}
use native.Mathlib.Omega.{arith}
use lib.Dec.{T, ltb, ltb→lt, lt→ltb}
use lib.Pow.{pow_pos}
use lib.IntN.{ℤ, pos, nat_abs, ◌*ℤ◌}
use lib.Signed.{◌≤ℤ◌, ◌<ℤ◌, lt_z, lt_z_yes, lt_z_no, clash_ℤ}
use lib.Ieee.{Float, nan, inf, fin, binary64, up, down, below, unlike, round, sum, add, sub, mul, neg, lt, of_int, fits}
use lib.Ieee.Bits.{is_true}
use lib.Ieee.Fits.{round-fits, down_pos}
use lib.Ieee.Scale.{finite}
use Rattle.binary64.specs.Value.{unit, size_of, negative, signed, scaled, abs, zero64}
use Rattle.binary64.proofs.AbsLaws.{round-sign, round-zero}
use Rattle.binary64.proofs.Signed.{signed-times}
use Rattle.binary64.proofs.Order.{Below, signed→below, signed-order}
use Rattle.binary64.proofs.Compare.{lt-scaled}
use Rattle.binary64.proofs.Exact.{int_is}
use Rattle.binary64.proofs.Beside.{finite-below, size_below, size_above}
use Rattle.binary64.proofs.TimesBack.{times-round}

-- ---- a double that is not 0 lies on the side of its sign

side-plus : (x : Float) → negative x ≡ false → T (lt zero64 (abs x)) → T (lt zero64 x)
unfolding negative lt abs
side-plus nan s h = h
side-plus (inf false) s h = h
side-plus (inf true) s h = absurd (true≢false s)
side-plus (fin false m e) s h = h
side-plus (fin true m e) s h = absurd (true≢false s)

side-minus : (x : Float) → negative x ≡ true → T (lt zero64 (abs x)) → T (lt x zero64)
unfolding negative lt abs
side-minus nan s h = h
side-minus (inf true) s h = tt
side-minus (inf false) s h = absurd (true≢false (sym s))
side-minus (fin true m e) s h = let k = ltb→lt (0 * up (pos 0) * down e) (m * up e * down (pos 0)) h in lt→ltb 0 (m * up e * down (pos 0) + 0 * up (pos 0) * down e) (more _ _ k)
  where
    more : (a b : ℕ) → b < a → 0 < a + b
    more a b h = omega arith
side-minus (fin false m e) s h = absurd (true≢false (sym s))

-- so does a rounded fraction, which is then not 0 itself
module _ (n c : ℕ) (C : 0 < c) where
  round-plus : T (lt zero64 (abs (round binary64 false n c))) → T (lt zero64 (round binary64 false n c))
  round-plus = side-plus (round binary64 false n c) (round-sign binary64 false n c)

  round-minus : T (lt zero64 (abs (round binary64 true n c))) → T (lt (round binary64 true n c) zero64)
  round-minus = side-minus (round binary64 true n c) (round-sign binary64 true n c)

  round-some : (s : Bool) → T (lt zero64 (abs (round binary64 s n c))) → 0 < n
  unfolding lt abs
  round-some s h = elim (eq-zero-or-pos n) [
    | inl e ↦ absurd (subst (λ (x : Float). T (lt zero64 (abs x))) (ap (λ (k : ℕ). round binary64 s k c) e ∙ round-zero s c C) h)
    | inr p ↦ p
  ]

-- ---- the difference of two doubles

-- e lies above 0 and P holds, or below 0 and Q
abbrev pub Side : Float → Type 0 → Type 0 → Type 0
Side e P Q = (T (lt zero64 e) × P) ⊎ (T (lt e zero64) × Q)

-- ±a / c less ±b / c
module _ (a b c : ℕ) (C : 0 < c) where
  less : 0 < a - b → b < a
  less h = omega arith

  both-plus : (t : Bool) → ltb a b ≡ t → (e : Float) → e ≡ cond t (round binary64 true (b - a) c) (round binary64 false (a - b) c) → T (lt zero64 (abs e)) → Side e (T (ltb b a)) (T (ltb a b))
  both-plus true h e w n =
      let k = subst (λ (x : Float). T (lt zero64 (abs x))) w n in
      inr (subst (λ (x : Float). T (lt x zero64)) (sym w) (round-minus (b - a) c C k), subst T (sym h) tt)
  both-plus false h e w n =
      let k = subst (λ (x : Float). T (lt zero64 (abs x))) w n in
      inl (subst (λ (x : Float). T (lt zero64 x)) (sym w) (round-plus (a - b) c C k), lt→ltb b a (less (round-some (a - b) c C false k)))

  both-minus : (t : Bool) → ltb a b ≡ t → (e : Float) → e ≡ cond t (round binary64 false (b - a) c) (round binary64 (ltb b a) (a - b) c) → T (lt zero64 (abs e)) → Side e (T (ltb a b)) (T (ltb b a))
  both-minus true h e w n =
      let k = subst (λ (x : Float). T (lt zero64 (abs x))) w n in
      inl (subst (λ (x : Float). T (lt zero64 x)) (sym w) (round-plus (b - a) c C k), subst T (sym h) tt)
  both-minus false h e w n =
      let l = lt→ltb b a (less (round-some (a - b) c C (ltb b a) (subst (λ (x : Float). T (lt zero64 (abs x))) w n))) in
      let v : e ≡ round binary64 true (a - b) c = w ∙ ap (λ (s : Bool). round binary64 s (a - b) c) (is_true (ltb b a) l) in
      inr (subst (λ (x : Float). T (lt x zero64)) (sym v) (round-minus (a - b) c C (subst (λ (x : Float). T (lt zero64 (abs x))) v n)), l)

  sum-side : (s t : Bool) (e : Float) → e ≡ sum binary64 s a (not t) b c → T (lt zero64 (abs e)) → Side e (T (below t b s a)) (T (below s a t b))
  unfolding sum
  sum-side false false e w n = both-plus (ltb a b) refl e w n
  sum-side false true e w n =
      let k = subst (λ (x : Float). T (lt zero64 (abs x))) w n in
      inl (subst (λ (x : Float). T (lt zero64 x)) (sym w) (round-plus (a + b) c C k), lt→ltb 0 (b + a) (subst (λ (i : ℕ). 0 < i) (add_comm a b) (round-some (a + b) c C false k)))
  sum-side true false e w n =
      let k = subst (λ (x : Float). T (lt zero64 (abs x))) w n in
      inr (subst (λ (x : Float). T (lt x zero64)) (sym w) (round-minus (a + b) c C k), lt→ltb 0 (a + b) (round-some (a + b) c C true k))
  sum-side true true e w n = both-minus (ltb a b) refl e w n

pub sub-side : (x y : Float) → T (finite y) → T (lt zero64 (abs (sub binary64 x y))) → Side (sub binary64 x y) (T (lt y x)) (T (lt x y))
unfolding sub add neg lt abs
sub-side x nan g n = absurd g
sub-side x (inf t) g n = absurd g
sub-side nan (fin t n d) g h = absurd h
sub-side (inf true) (fin t n d) g h = inr (tt, tt)
sub-side (inf false) (fin t n d) g h = inl (tt, tt)
sub-side (fin s m e) (fin t n d) g h = sum-side (m * up e * down d) (n * up d * down e) (down e * down d) (mul-pos (down_pos e) (down_pos d)) s t _ refl h

-- ---- what lies between something finite and an infinity of the wrong side is finite

over-minus : (y x : Float) → T (finite y) → negative x ≡ true → T (lt y x) → T (finite x)
unfolding negative lt
over-minus nan x g s h = absurd g
over-minus (inf t) x g s h = absurd g
over-minus (fin t n d) nan g s h = absurd h
over-minus (fin t n d) (inf true) g s h = absurd h
over-minus (fin t n d) (inf false) g s h = absurd (true≢false (sym s))
over-minus (fin t n d) (fin r m e) g s h = tt

under-plus : (x y : Float) → T (finite y) → negative x ≡ false → T (lt x y) → T (finite x)
unfolding negative lt
under-plus nan y g s h = absurd h
under-plus (inf true) y g s h = absurd (true≢false s)
under-plus (inf false) nan g s h = absurd g
under-plus (inf false) (inf t) g s h = absurd g
under-plus (inf false) (fin t n d) g s h = absurd h
under-plus (fin r m e) y g s h = tt

nothing : (s : Bool) → size_of (fin s 0 (pos 0)) ≡ 0
unfolding size_of
nothing s = refl

less-or : (a b : ℤ) → (b ≤ℤ a → a <ℤ b) → a <ℤ b
less-or a b f = go (lt_z a b) refl
  where
    go : (t : Bool) → lt_z a b ≡ t → a <ℤ b
    go true h = lt_z_yes (subst T (sym h) tt)
    go false h = f (lt_z_no (subst (λ (t : Bool). T (not t)) (sym h) tt))

-- nothing, rounded
pub zero-size : (s : Bool) (c : ℕ) → 0 < c → size_of (round binary64 s 0 c) ≡ 0
zero-size s c C = ap size_of (round-zero s c C) ∙ nothing s

-- ---- where the first of the two is w units with the sign s, rounded

module _ (s : Bool) (w : ℕ) (y : Float) (Y : T (fits binary64 y)) (g : T (finite y)) where
  abbrev x : Float
  x = round binary64 s w unit

  X : T (fits binary64 x)
  X = round-fits binary64 s w unit

  no-units : w ≤ 0 → size_of x ≤ 0
  no-units h = le_of_eq (ap (λ (k : ℕ). size_of (round binary64 s k unit)) (le_antisymm h zero-le) ∙ zero-size s unit (pow_pos 1074))

  small-finite : w ≤ size_of y → T (finite x)
  small-finite h = finite-below y Y g s w unit (pow_pos 1074) (mul-le-mul_right unit h)

  -- rounding keeps to its side of y
  module _ (f : T (finite x)) where
    at_most : w ≤ size_of y → size_of x ≤ size_of y
    at_most h = size_below y Y g s w unit (pow_pos 1074) f (mul-le-mul_right unit h)

    at_least : size_of y ≤ w → size_of y ≤ size_of x
    at_least h = size_above y Y g s w unit (pow_pos 1074) f (mul-le-mul_right unit h)

    stays-under : signed s w ≤ℤ scaled y → scaled x ≤ℤ scaled y
    unfolding scaled
    stays-under h =
        subst (λ (b : Bool). signed b (size_of x) ≤ℤ scaled y) (sym (round-sign binary64 s w unit))
        (signed-order s (negative y) w (size_of y) (size_of x) (size_of y) (record { up = at_most; down = at_least; left = no-units; right = λ h. h }) h)

    stays-over : scaled y ≤ℤ signed s w → scaled y ≤ℤ scaled x
    unfolding scaled
    stays-over h =
        subst (λ (b : Bool). scaled y ≤ℤ signed b (size_of x)) (sym (round-sign binary64 s w unit))
        (signed-order (negative y) s (size_of y) w (size_of y) (size_of x) (record { up = at_least; down = at_most; left = λ h. h; right = no-units }) h)

  -- what is on one side of y and was not before it was rounded has not become infinite
  finite-under : T (lt y x) → signed s w ≤ℤ scaled y → T (finite x)
  unfolding scaled
  finite-under l h = go s refl
    where
      plain : (r : Bool) → Below false w r (size_of y) → w ≤ size_of y
      plain false k = k
      plain true k = le_trans k.0 zero-le

      go : (b : Bool) → s ≡ b → T (finite x)
      go true e = over-minus y x g (round-sign binary64 s w unit ∙ e) l
      go false e = small-finite (plain (negative y) (signed→below false (negative y) w (size_of y) (subst (λ (b : Bool). signed b w ≤ℤ scaled y) e h)))

  finite-over : T (lt x y) → scaled y ≤ℤ signed s w → T (finite x)
  unfolding scaled
  finite-over l h = go s refl
    where
      plain : (r : Bool) → Below r (size_of y) true w → w ≤ size_of y
      plain true k = k
      plain false k = le_trans k.1 zero-le

      go : (b : Bool) → s ≡ b → T (finite x)
      go false e = under-plus x y g (round-sign binary64 s w unit ∙ e) l
      go true e = small-finite (plain (negative y) (signed→below (negative y) true (size_of y) w (subst (λ (b : Bool). scaled y ≤ℤ signed b w) e h)))

  over : T (lt y x) → scaled y <ℤ signed s w
  over l = less-or (scaled y) (signed s w) (λ h. let f = finite-under l h in clash_ℤ (lt-scaled y x Y X g f l) (stays-under f h))

  under : T (lt x y) → signed s w <ℤ scaled y
  under l = less-or (signed s w) (scaled y) (λ h. let f = finite-over l h in clash_ℤ (lt-scaled x y X Y f g l) (stays-over f h))

  pub rounded-side : T (lt zero64 (abs (sub binary64 x y))) → Side (sub binary64 x y) (scaled y <ℤ signed s w) (signed s w <ℤ scaled y)
  rounded-side n = elim (sub-side x y g n) [
    | inl p ↦ inl (p.0, over p.1)
    | inr p ↦ inr (p.0, under p.1)
  ]

-- ---- a whole number times d, and p

pub times-side : (q : ℤ) → nat_abs q ≤ 2 ^ 53 → (d p : Float) → T (fits binary64 d) → T (finite d) → T (fits binary64 p) → T (finite p) → T (lt zero64 (abs (sub binary64 (mul binary64 (of_int binary64 q) d) p)))
    → Side (sub binary64 (mul binary64 (of_int binary64 q) d) p) (scaled p <ℤ (q *ℤ scaled d)) ((q *ℤ scaled d) <ℤ scaled p)
unfolding scaled
times-side q l d p D f P g n =
    let i = int_is q l in
    let s = unlike i.sign (negative d) in
    let w = i.size * size_of d in
    let x = mul binary64 (of_int binary64 q) d in
    let e : x ≡ round binary64 s w unit = times-round i.sign i.size (of_int binary64 q) i.value d D f in
    let v : signed s w ≡ (q *ℤ scaled d) = signed-times i.sign (negative d) i.size (size_of d) ∙ ap (λ (z : ℤ). z *ℤ scaled d) i.is in
    subst (λ (z : ℤ). Side (sub binary64 x p) (scaled p <ℤ z) (z <ℤ scaled p)) v
    (subst (λ (y : Float). Side (sub binary64 y p) (scaled p <ℤ signed s w) (signed s w <ℤ scaled p)) (sym e)
    (rounded-side s w p P g (subst (λ (y : Float). T (lt zero64 (abs (sub binary64 y p)))) e n)))
