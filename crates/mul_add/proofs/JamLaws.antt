-- The sticky law. A number that is shifted right and jammed (`jam`) rounds as it did before, if two digits more are left than the format keeps (`round-jam`).
-- It is `round-leading`: the jammed number has the same digits but for its last one, and that one says whether anything was left below.
-- A jammed number that lost something is odd, and lies within one of the exact number (`Loose`). That is as true from above as from below, so it may be added and subtracted alike. Assumes nothing.
use mathlib.Core.Path.{◌≡◌, refl, sym, ap, ap₂, ◌∙◌, subst}
use mathlib.Core.Logic.{◌⊎◌, inl, inr}
use mathlib.Core.Bool.{Bool, false, not}
use Prim.Native.Nat.{ℕ, zero, suc, ◌+◌, ◌-◌, ◌*◌, ◌/◌, ◌%◌, ◌^◌, ◌≤◌, ◌<◌}
use native.Mathlib.Nat.{eq-zero-or-pos, mul_comm, mul_assoc, add-mul, suc-mul, mul-pos, mul-lt-mul_of_pos_right, div-add-mod', mod-lt, mul-mod_left, mul-div_cancel, add-zero}
use native.Mathlib.Omega.{arith}
use lib.Dec.{eqb, not_T, eqb→eq, lit<}
use lib.Arith.{digits_div, digits_mod, mod-mul}
use lib.Pow.{pow-add, pow_pos}
use lib.Ieee.{Format, prec, round}
use lib.Ieee.Bits.{is_false}
use lib.Ieee.Nearest.{div_same}
use Rattle.mul_add.specs.code.Jam.{sticky, jam}
use Rattle.binary64.proofs.Powers.{same-pow, times₂}
use Rattle.mul_add.proofs.DigitLaws.{not-zero}
use Rattle.mul_add.proofs.LeadingLaws.{leading, below, whole, round-leading}

-- ---- n is within 2 ^ p of w * 2 ^ p, for an odd w
pub record Loose (n p w : ℕ) : Type 0 where
  pub odd : w % 2 ≡ 1
  pub above : w * 2 ^ p < n + 2 ^ p
  pub below : n < w * 2 ^ p + 2 ^ p

-- all of it times 2 ^ j
pub loose-scale : (n p w j : ℕ) → Loose n p w → Loose (n * 2 ^ j) (p + j) w
loose-scale n p w j l =
    let u = 2 ^ p in
    let v = 2 ^ j in
    let W : w * 2 ^ (p + j) ≡ w * u * v = sym (times₂ w p j) in
    let U : 2 ^ (p + j) ≡ u * v = pow-add 2 p j in
    record {
      odd = l.odd;
      above = one (w * 2 ^ (p + j)) (w * u * v) (n * v) (2 ^ (p + j)) (u * v) ((n + u) * v) W U (add-mul n u v) (mul-lt-mul_of_pos_right l.above (pow_pos j));
      below = two (n * v) (w * 2 ^ (p + j)) (w * u * v) (2 ^ (p + j)) (u * v) ((w * u + u) * v) W U (add-mul (w * u) u v) (mul-lt-mul_of_pos_right l.below (pow_pos j));
    }
  where
    one : (x y z t r s : ℕ) → x ≡ y → t ≡ r → s ≡ z + r → y < s → x < z + t
    one x y z t r s a b c d = omega arith

    two : (n x y t r s : ℕ) → x ≡ y → t ≡ r → s ≡ y + r → n < s → n < x + t
    two n x y t r s a b c d = omega arith

-- w * 2 ^ p is as near to itself as that
loose-self : (p w : ℕ) → w % 2 ≡ 1 → Loose (w * 2 ^ p) p w
loose-self p w h = record { odd = h; above = go (w * 2 ^ p) (2 ^ p) (pow_pos p); below = go (w * 2 ^ p) (2 ^ p) (pow_pos p) }
  where
    go : (x u : ℕ) → 0 < u → x < x + u
    go x u h = omega arith

-- ---- n has w's digits but for the last, and something below them
module _ (n p w : ℕ) (l : Loose n p w) where
  abbrev a : ℕ
  a = w / 2

  abbrev v : ℕ
  v = 2 ^ (1 + p)

  double : v ≡ 2 * 2 ^ p
  double = pow-add 2 1 p

  middle : w * 2 ^ p ≡ a * v + 2 ^ p
  middle = ap (λ (z : ℕ). z * 2 ^ p) (halves w l.odd) ∙ add-mul (a * 2) 1 (2 ^ p) ∙ ap₂ (λ (x y : ℕ). x + y) (mul_assoc a 2 (2 ^ p) ∙ ap (λ (z : ℕ). a * z) (sym double)) (one-times (2 ^ p))
    where
      halves : (w : ℕ) → w % 2 ≡ 1 → w ≡ w / 2 * 2 + 1
      halves w h = omega arith

      one-times : (u : ℕ) → 1 * u ≡ u
      one-times u = omega arith

  split : (n ≡ a * v + (n - a * v)) × (n - a * v < v) × (0 < n - a * v)
  split = go (a * v) (2 ^ p) (w * 2 ^ p) v middle double l.above l.below
    where
      go : (x u y v : ℕ) → y ≡ x + u → v ≡ 2 * u → y < n + u → n < y + u → (n ≡ x + (n - x)) × (n - x < v) × (0 < n - x)
      go x u y v a b c d = (omega arith, omega arith, omega arith)

  pub loose-digits : n / v ≡ a
  loose-digits = ap (λ (z : ℕ). z / v) split.0 ∙ digits_div a split.1

  pub loose-left : 0 < n % v
  loose-left = subst (λ (z : ℕ). 0 < z) (sym (ap (λ (z : ℕ). z % v) split.0 ∙ digits_mod a split.1)) split.2

-- n over 2 ^ E, cut at 2 ^ i: both are n's own
at-digits : (E i n : ℕ) → leading i E n (2 ^ E) ≡ n / 2 ^ i
at-digits E i n = div_same (n * 2 ^ E) (2 ^ E * 2 ^ i) n (2 ^ i) (mul-pos (pow_pos E) (pow_pos i)) (pow_pos i) (mul_assoc n (2 ^ E) (2 ^ i))

at_left : (E i n : ℕ) → 0 < n % 2 ^ i → whole i E n (2 ^ E) ≡ false
at_left E i n h = is_false (whole i E n (2 ^ E)) (not_T (whole i E n (2 ^ E)) (λ t. not-zero (subst (λ (z : ℕ). 0 < z) (sym scaled) (mul-pos h (pow_pos E))) (eqb→eq (below i E n (2 ^ E)) 0 t)))
  where
    scaled : below i E n (2 ^ E) ≡ n % 2 ^ i * 2 ^ E
    scaled =
        ap (λ (z : ℕ). n * 2 ^ E % z) (mul_comm (2 ^ E) (2 ^ i))
        ∙ mod-mul (n * 2 ^ E) (pow_pos i) (pow_pos E)
        ∙ ap₂ (λ (x y : ℕ). x % 2 ^ i * 2 ^ E + y) (mul-div_cancel n (pow_pos E)) (mul-mod_left n (2 ^ E))
        ∙ add-zero (n % 2 ^ i * 2 ^ E)

-- a loose number of two digits more than the format keeps rounds as the exact one does
pub round-loose : (f : Format) (s : Bool) (E n p w : ℕ) → Loose n p w → 2 ^ (prec f + 1) ≤ w → round f s n (2 ^ E) ≡ round f s (w * 2 ^ p) (2 ^ E)
round-loose f s E n p w l h =
    let m = w * 2 ^ p in
    let k = loose-self p w l.odd in
    let A : leading (1 + p) E n (2 ^ E) ≡ w / 2 = at-digits E (1 + p) n ∙ loose-digits n p w l in
    let B : leading (1 + p) E m (2 ^ E) ≡ w / 2 = at-digits E (1 + p) m ∙ loose-digits m p w k in
    round-leading f s (1 + p) E n (2 ^ E) m (2 ^ E) (pow_pos E) (pow_pos E)
    (subst (λ (z : ℕ). 2 ^ prec f ≤ z) (sym A) (half (2 ^ prec f) (2 ^ (prec f + 1)) w (pow-add 2 (prec f) 1) h))
    (A ∙ sym B)
    (at_left E (1 + p) n (loose-left n p w l) ∙ sym (at_left E (1 + p) m (loose-left m p w k)))
  where
    half : (x y w : ℕ) → y ≡ x * 2 → y ≤ w → x ≤ w / 2
    half x y w e h = omega arith

-- ---- dropping d digits of n
pub jam_none : (n d : ℕ) → n % 2 ^ d ≡ 0 → jam n d ≡ n / 2 ^ d
unfolding jam
jam_none n d e = ap (λ (z : ℕ). sticky (not (eqb z 0)) (n / 2 ^ d)) e

pub jam_some : (n d : ℕ) → 0 < n % 2 ^ d → jam n d ≡ n / 2 ^ d / 2 * 2 + 1
unfolding jam
jam_some n d h = ap (λ (z : Bool). sticky (not z) (n / 2 ^ d)) (is_false (eqb (n % 2 ^ d) 0) (not_T (eqb (n % 2 ^ d) 0) (λ t. not-zero h (eqb→eq (n % 2 ^ d) 0 t))))

pub jam-exact : (n d : ℕ) → n % 2 ^ d ≡ 0 → n ≡ jam n d * 2 ^ d
jam-exact n d e = go n (n / 2 ^ d * 2 ^ d) (n % 2 ^ d) (div-add-mod' n (2 ^ d)) e ∙ ap (λ (z : ℕ). z * 2 ^ d) (sym (jam_none n d e))
  where
    go : (n p r : ℕ) → p + r ≡ n → r ≡ 0 → n ≡ p
    go n p r a b = omega arith

pub jam-loose : (n d : ℕ) → 0 < n % 2 ^ d → Loose n d (jam n d)
jam-loose n d h =
    let q = n / 2 ^ d in
    let u = 2 ^ d in
    let r = n % 2 ^ d in
    let w = q / 2 * 2 + 1 in
    subst (λ (w : ℕ). Loose n d w) (sym (jam_some n d h))
    (elim (parity q) [
      | inl e ↦ record { odd = last q; above = a1 (w * u) (q * u) r u n (ap (λ (z : ℕ). z * u) e ∙ suc-mul q u) (div-add-mod' n u) h; below = b1 (w * u) (q * u) r u n (ap (λ (z : ℕ). z * u) e ∙ suc-mul q u) (div-add-mod' n u) (mod-lt n (pow_pos d)) }
      | inr e ↦ record { odd = last q; above = a2 (w * u) (q * u) r u n (ap (λ (z : ℕ). z * u) e) (div-add-mod' n u) (pow_pos d); below = b2 (w * u) (q * u) r u n (ap (λ (z : ℕ). z * u) e) (div-add-mod' n u) (mod-lt n (pow_pos d)) }
    ])
  where
    last : (q : ℕ) → (q / 2 * 2 + 1) % 2 ≡ 1
    last q = omega arith

    parity : (q : ℕ) → (q / 2 * 2 + 1 ≡ suc q) ⊎ (q / 2 * 2 + 1 ≡ q)
    parity q = go (q % 2) refl (mod-lt q (lit< tt))
      where
        go : (r : ℕ) → q % 2 ≡ r → q % 2 < 2 → (q / 2 * 2 + 1 ≡ suc q) ⊎ (q / 2 * 2 + 1 ≡ q)
        go zero e l = inl (omega arith)
        go (suc r) e l = inr (omega arith)

    a1 : (w x r u n : ℕ) → w ≡ x + u → x + r ≡ n → 0 < r → w < n + u
    a1 w x r u n a b c = omega arith

    b1 : (w x r u n : ℕ) → w ≡ x + u → x + r ≡ n → r < u → n < w + u
    b1 w x r u n a b c = omega arith

    a2 : (w x r u n : ℕ) → w ≡ x → x + r ≡ n → 0 < u → w < n + u
    a2 w x r u n a b c = omega arith

    b2 : (w x r u n : ℕ) → w ≡ x → x + r ≡ n → r < u → n < w + u
    b2 w x r u n a b c = omega arith

-- ---- THE STICKY LAW: n * 2 ^ p over 2 ^ E rounds alike before and after n is shifted right by d places and jammed
pub round-jam : (f : Format) (s : Bool) (E p n d : ℕ) → 2 ^ (prec f + 1) ≤ jam n d → round f s (n * 2 ^ p) (2 ^ E) ≡ round f s (jam n d * 2 ^ (p + d)) (2 ^ E)
round-jam f s E p n d h =
    elim (eq-zero-or-pos (n % 2 ^ d)) [
      | inl e ↦ ap (λ (z : ℕ). round f s (z * 2 ^ p) (2 ^ E)) (jam-exact n d e)
      | inr r ↦ round-loose f s E (n * 2 ^ p) (d + p) (jam n d) (loose-scale n d (jam n d) p (jam-loose n d r)) h ∙ ap (λ (z : ℕ). round f s z (2 ^ E)) (sym (times₂ (jam n d) d p))
    ]
    ∙ ap (λ (z : ℕ). round f s z (2 ^ E)) (times₂ (jam n d) d p ∙ ap (λ (z : ℕ). jam n d * z) (same-pow (swap d p)))
  where
    swap : (d p : ℕ) → d + p ≡ p + d
    swap d p = omega arith

-- ---- how large it is
jam-cases : (n d : ℕ) → (jam n d ≡ n / 2 ^ d) ⊎ (jam n d ≡ n / 2 ^ d / 2 * 2 + 1)
jam-cases n d = elim (eq-zero-or-pos (n % 2 ^ d)) [ inl e ↦ inl (jam_none n d e) | inr r ↦ inr (jam_some n d r) ]

-- with the quotient between two even bounds, so is the jammed number
pub jam-between : (n d lo hi : ℕ) → lo * 2 ≤ n / 2 ^ d → n / 2 ^ d < hi * 2 → (lo * 2 ≤ jam n d) × (jam n d < hi * 2)
jam-between n d lo hi a b =
    elim (jam-cases n d) [
      | inl e ↦ one (jam n d) (n / 2 ^ d) e a b
      | inr e ↦ two (jam n d) (n / 2 ^ d) e a b
    ]
  where
    one : (j q : ℕ) → j ≡ q → lo * 2 ≤ q → q < hi * 2 → (lo * 2 ≤ j) × (j < hi * 2)
    one j q e a b = (omega arith, omega arith)

    two : (j q : ℕ) → j ≡ q / 2 * 2 + 1 → lo * 2 ≤ q → q < hi * 2 → (lo * 2 ≤ j) × (j < hi * 2)
    two j q e a b = (omega arith, omega arith)
