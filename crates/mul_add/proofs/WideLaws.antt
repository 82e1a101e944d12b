-- Numbers of two words, as the machine shifts and jams them. Assumes nothing.
use mathlib.Core.Path.{◌≡◌, sym, ap, ◌∙◌, subst}
use mathlib.Core.Bool.{Bool, not}
use Prim.Native.Nat.{ℕ, suc, ◌+◌, ◌-◌, ◌*◌, ◌/◌, ◌%◌, ◌^◌, ◌≤◌, ◌<◌}
use native.Mathlib.Nat.{div-le_self, div-mul-le_self, le-div_iff_mul-le, le_trans, le_of_eq, lt_of_lt_of_le, lt_of_le_of_lt, div-add-mod', mod-eq_of_lt, div-eq_of_lt}
use native.Mathlib.Omega.{arith}
use lib.Dec.{T, eqb, eqb→eq, eqb_refl}
use lib.Pow.{pow-add, pow_pos, pow_mono, shr_lt}
use lib.Count.{count_leading_zeros, leading_top}
use Rattle.binary64.proofs.Powers.{pow_lt_back, same-pow}
use Rattle.binary64.proofs.Tests.{both_ways}
use Rattle.mul_add.specs.code.Places.{word}
use Rattle.mul_add.specs.code.Jam.{sticky, jam}
use Rattle.mul_add.proofs.JamLaws.{jam_some, jam-between}

-- ---- whether digits were lost: a shift left does not give back what was shifted right
eqb_same : (a b c d : ℕ) → (a ≡ b → c ≡ d) → (c ≡ d → a ≡ b) → eqb a b ≡ eqb c d
eqb_same a b c d f g = both_ways (eqb a b) (eqb c d) (λ t. yes c d (f (eqb→eq a b t))) (λ t. yes a b (g (eqb→eq c d t)))
  where
    yes : (x y : ℕ) → x ≡ y → T (eqb x y)
    yes x y e = subst (λ (z : ℕ). T (eqb x z)) e (eqb_refl x)

pub jam-shifts : (n d : ℕ) → n < 2 ^ 128 → sticky (not (eqb (n / 2 ^ d * 2 ^ d % 2 ^ 128) n)) (n / 2 ^ d) ≡ jam n d
unfolding jam
jam-shifts n d h = ap (λ (b : Bool). sticky (not b) (n / 2 ^ d)) (go (n / 2 ^ d * 2 ^ d % 2 ^ 128) (n / 2 ^ d * 2 ^ d) (n % 2 ^ d) (mod-eq_of_lt (lt_of_le_of_lt (div-mul-le_self n (2 ^ d)) h)) (div-add-mod' n (2 ^ d)))
  where
    go : (q p r : ℕ) → q ≡ p → p + r ≡ n → eqb q n ≡ eqb r 0
    go q p r e f = eqb_same q n r 0 (λ g. omega arith) (λ g. omega arith)

-- by more than both words
pub jam-all : (n d : ℕ) → 0 < n → n < 2 ^ 128 → 2 * word ≤ d → 1 ≡ jam n d
jam-all n d P N h =
    let small : n < 2 ^ d = lt_of_lt_of_le N (pow_mono h) in
    sym (jam_some n d (subst (λ (z : ℕ). 0 < z) (sym (mod-eq_of_lt small)) P) ∙ ap (λ (z : ℕ). z / 2 * 2 + 1) (div-eq_of_lt small))

-- it is no larger
pub jam-under : (n d : ℕ) → n < 2 ^ 126 → jam n d < 2 ^ 126
jam-under n d h = (jam-between n d 0 (2 ^ 125) (go (n / 2 ^ d)) (lt_of_le_of_lt (div-le_self n (2 ^ d)) h)).1
  where
    go : (q : ℕ) → 0 * 2 ≤ q
    go q = omega arith

-- ---- a number of two words, jammed to one: its leading digit is set
pub record OneWord (n z : ℕ) : Type 0 where
  pub zeros : z ≤ 64
  pub lo : 2 ^ 63 ≤ jam n (64 - z)
  pub hi : jam n (64 - z) < 2 ^ 64

pub one_word : (n : ℕ) → (n / 2 ^ 64 ≡ 0 → ⊥) → n < 2 ^ 128 → OneWord n (count_leading_zeros 128 n)
one_word n p h =
    let long : 2 ^ 64 ≤ n = go n p in
    let t = leading_top 128 n (lt_of_lt_of_le (pow_pos 64) long) h in
    leads (count_leading_zeros 128 n) t.0 t.1 t.2 t.3 (pow_lt_back 64 (suc t.0) (lt_of_le_of_lt long t.3))
  where
    go : (n : ℕ) → (n / 2 ^ 64 ≡ 0 → ⊥) → 2 ^ 64 ≤ n
    go n p = omega arith

    leads : (z k : ℕ) → z + suc k ≡ 128 → 2 ^ k ≤ n → n < 2 ^ suc k → 64 < suc k → OneWord n z
    leads z k e a b l =
        let d = 64 - z in
        let low : 2 ^ 63 ≤ n / 2 ^ d = (le-div_iff_mul-le (pow_pos d)).1 (le_trans (le_of_eq (sym (pow-add 2 63 d) ∙ same-pow (omega arith))) a) in
        let high : n / 2 ^ d < 2 ^ 64 = shr_lt 64 d (lt_of_lt_of_le b (le_of_eq (same-pow (omega arith)))) in
        let j = jam-between n d (2 ^ 62) (2 ^ 63) low high in
        record { zeros = omega arith; lo = j.0; hi = j.1 }
