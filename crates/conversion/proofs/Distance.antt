-- The distance of two whole numbers of one sign, and of multiples. Assumes nothing.
use mathlib.Core.Path.{◌≡◌, sym, ap, ◌∙◌, subst}
use mathlib.Core.Bool.{Bool, true, false, not, cond}
use Prim.Native.Nat.{ℕ, zero, suc, ◌+◌, ◌-◌, ◌*◌, ◌/◌, ◌%◌, ◌^◌, ◌≤◌, ◌<◌}
use native.Mathlib.Nat.{mul_assoc, mul_right_comm, div-add-mod', mod-lt, mul-pos, mul-le-mul_right, zero-lt-suc}
use native.Mathlib.Omega.{arith}
use lib.Dec.{ltb, T, ltb→lt, nltb→le}
use lib.IntN.{ℤ, pos, negsuc, neg_ℤ, nat_abs, sub_ℕ, ◌+ℤ◌, ◌-ℤ◌, ◌*ℤ◌, neg_ℤ-neg_ℤ}
use Rattle.binary64.specs.Value.{signed}
use Rattle.binary64.proofs.Signed.{signed-scale}
use Rattle.binary64.proofs.Half.{Near, near_times, near-cancel, near-eq}

-- ---- whole numbers of one sign

pub sub-abs : (a b : ℕ) → nat_abs (sub_ℕ a b) ≡ a - b + (b - a)
sub-abs a b = go (ltb a b) (ltb→lt a b) (nltb→le a b)
  where
    go : (c : Bool) → (T c → a < b) → (T (not c) → b ≤ a) → nat_abs (cond c (negsuc (b - suc a)) (pos (a - b))) ≡ a - b + (b - a)
    go true h k = let l = h tt in omega arith
    go false h k = let l = k tt in omega arith

pos-abs : (a b : ℕ) → nat_abs (pos a -ℤ pos b) ≡ a - b + (b - a)
pos-abs a zero = omega arith
pos-abs a (suc b) = sub-abs a (suc b)

neg-abs : (a b : ℕ) → nat_abs (neg_ℤ (pos a) +ℤ pos b) ≡ a - b + (b - a)
neg-abs zero b = omega arith
neg-abs (suc a) b = sub-abs b (suc a) ∙ go (suc a) b
  where
    go : (a b : ℕ) → b - a + (a - b) ≡ a - b + (b - a)
    go a b = omega arith

pub signed-abs : (s : Bool) (a b : ℕ) → nat_abs (signed s a -ℤ signed s b) ≡ a - b + (b - a)
signed-abs false a b = pos-abs a b
signed-abs true a b = ap (λ (z : ℤ). nat_abs (neg_ℤ (pos a) +ℤ z)) (neg_ℤ-neg_ℤ (pos b)) ∙ neg-abs a b

-- ---- nearness adds up

pub near-sum : {p q r u v : ℕ} → Near p q u → Near q r v → Near p r (u + v)
near-sum m n = record { above = omega arith; below = omega arith }

-- k grid steps of size u are within c w of S, and S d is within d w of P u, where u is 2 ^ 21 w: then k d is within (c + 1) d / 2 ^ 22 of P
pub near-grid : (k S P D u w c : ℕ) → 0 < w → u ≡ 2 ^ 21 * w → Near (k * u) S (c * w) → Near (S * D) (P * u) (D * w) → Near (k * D * 2 ^ 21) (P * 2 ^ 21) ((c + 1) * D)
near-grid k S P D u w c W e m n =
    near-cancel (k * D * 2 ^ 21) (P * 2 ^ 21) ((c + 1) * D) w W
    (near-eq (first k D u w e) (second P u w e) (third c D w) (near-sum (near_times D m) n))
  where
    first : (k D u w : ℕ) → u ≡ 2 ^ 21 * w → k * u * D ≡ k * D * 2 ^ 21 * w
    first k D u w e = mul_right_comm k u D ∙ ap (λ (z : ℕ). k * D * z) e ∙ sym (mul_assoc (k * D) (2 ^ 21) w)

    second : (P u w : ℕ) → u ≡ 2 ^ 21 * w → P * u ≡ P * 2 ^ 21 * w
    second P u w e = ap (λ (z : ℕ). P * z) e ∙ sym (mul_assoc P (2 ^ 21) w)

    third : (c D w : ℕ) → c * w * D + D * w ≡ (c + 1) * D * w
    third c D w = omega arith

-- the same, as a distance of whole numbers
pub near-abs : (s : Bool) (k P D n : ℕ) → Near (k * D * 2 ^ 21) (P * 2 ^ 21) (n * D) → nat_abs (signed s k *ℤ pos D -ℤ signed s P) * 2 ^ 22 ≤ n * D
near-abs s k P D n m =
    let e : nat_abs (signed s k *ℤ pos D -ℤ signed s P) ≡ k * D - P + (P - k * D) = ap (λ (z : ℤ). nat_abs (z -ℤ signed s P)) (signed-scale s k D) ∙ signed-abs s (k * D) P in
    subst (λ (z : ℕ). z * 2 ^ 22 ≤ n * D) (sym e) (go (k * D) P (n * D) m.above m.below)
  where
    go : (a b m : ℕ) → a * 2 ^ 21 * 2 ≤ b * 2 ^ 21 * 2 + m → b * 2 ^ 21 * 2 ≤ a * 2 ^ 21 * 2 + m → (a - b + (b - a)) * 2 ^ 22 ≤ m
    go a b m h k = omega arith

-- ---- rounding a size to a number of u

-- to the nearest: within a half
pub nearest-near : (S u : ℕ) → 0 < u → Near ((2 * S + u) / (2 * u) * u) S u
nearest-near S u U = go ((2 * S + u) / (2 * u)) ((2 * S + u) % (2 * u)) (div-add-mod' (2 * S + u) (2 * u)) (mod-lt (2 * S + u) (mul-pos (zero-lt-suc 1) U))
  where
    go : (k r : ℕ) → k * (2 * u) + r ≡ 2 * S + u → r < 2 * u → Near (k * u) S u
    go k r e h = record { above = omega arith; below = omega arith }

-- down: within one
pub down-near : (S u : ℕ) → 0 < u → Near (S / u * u) S (2 * u)
down-near S u U = go (S / u) (S % u) (div-add-mod' S u) (mod-lt S U)
  where
    go : (k r : ℕ) → k * u + r ≡ S → r < u → Near (k * u) S (2 * u)
    go k r e h = record { above = omega arith; below = omega arith }

-- up: within one
pub up-near : (S u : ℕ) → 0 < u → Near ((S + u - 1) / u * u) S (2 * u)
up-near S u U = go ((S + u - 1) / u) ((S + u - 1) % u) (div-add-mod' (S + u - 1) u) (mod-lt (S + u - 1) U) U
  where
    go : (k r : ℕ) → k * u + r ≡ S + u - 1 → r < u → 0 < u → Near (k * u) S (2 * u)
    go k r e h l = record { above = omega arith; below = omega arith }

-- what is near a number in range is below 2 ^ 32
pub below-32 : (k S u : ℕ) → 0 < u → k ≤ 2 ^ 31 → Near (k * u) S (2 * u) → S < 2 ^ 32 * u
below-32 k S u U h n = go (k * u) (mul-le-mul_right u h) n.below
  where
    go : (a : ℕ) → a ≤ 2 ^ 31 * u → S * 2 ≤ a * 2 + 2 * u → S < 2 ^ 32 * u
    go a l m = omega arith
