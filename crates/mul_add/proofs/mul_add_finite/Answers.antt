-- `mul_add_finite` meets its contract, by the laws of `FmaLaws` and `NormalLaws`. Assumes nothing.
use mathlib.Core.Path.{◌≡◌, sym, ap, ◌∙◌, subst}
use mathlib.Core.Logic.{◌⊎◌, inl, inr}
use mathlib.Core.Bool.{Bool}
use Prim.Native.Nat.{ℕ, ◌+◌, ◌*◌, ◌%◌, ◌^◌, ◌<◌}
use native.Mathlib.Nat.{zero-mul, mul-pos}
use native.Mathlib.Omega.{arith}
use lib.Dec.{T, lit≤}
use lib.Pow.{pow_pos, shl_exact}
use lib.Ieee.{Float, binary64, low, fits, sum, unlike}
use Rattle.binary64.specs.Value.{unit, size_of}
use Rattle.binary64.specs.code.Parts.{PartsOf}
use Rattle.binary64.proofs.Powers.{times₂}
use Rattle.mul_add.specs.code.Places.{word, scale, raise, addend}
use Rattle.mul_add.specs.code.Normal.{Normal}
use Rattle.mul_add.proofs.NormalLaws.{ready-product, product-same, addend-same}
use Rattle.mul_add.proofs.FmaLaws.{fma-zero, fma-plain, fma-parts}
use Rattle.mul_add.proofs.SumLaws.{sum_same}
use Rattle.mul_add.proofs.mul_add_finite.Goals as goal

-- ---- a double taken apart
module _ (x : Float) (s : Bool) (m j : ℕ) (p : PartsOf x s m j) where
  none : m ≡ 0 → size_of x ≡ 0
  none e = p.size ∙ ap (λ (z : ℕ). z * 2 ^ j) e ∙ zero-mul (2 ^ j)

  some : (m ≡ 0 → ⊥) → 0 < size_of x
  some n = subst (λ (z : ℕ). 0 < z) (sym p.size) (mul-pos (go m n) (pow_pos j))
    where
      go : (m : ℕ) → (m ≡ 0 → ⊥) → 0 < m
      go m n = omega arith

  -- normalized, by the size
  from-size : (n e : ℕ) → Normal m j n e → n * 2 ^ e ≡ size_of x * 2 ^ word
  from-size n e q = q.same ∙ sym (times₂ m j word) ∙ ap (λ (z : ℕ). z * 2 ^ word) (sym p.size)

-- ---- the two numbers that are added, the product of u and v, and w moved up, and their fractions
-- w is moved up within two words
moved : (w : ℕ) → w < 2 ^ 63 → w * 2 ^ raise % 2 ^ 128 ≡ w * 2 ^ raise
moved w h = shl_exact 63 raise 128 h (lit≤ tt)

fractions : (u v i j w k : ℕ) → w < 2 ^ 63 → (s t : Bool) (r : Float) → r ≡ sum binary64 s (u * v * 2 ^ (i + j)) t (w * 2 ^ raise % 2 ^ 128 * 2 ^ (k + addend)) (2 ^ scale)
    → (X Y Z : ℕ) → u * 2 ^ i ≡ X * 2 ^ word → v * 2 ^ j ≡ Y * 2 ^ word → w * 2 ^ k ≡ Z * 2 ^ word → r ≡ sum binary64 s (X * Y) t (Z * unit) (unit * unit)
fractions u v i j w k h s t r is X Y Z a b c =
    is
    ∙ ap (λ (g : ℕ). sum binary64 s (u * v * 2 ^ (i + j)) t (g * 2 ^ (k + addend)) (2 ^ scale)) (moved w h)
    ∙ sum_same binary64 s t (u * v * 2 ^ (i + j)) (w * 2 ^ raise * 2 ^ (k + addend)) (2 ^ scale) (X * Y) (Z * unit) (unit * unit) (pow_pos scale) (mul-pos (pow_pos (low binary64)) (pow_pos (low binary64)))
    (product-same u v i j X Y a b) (addend-same w k Z c)

pub add-requires-clause-x_ready : goal.add-requires-clause-x_ready
add-requires-clause-x_ready c =
    let u = c.normal-u.result in
    let v = c.normal-v.result in
    let nu = c.normal-u.ensures in
    let nv = c.normal-v.ensures in
    ready-product u.digits v.digits (u.power + v.power) nu.lo nu.hi nu.even nv.lo nv.hi (omega arith)

pub returns-then-y-eq0 : goal.returns-then-y-eq0
returns-then-y-eq0 c =
    let held-a : T (fits binary64 c.args.a) = subst T (sym c.well_formed.0.1) tt in
    let held-b : T (fits binary64 c.args.b) = subst T (sym c.well_formed.1.0.1) tt in
    let held-c : T (fits binary64 c.args.c) = subst T (sym c.well_formed.1.1.0.1) tt in
    let a = c.args in
    let zero : (size_of a.a ≡ 0) ⊎ (size_of a.b ≡ 0) = elim c.if-y-eq0.either [ inl e ↦ inl (none _ _ _ _ c.unpack-x.ensures e) | inr e ↦ inr (none _ _ _ _ c.unpack-y.ensures e.1) ] in
    sym (fma-zero a.a a.b a.c held-a held-b held-c c.requires.a_finite c.requires.b_finite c.requires.c_finite zero)

pub returns-then-z-eq0 : goal.returns-then-z-eq0
returns-then-z-eq0 c =
    let held-a : T (fits binary64 c.args.a) = subst T (sym c.well_formed.0.1) tt in
    let held-b : T (fits binary64 c.args.b) = subst T (sym c.well_formed.1.0.1) tt in
    let held-c : T (fits binary64 c.args.c) = subst T (sym c.well_formed.1.1.0.1) tt in
    let a = c.args in
    sym (fma-plain a.a a.b a.c held-a held-b held-c c.requires.a_finite c.requires.b_finite c.requires.c_finite (none _ _ _ _ c.unpack-z.ensures c.if-z-eq0.true)
    (mul-pos (some _ _ _ _ c.unpack-x.ensures c.if-y-eq0.false.0) (some _ _ _ _ c.unpack-y.ensures c.if-y-eq0.false.1)))

pub returns-else-z-eq0 : goal.returns-else-z-eq0
returns-else-z-eq0 c =
    let a = c.args in
    let px = c.unpack-x.ensures in
    let py = c.unpack-y.ensures in
    let pz = c.unpack-z.ensures in
    let nx = c.unpack-x.result.negative in
    let ny = c.unpack-y.result.negative in
    let nz = c.unpack-z.result.negative in
    let u = c.normal-u.result in
    let v = c.normal-v.result in
    let w = c.normal-w.result in
    fma-parts a.a a.b a.c (subst T (sym c.well_formed.0.1) tt) (subst T (sym c.well_formed.1.0.1) tt) (subst T (sym c.well_formed.1.1.0.1) tt)
    c.requires.a_finite c.requires.b_finite c.requires.c_finite nx ny nz px.sign py.sign pz.sign c.add.result
    (fractions u.digits v.digits u.power v.power w.digits w.power c.normal-w.ensures.hi
    (unlike nx ny) nz c.add.result c.add.ensures (size_of a.a) (size_of a.b) (size_of a.c) (from-size _ _ _ _ px _ _ c.normal-u.ensures) (from-size _ _ _ _ py _ _ c.normal-v.ensures) (from-size _ _ _ _ pz _ _ c.normal-w.ensures))
