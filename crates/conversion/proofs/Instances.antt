-- The bound of an array's instances: the errors of the origin and of the steps add up. Assumes nothing.
use mathlib.Core.Path.{◌≡◌, sym, ap, ap₂, ◌∙◌, subst}
use Prim.Native.Nat.{ℕ, zero, suc, ◌+◌, ◌*◌, ◌^◌, ◌≤◌}
use native.Mathlib.Nat.{le_refl, le_trans, le_of_eq, zero-mul, suc-mul, mul-le-mul_left}
use native.Mathlib.Omega.{arith}
use lib.IntN.{ℤ, pos, negsuc, neg_ℤ, nat_abs, pred_ℤ, ◌+ℤ◌, ◌-ℤ◌, ◌*ℤ◌, +ℤ_idr, +ℤ_assoc, +ℤ_comm, +ℤ-suc_ℤ, +ℤ-pred_ℤ, neg_ℤ-+ℤ, zero-*ℤ, suc_ℤ-*ℤ, pred_ℤ-*ℤ}
use lib.Ieee.{Float}
use Rattle.binary64.specs.Value.{scaled}
use Rattle.conversion.specs.Close.{Close}
use Rattle.conversion.proofs.Distance.{sub-abs}

-- ---- products of whole numbers

times-pos : (x : ℤ) (n : ℕ) (z : ℤ) → (x +ℤ pos n) *ℤ z ≡ x *ℤ z +ℤ pos n *ℤ z
times-pos x zero z = ap (λ (t : ℤ). t *ℤ z) (+ℤ_idr x) ∙ sym (+ℤ_idr (x *ℤ z)) ∙ ap (λ (t : ℤ). x *ℤ z +ℤ t) (sym (zero-*ℤ z))
times-pos x (suc n) z =
    ap (λ (t : ℤ). t *ℤ z) (+ℤ-suc_ℤ x (pos n)) ∙ suc_ℤ-*ℤ (x +ℤ pos n) z ∙ ap (λ (t : ℤ). t +ℤ z) (times-pos x n z)
    ∙ +ℤ_assoc (x *ℤ z) (pos n *ℤ z) z ∙ ap (λ (t : ℤ). x *ℤ z +ℤ t) (sym (suc_ℤ-*ℤ (pos n) z))

-- one less
times-pred : (x y z : ℤ) → (x +ℤ y) *ℤ z ≡ x *ℤ z +ℤ y *ℤ z → (x +ℤ pred_ℤ y) *ℤ z ≡ x *ℤ z +ℤ pred_ℤ y *ℤ z
times-pred x y z e =
    ap (λ (t : ℤ). t *ℤ z) (+ℤ-pred_ℤ x y) ∙ pred_ℤ-*ℤ (x +ℤ y) z ∙ ap (λ (t : ℤ). t -ℤ z) e
    ∙ +ℤ_assoc (x *ℤ z) (y *ℤ z) (neg_ℤ z) ∙ ap (λ (t : ℤ). x *ℤ z +ℤ t) (sym (pred_ℤ-*ℤ y z))

times-neg : (x : ℤ) (n : ℕ) (z : ℤ) → (x +ℤ negsuc n) *ℤ z ≡ x *ℤ z +ℤ negsuc n *ℤ z
times-neg x zero z = times-pred x (pos zero) z (times-pos x zero z)
times-neg x (suc n) z = times-pred x (negsuc n) z (times-neg x n z)

pub times-sum : (x y z : ℤ) → (x +ℤ y) *ℤ z ≡ x *ℤ z +ℤ y *ℤ z
times-sum x (pos n) z = times-pos x n z
times-sum x (negsuc n) z = times-neg x n z

pub times-times : (i : ℕ) (a z : ℤ) → (pos i *ℤ a) *ℤ z ≡ pos i *ℤ (a *ℤ z)
times-times zero a z = ap (λ (t : ℤ). t *ℤ z) (zero-*ℤ a) ∙ zero-*ℤ z ∙ sym (zero-*ℤ (a *ℤ z))
times-times (suc i) a z =
    ap (λ (t : ℤ). t *ℤ z) (suc_ℤ-*ℤ (pos i) a) ∙ times-sum (pos i *ℤ a) a z ∙ ap (λ (t : ℤ). t +ℤ a *ℤ z) (times-times i a z) ∙ sym (suc_ℤ-*ℤ (pos i) (a *ℤ z))

-- ---- distances

abs-sum : (x y : ℤ) → nat_abs (x +ℤ y) ≤ nat_abs x + nat_abs y
abs-sum (pos a) (pos b) = le_refl (a + b)
abs-sum (pos a) (negsuc b) = omega (arith, sub-abs a (suc b))
abs-sum (negsuc a) (pos b) = omega (arith, sub-abs b (suc a))
abs-sum (negsuc a) (negsuc b) = omega arith

regroup : (x y x' y' : ℤ) → (x +ℤ y) -ℤ (x' +ℤ y') ≡ (x -ℤ x') +ℤ (y -ℤ y')
regroup x y x' y' =
    ap (λ (t : ℤ). (x +ℤ y) +ℤ t) (neg_ℤ-+ℤ x' y')
    ∙ +ℤ_assoc x y (neg_ℤ x' +ℤ neg_ℤ y')
    ∙ ap (λ (t : ℤ). x +ℤ t) (sym (+ℤ_assoc y (neg_ℤ x') (neg_ℤ y')) ∙ ap (λ (t : ℤ). t +ℤ neg_ℤ y') (+ℤ_comm y (neg_ℤ x')) ∙ +ℤ_assoc (neg_ℤ x') y (neg_ℤ y'))
    ∙ sym (+ℤ_assoc x (neg_ℤ x') (y +ℤ neg_ℤ y'))

apart-sum : (x y x' y' : ℤ) → nat_abs ((x +ℤ y) -ℤ (x' +ℤ y')) ≤ nat_abs (x -ℤ x') + nat_abs (y -ℤ y')
apart-sum x y x' y' = subst (λ (t : ℤ). nat_abs t ≤ nat_abs (x -ℤ x') + nat_abs (y -ℤ y')) (sym (regroup x y x' y')) (abs-sum (x -ℤ x') (y -ℤ y'))

apart-times : (i : ℕ) (x x' : ℤ) → nat_abs (pos i *ℤ x -ℤ pos i *ℤ x') ≤ i * nat_abs (x -ℤ x')
apart-times zero x x' = le_of_eq (ap₂ (λ (a b : ℤ). nat_abs (a -ℤ b)) (zero-*ℤ x) (zero-*ℤ x') ∙ sym (zero-mul (nat_abs (x -ℤ x'))))
apart-times (suc i) x x' =
    le_trans (le_of_eq (ap₂ (λ (a b : ℤ). nat_abs (a -ℤ b)) (suc_ℤ-*ℤ (pos i) x) (suc_ℤ-*ℤ (pos i) x')))
    (le_trans (apart-sum (pos i *ℤ x) x (pos i *ℤ x') x')
    (le_trans (go (nat_abs (pos i *ℤ x -ℤ pos i *ℤ x')) (i * nat_abs (x -ℤ x')) (nat_abs (x -ℤ x')) (apart-times i x x')) (le_of_eq (sym (suc-mul i (nat_abs (x -ℤ x')))))))
  where
    go : (a b c : ℕ) → a ≤ b → a + c ≤ b + c
    go a b c h = omega arith

-- ---- the bound

-- (o + i a + j b) d against Po + i Pa + j Pb
pub close-sum : (n i j : ℕ) (d : Float) (o a b Po Pa Pb : ℤ) → Close n d Po o → Close n d Pa a → Close n d Pb b
    → Close ((1 + i + j) * n) d (Po +ℤ pos i *ℤ Pa +ℤ pos j *ℤ Pb) (o +ℤ pos i *ℤ a +ℤ pos j *ℤ b)
close-sum n i j d o a b Po Pa Pb co ca cb =
    let D = scaled d in
    let e : (o +ℤ pos i *ℤ a +ℤ pos j *ℤ b) *ℤ D ≡ o *ℤ D +ℤ pos i *ℤ (a *ℤ D) +ℤ pos j *ℤ (b *ℤ D)
    = times-sum (o +ℤ pos i *ℤ a) (pos j *ℤ b) D ∙ ap₂ ◌+ℤ◌ (times-sum o (pos i *ℤ a) D ∙ ap (λ (t : ℤ). o *ℤ D +ℤ t) (times-times i a D)) (times-times j b D) in
    let xo = nat_abs (o *ℤ D -ℤ Po) in
    let xa = nat_abs (a *ℤ D -ℤ Pa) in
    let xb = nat_abs (b *ℤ D -ℤ Pb) in
    let h1 = apart-sum (o *ℤ D +ℤ pos i *ℤ (a *ℤ D)) (pos j *ℤ (b *ℤ D)) (Po +ℤ pos i *ℤ Pa) (pos j *ℤ Pb) in
    let h2 = apart-sum (o *ℤ D) (pos i *ℤ (a *ℤ D)) Po (pos i *ℤ Pa) in
    let h3 = apart-times i (a *ℤ D) Pa in
    let h4 = apart-times j (b *ℤ D) Pb in
    subst (λ (t : ℤ). nat_abs (t -ℤ (Po +ℤ pos i *ℤ Pa +ℤ pos j *ℤ Pb)) * 2 ^ 22 ≤ (1 + i + j) * n * nat_abs D) (sym e)
    (total (nat_abs (o *ℤ D +ℤ pos i *ℤ (a *ℤ D) +ℤ pos j *ℤ (b *ℤ D) -ℤ (Po +ℤ pos i *ℤ Pa +ℤ pos j *ℤ Pb))) _ _ _ xo xa xb i j n (nat_abs D) h1 h2 h3 h4 co (mul-le-mul_left i ca) (mul-le-mul_left j cb))
  where
    total : (x y u v xo xa xb i j n D : ℕ) → x ≤ y + v → y ≤ xo + u → u ≤ i * xa → v ≤ j * xb → xo * 2 ^ 22 ≤ n * D → i * (xa * 2 ^ 22) ≤ i * (n * D) → j * (xb * 2 ^ 22) ≤ j * (n * D) → x * 2 ^ 22 ≤ (1 + i + j) * n * D
    total x y u v xo xa xb i j n D h1 h2 h3 h4 co ca cb = omega arith
