-- Forms that always take the same count of bytes: one test of the length serves all that they read. Assumes nothing.
use mathlib.Core.Path.{◌≡◌, refl, sym, ap, ◌∙◌, subst}
use mathlib.Core.Bool.{Bool, true, false, cond, ◌&&◌}
use mathlib.Core.Option.{Option, none, some}
use mathlib.Core.List.{List, []}
use Prim.Native.Nat.{ℕ, zero, suc, ◌+◌, ◌*◌, ◌^◌, ◌≤◌, ◌<◌}
use native.Mathlib.Nat.{mul-zero, mul-suc}
use native.Mathlib.Omega.{arith}
use lib.Dec.{leb, ltb, eqb}
use lib.ListN.{length, take, drop, length-drop}
use borrow.Author.Tests.{leb-true}
use Rattle.parsing.specs.Parse.{Part, ill, part, IllFormed, ill_formed, pure, fail, follow, when, present, times, ◌>>=◌}
use Rattle.parsing.proofs.ParseLaws.{items-is, no_part}
use Rattle.sheet.specs.Form.{Form, integer_kind, double_kind, absent_kind, bytes, num, code, flag, double, string, counted, coordinate_of, coordinate, point, spacing_of, spacing}
use Rattle.units.specs.declared.Unit.{Unit}
use Rattle.forms.proofs.Step.{items-short}

-- less than k bytes are ill-formed, and k bytes are taken
pub record Sized {A : Type 0} (k : ℕ) (p : Form A) : Type 0 where
  pub short : (s : List ℕ) → length s < k → p s ≡ ill ill_formed
  pub takes : (s : List ℕ) (a : A) (r : List ℕ) → p s ≡ part a r → length s ≡ k + length r

pub sized-fail : {A : Type 0} (k : ℕ) → Sized {A = A} k (fail ill_formed)
sized-fail k = record { short = λ s h. refl; takes = λ s a r e. no_part e }

pub sized-pure : {A : Type 0} (a : A) → Sized 0 (pure a)
sized-pure {A} a = record { short = λ s h. absurd (omega arith); takes = λ s b r e. go s b r e }
  where
    go : (s : List ℕ) (b : A) (r : List ℕ) → ◌≡◌ {A = Part IllFormed ℕ A} (part a s) (part b r) → length s ≡ 0 + length r
    go s b r e = let z : s ≡ r = cc in rw z (omega arith)

pub sized-bind : {A B : Type 0} (j k n : ℕ) (p : Form A) (f : A → Form B) → j + k ≡ n → Sized j p → ((a : A) → Sized k (f a)) → Sized n (p >>= f)
sized-bind {A} {B} j k n p f q g h = record { short = λ s l. short s l (p s) refl; takes = λ s b r e. takes s b r (p s) refl e }
  where
    short : (s : List ℕ) → length s < n → (z : Part IllFormed ℕ A) → p s ≡ z → follow z f ≡ ill ill_formed
    short s l (ill ill_formed) d = refl
    short s l (part a t) d = (h a).short t (let x = g.takes s a t d in omega arith)

    takes : (s : List ℕ) (b : B) (r : List ℕ) → (z : Part IllFormed ℕ A) → p s ≡ z → follow z f ≡ part b r → length s ≡ n + length r
    takes s b r (ill c) d e = no_part e
    takes s b r (part a t) d e = let x = g.takes s a t d in let y = (h a).takes t b r e in omega arith

pub sized-cond : {A : Type 0} (k : ℕ) (t : Bool) (p q : Form A) → Sized k p → Sized k q → Sized k (cond t p q)
sized-cond k true p q g h = g
sized-cond k false p q g h = h

pub sized-when : {A : Type 0} (k : ℕ) (t : Bool) (p : Form A) → Sized k p → Sized k (when ill_formed t p)
sized-when k true p g = g
sized-when k false p g = sized-fail k

pub sized-present : {A : Type 0} (x : Option A) → Sized 0 (present ill_formed x)
sized-present none = sized-fail 0
sized-present (some a) = sized-pure a

-- ---- the parts of a block

pub sized-bytes : (k : ℕ) → Sized k (bytes k)
sized-bytes k = record { short = λ s h. items-short k s h; takes = λ s a r e. go s a r (leb k (length s)) refl (sym (items-is ill_formed k s) ∙ e) }
  where
    right : {a b s r : List ℕ} → ◌≡◌ {A = Part IllFormed ℕ (List ℕ)} (part a s) (part b r) → s ≡ r
    right e = cc

    go : (s a r : List ℕ) (t : Bool) → leb k (length s) ≡ t → cond t (part (take k s) (drop k s)) (ill ill_formed) ≡ part a r → length s ≡ k + length r
    go s a r true q e = let l = leb-true k (length s) q in let z : length (drop k s) ≡ length r = ap length (right e) in omega (arith, length-drop k s)
    go s a r false q e = no_part e

pub sized-num : (k : ℕ) → Sized k (num k)
unfolding num
sized-num k = sized-bind k 0 k (bytes k) _ (omega arith) (sized-bytes k) (λ a. sized-pure _)

pub sized-code : (n : ℕ) → Sized 1 (code n)
unfolding code
sized-code n = sized-bind 1 0 1 (num 1) _ refl (sized-num 1) (λ b. sized-when 0 (leb b n) (pure b) (sized-pure b))

pub sized-flag : Sized 1 flag
unfolding flag
sized-flag = sized-bind 1 0 1 (code 1) _ refl (sized-code 1) (λ b. sized-pure _)

pub sized-double : Sized 8 double
unfolding double
sized-double = sized-bind 8 0 8 (num 8) _ refl (sized-num 8) (λ b. sized-pure _)

pub sized-times : {A : Type 0} (k n : ℕ) (p : Form A) → Sized k p → Sized (k * n) (times n p)
unfolding times
sized-times k zero p g = subst (λ (m : ℕ). Sized m (times 0 p)) (sym (mul-zero k)) (sized-pure [])
sized-times k (suc n) p g =
    sized-bind k (k * n) (k * suc n) p _ (go (k * n) (k * suc n) (mul-suc k n)) g (λ a. sized-bind (k * n) 0 (k * n) (times n p) _ (omega arith) (sized-times k n p g) (λ t. sized-pure _))
  where
    go : (x y : ℕ) → y ≡ x + k → k + x ≡ y
    go x y e = omega arith

sized-coordinate_of : (k v u : ℕ) → Sized 0 (coordinate_of k v u)
unfolding coordinate_of
sized-coordinate_of k v u =
    sized-cond 0 (eqb k integer_kind) _ _ (sized-when 0 (ltb v (2 ^ 32)) _ (sized-pure _))
    (sized-cond 0 (eqb k double_kind) _ _ (sized-pure _)
    (sized-cond 0 (eqb k absent_kind) _ _ (sized-when 0 (eqb v 0 && eqb u 0) _ (sized-pure _)) (sized-fail 0)))

pub sized-coordinate : Sized 17 coordinate
unfolding coordinate
sized-coordinate =
    sized-bind 1 16 17 (num 1) _ refl (sized-num 1) (λ k. sized-bind 8 8 16 (num 8) _ refl (sized-num 8) (λ v. sized-bind 8 0 8 (num 8) _ refl (sized-num 8) (λ u. sized-coordinate_of k v u)))

pub sized-point : Sized 34 point
unfolding point
sized-point = sized-bind 17 17 34 _ _ refl there (λ x. sized-bind 17 0 17 _ _ refl there (λ y. sized-pure _))
  where
    there : Sized 17 (coordinate >>= present ill_formed)
    there = sized-bind 17 0 17 coordinate _ refl sized-coordinate (λ x. sized-present x)

sized-spacing_of : (x y : Option Unit) → Sized 0 (spacing_of x y)
unfolding spacing_of
sized-spacing_of none none = sized-pure none
sized-spacing_of none (some y) = sized-fail 0
sized-spacing_of (some x) none = sized-fail 0
sized-spacing_of (some x) (some y) = sized-pure _

pub sized-spacing : Sized 34 spacing
unfolding spacing
sized-spacing = sized-bind 17 17 34 coordinate _ refl sized-coordinate (λ x. sized-bind 17 0 17 coordinate _ refl sized-coordinate (λ y. sized-spacing_of x y))

-- what was taken lies in the block
pub sized-within : {A : Type 0} (k : ℕ) (p : Form A) (b : List ℕ) (at : ℕ) {a : A} → Sized k p → at ≤ length b → p (drop at b) ≡ part a (drop (at + k) b) → at + k ≤ length b
sized-within k p b at {a} g h e = let x = simp length-drop at (g.takes (drop at b) a (drop (at + k) b) e) in omega arith

-- ---- what the first k bytes decide: a form that needs at least k

abbrev pub Needs : {A : Type 0} → ℕ → Form A → Type 0
Needs k p = (s : List ℕ) → length s < k → p s ≡ ill ill_formed

pub needs-bind : {A B : Type 0} (j k n : ℕ) (p : Form A) (f : A → Form B) → j + k ≡ n → Sized j p → ((a : A) → Needs k (f a)) → Needs n (p >>= f)
needs-bind {A} {B} j k n p f q g h s l = go (p s) refl
  where
    go : (z : Part IllFormed ℕ A) → p s ≡ z → follow z f ≡ ill ill_formed
    go (ill ill_formed) d = refl
    go (part a t) d = h a t (let x = g.takes s a t d in omega arith)

-- a form in front of which p stands needs what p needs
pub needs-front : {A B : Type 0} (k : ℕ) (p : Form A) (f : A → Form B) → Needs k p → Needs k (p >>= f)
needs-front k p f g s l = ap (λ (y : Part IllFormed ℕ _). follow y f) (g s l)

pub string-needs : Needs 2 string
unfolding string
string-needs = needs-front 2 (num 2) _ (sized-num 2).short

pub counted-needs : {A : Type 0} (p : Form A) → Needs 2 (counted p)
unfolding counted
counted-needs p = needs-front 2 (num 2) (λ n. times n p) (sized-num 2).short
