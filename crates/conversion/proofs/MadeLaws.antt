-- Steps taken apart: those that were not refused, and checks that are known to pass or to fail. Assumes nothing.
use mathlib.Core.Path.{◌≡◌, refl, sym, ap, ◌∙◌}
use mathlib.Core.Bool.{Bool, true, false}
use mathlib.Core.List.{List, [], append_assoc}
use Prim.Native.Nat.{ℕ}
use native.Mathlib.Omega.{arith}
use lib.Dec.{T}
use lib.Ieee.Bits.{is_true as on}
use Rattle.refusal.specs.declared.Refusal.{Refusal}
use Rattle.conversion.specs.declared.Deviation.{Deviation}
use Rattle.conversion.specs.Made.{Made, Done, refused, made, pure, after, need, ◌>>=◌, ◌>>◌}

-- ---- what was not refused

-- the step gives a, with some deviations
pub record Yields {A : Type 0} (m : Made A) (a : A) : Type 0 where
  pub log : List Deviation
  pub is : m ≡ made a log

pub no-yield : {A : Type 0} {B : Type 0} {r : Refusal} {a : A} → Yields (refused r) a → B
no-yield {r = r} {a = a} y = let e = y.is in let z : ◌≡◌ {A = ℕ} 0 1 = cc in absurd (omega arith)

pub made_yields : {A : Type 0} {a b : A} {vs : List Deviation} → Yields (made a vs) b → a ≡ b
made_yields y = let e = y.is in cc

-- two steps
pub record Steps {A B : Type 0} (m : Made A) (f : A → Made B) (b : B) : Type 0 where
  pub value : A
  pub first : Yields m value
  pub then : Yields (f value) b

after-yields : {A : Type 0} (vs : List Deviation) (m : Made A) (a : A) → Yields (after vs m) a → Yields m a
after-yields vs (refused r) a y = no-yield y
after-yields vs (made b es) a y = record { log = es; is = ap (λ (z : _). made z es) (made_yields y) }

pub steps : {A B : Type 0} {m : Made A} {f : A → Made B} {b : B} → Yields (m >>= f) b → Steps m f b
unfolding ◌>>=◌
steps {m = m} {f = f} {b = b} y = go m y
  where
    go : (m : Made _) → Yields (m >>= f) b → Steps m f b
    go (refused r) y = no-yield y
    go (made a vs) y = record { value = a; first = record { log = vs; is = refl }; then = after-yields vs (f a) b y }

-- a check, then a step
pub record Checked (t : Bool) {B : Type 0} (n : Made B) (b : B) : Type 0 where
  pub passed : T t
  pub then : Yields n b

pub checked : {B : Type 0} {t : Bool} (r : Refusal) {n : Made B} {b : B} → Yields (need t r >> n) b → Checked t n b
unfolding ◌>>=◌ ◌>>◌ need
checked {t = t} r {n = n} {b = b} y = go t y
  where
    go : (t : Bool) → Yields (need t r >> n) b → Checked t n b
    go true y = record { passed = tt; then = after-yields [] n b y }
    go false y = no-yield y

-- a check that comes last
pub needed : (t : Bool) (r : Refusal) {u : Done} → Yields (need t r) u → T t
unfolding need
needed t r {u} y = go t y
  where
    go : (t : Bool) → Yields (need t r) u → T t
    go true y = tt
    go false y = no-yield y

-- a step whose value is not used, then another
pub then-steps : {A B : Type 0} {m : Made A} {n : Made B} {b : B} → Yields (m >> n) b → Steps m (λ a. n) b
unfolding ◌>>◌
then-steps y = steps y

-- ---- steps that are known

none_before : {A : Type 0} (m : Made A) → after [] m ≡ m
none_before (refused r) = refl
none_before (made a es) = refl

pub need-on : {A : Type 0} (t : Bool) (r : Refusal) (m : Made A) → t ≡ true → need t r >> m ≡ m
unfolding need ◌>>◌ ◌>>=◌
need-on t r m h = ap (λ (b : Bool). need b r >> m) h ∙ none_before m

pub need-off : {A : Type 0} (t : Bool) (r : Refusal) (m : Made A) → t ≡ false → need t r >> m ≡ refused r
unfolding need ◌>>◌ ◌>>=◌
need-off t r m h = ap (λ (b : Bool). need b r >> m) h

pub pure_then : {A B : Type 0} (a : A) (f : A → Made B) → pure a >>= f ≡ f a
unfolding ◌>>=◌
pure_then a f = none_before (f a)

-- a step that is known to report nothing, then another
pub then-pure : {A B : Type 0} {m : Made A} {a : A} (f : A → Made B) {r : Made B} → m ≡ pure a → f a ≡ r → m >>= f ≡ r
then-pure {a = a} f e g = ap (λ (m : Made _). m >>= f) e ∙ pure_then a f ∙ g

pub refused-then : {A B : Type 0} (r : Refusal) (f : A → Made B) → refused r >>= f ≡ refused r
unfolding ◌>>=◌
refused-then r f = refl

-- a step that is what an answer stands for, then another
module _ {A B : Type 0} (m : Made A) (f : A → Made B) where
  pub refused-on : (r : Refusal) → refused r ≡ m → refused r ≡ m >>= f
  refused-on r h = sym (refused-then r f) ∙ ap (λ (n : Made A). n >>= f) h

  pub pure-on : (a : A) → pure a ≡ m → f a ≡ m >>= f
  pure-on a h = sym (pure_then a f) ∙ ap (λ (n : Made A). n >>= f) h

-- three steps in turn, of which the last value is used
pub then-assoc : {A B C : Type 0} (m : Made A) (n : Made B) (o : Made C) → (m >> n) >> o ≡ m >> (n >> o)
unfolding ◌>>◌ ◌>>=◌
then-assoc (refused r) n o = refl
then-assoc (made a us) (refused r) o = refl
then-assoc (made a us) (made b vs) (refused r) = refl
then-assoc (made a us) (made b vs) (made c ws) = ap (λ (es : List Deviation). made c es) (append_assoc us vs ws)

-- ---- a check, and two in turn

module _ (t : Bool) (r : Refusal) where
  pub stops : t ≡ false → refused r ≡ need t r
  unfolding need
  stops a = sym (ap (λ (b : Bool). need b r) a)

  pub passes : t ≡ true → pure tt ≡ need t r
  unfolding need
  passes a = sym (ap (λ (b : Bool). need b r) a)

module _ (s t : Bool) (q r : Refusal) where
  pub first_stops : s ≡ false → refused q ≡ need s q >> need t r
  first_stops a = sym (need-off s q _ a)

  pub second-stops : s ≡ true → t ≡ false → refused r ≡ need s q >> need t r
  second-stops a b = stops t r b ∙ sym (need-on s q _ a)

  pub both-pass : s ≡ true → t ≡ true → pure tt ≡ need s q >> need t r
  both-pass a b = passes t r b ∙ sym (need-on s q _ a)

  -- what is not refused has passed both
  pub both-passed : {u : Done} → Yields (need s q >> need t r) u → pure tt ≡ need s q >> need t r
  both-passed y =
      let k = checked q y in
      both-pass (on _ k.passed) (on _ (needed t r k.then))
