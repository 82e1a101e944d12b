-- What a form gives, where all that it is fed has a property I, as that each is a byte. Assumes nothing.
use mathlib.Core.Path.{◌≡◌, refl, sym, ap, ◌∙◌, subst}
use mathlib.Core.Bool.{Bool, true, false, cond}
use mathlib.Core.Option.{Option, none, some}
use mathlib.Core.List.{List, [], ◌∷◌, ◌++◌}
use Prim.Native.Nat.{ℕ, zero, suc}
use native.Mathlib.Omega.{arith}
use lib.Dec.{T, leb, leb-zero, leb-suc-zero, leb-suc-suc}
use lib.ListN.{length, take, drop}
use Rattle.parsing.specs.Parse.{Part, ill, part, Parse, pure, fail, follow, when, map, present, items, times, ended, whole, ◌>>=◌}
use Rattle.parsing.specs.All.{All, done, more, Opt}
use Rattle.parsing.specs.All as A

pub no_part : {F E A B : Type 0} {c : F} {a : A} {r : List E} → ill c ≡ part a r → B
no_part e = let z : ◌≡◌ {A = ℕ} 0 1 = cc in absurd (omega arith)

-- one part is read, and then what follows it
pub then : {F E A B : Type 0} {z : Part F E A} {a : A} {s : List E} {w : Part F E B} (f : A → Parse F E B) → z ≡ part a s → f a s ≡ w → follow z f ≡ w
then f e g = ap (λ (z : Part _ _ _). follow z f) e ∙ g

-- the next n elements, where there are as many
pub items-append : {F E : Type 0} (c : F) (a b : List E) → items c (length a) (a ++ b) ≡ part a b
unfolding items
items-append c [] b = refl
items-append c (x ∷ a) b = ap (λ (z : Part _ _ _). follow z (λ t. pure (x ∷ t))) (items-append c a b)

-- the same by `take` and `drop`: for code that tests the length
pub items-is : {F E : Type 0} (c : F) (n : ℕ) (s : List E) → items c n s ≡ cond (leb n (length s)) (part (take n s) (drop n s)) (ill c)
unfolding items
items-is c zero s = sym (ap (λ (b : Bool). cond b (part [] s) (ill c)) (leb-zero (length s)))
items-is c (suc n) [] = sym (ap (λ (b : Bool). cond b (part (take (suc n) []) (drop (suc n) [])) (ill c)) (leb-suc-zero n))
items-is c (suc n) (x ∷ s) =
    ap (λ (z : Part _ _ _). follow z (λ t. pure (x ∷ t))) (items-is c n s)
    ∙ inside (leb n (length s))
    ∙ sym (ap (λ (b : Bool). cond b (part (x ∷ take n s) (drop n s)) (ill c)) (leb-suc-suc n (length s)))
  where
    inside : (b : Bool) → follow (cond b (part (take n s) (drop n s)) (ill c)) (λ t. pure (x ∷ t)) ≡ cond b (part (x ∷ take n s) (drop n s)) (ill c)
    inside true = refl
    inside false = refl

-- n parts, each with Q
pub record Parts {A : Type 0} (Q : A → Type 0) (n : ℕ) (s : List A) : Type 0 where
  pub all : All Q s
  pub count : length s ≡ n

module _ {F E : Type 0} (I : List E → Type 0) where
  -- fed what has I, p gives what has Q and leaves what has I
  pub record Gives {A : Type 0} (p : Parse F E A) (Q : A → Type 0) : Type 0 where
    pub value : (s : List E) (a : A) (r : List E) → I s → p s ≡ part a r → Q a
    pub rest : (s : List E) (a : A) (r : List E) → I s → p s ≡ part a r → I r

  pub gives-pure : {A : Type 0} {Q : A → Type 0} (a : A) → Q a → Gives (pure a) Q
  gives-pure {A} {Q} a q = record {
    value = λ s b r h e. subst Q (left e) q;
    rest = λ s b r h e. subst I (right e) h;
  }
    where
      left : {a b : A} {s r : List E} → ◌≡◌ {A = Part F E A} (part a s) (part b r) → a ≡ b
      left e = cc

      right : {a b : A} {s r : List E} → ◌≡◌ {A = Part F E A} (part a s) (part b r) → s ≡ r
      right e = cc

  pub gives-fail : {A : Type 0} {Q : A → Type 0} (c : F) → Gives (fail c) Q
  gives-fail c = record { value = λ s b r h e. no_part e; rest = λ s b r h e. no_part e }

  pub gives-when : {A : Type 0} {Q : A → Type 0} (c : F) (t : Bool) (p : Parse F E A) → (T t → Gives p Q) → Gives (when c t p) Q
  gives-when c true p g = g tt
  gives-when c false p g = gives-fail c

  -- one of two, by a test
  pub gives-cond : {A : Type 0} {Q : A → Type 0} (t : Bool) {p q : Parse F E A} → (T t → Gives p Q) → Gives q Q → Gives (cond t p q) Q
  gives-cond true g h = g tt
  gives-cond false g h = h

  pub gives-present : {A : Type 0} {Q : A → Type 0} (c : F) (o : Option A) → Opt Q o → Gives (present c o) Q
  gives-present c none h = gives-fail c
  gives-present c (some a) (A.present h) = gives-pure a h

  pub gives-bind : {A B : Type 0} {Q : A → Type 0} {R : B → Type 0} (p : Parse F E A) (f : A → Parse F E B) → Gives p Q → ((a : A) → Q a → Gives (f a) R) → Gives (p >>= f) R
  gives-bind {A} {B} {Q} {R} p f g k = record { value = λ s b r h e. left s b r h (p s) refl e; rest = λ s b r h e. right s b r h (p s) refl e }
    where
      left : (s : List E) (b : B) (r : List E) → I s → (z : Part F E A) → p s ≡ z → follow z f ≡ part b r → R b
      left s b r h (ill c) d e = no_part e
      left s b r h (part a t) d e = (k a (g.value s a t h d)).value t b r (g.rest s a t h d) e

      right : (s : List E) (b : B) (r : List E) → I s → (z : Part F E A) → p s ≡ z → follow z f ≡ part b r → I r
      right s b r h (ill c) d e = no_part e
      right s b r h (part a t) d e = (k a (g.value s a t h d)).rest t b r (g.rest s a t h d) e

  pub gives-weaker : {A : Type 0} {Q R : A → Type 0} (p : Parse F E A) → ((a : A) → Q a → R a) → Gives p Q → Gives p R
  gives-weaker p f g = record { value = λ s a r h e. f a (g.value s a r h e); rest = g.rest }

  pub gives-map : {A B : Type 0} {Q : A → Type 0} {R : B → Type 0} (f : A → B) (p : Parse F E A) → Gives p Q → ((a : A) → Q a → R (f a)) → Gives (map f p) R
  gives-map f p g k = gives-bind p (λ a. pure (f a)) g (λ a q. gives-pure (f a) (k a q))

  pub gives-times : {A : Type 0} {Q : A → Type 0} (n : ℕ) (p : Parse F E A) → Gives p Q → Gives (times n p) (Parts Q n)
  unfolding times
  gives-times zero p g = gives-pure [] (record { all = done; count = refl })
  gives-times (suc n) p g =
      gives-bind p (λ a. times n p >>= λ t. pure (a ∷ t)) g
      (λ a q. gives-bind (times n p) (λ t. pure (a ∷ t)) (gives-times n p g) (λ t h. gives-pure (a ∷ t) (record { all = more q h.all; count = ap suc h.count })))

  pub gives_whole : {A : Type 0} {Q : A → Type 0} (p : Parse F E A) (s : List E) (a : A) → Gives p Q → I s → whole p s ≡ some a → Q a
  gives_whole {A} {Q} p s a g h e = go (p s) refl e
    where
      none-some : {b : A} {C : Type 0} → none ≡ some b → C
      none-some e = let z : ◌≡◌ {A = ℕ} 0 1 = cc in absurd (omega arith)

      some_back : {b c : A} → some b ≡ some c → b ≡ c
      some_back e = cc

      go : (z : Part F E A) → p s ≡ z → ended z ≡ some a → Q a
      go (ill c) d e = none-some e
      go (part b []) d e = subst Q (some_back e) (g.value s b [] h d)
      go (part b (x ∷ r)) d e = none-some e
