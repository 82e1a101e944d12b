-- An element's entry while it is written, and steps run against it: each line of a `do` is taken off the front by one law. Assumes nothing.
use mathlib.Core.Path.{◌≡◌, refl, sym, ap, ◌∙◌}
use mathlib.Core.Bool.{Bool, true, false, cond}
use mathlib.Core.List.{List, [], ◌∷◌, ◌++◌, append-nil}
use Prim.Native.Nat.{ℕ, zero, suc, ◌+◌, ◌<◌}
use native.Mathlib.Omega.{arith}
use lib.Dec.{eqb}
use lib.ListN.{length}
use lib.IntN.{ℤ}
use lib.Ieee.{lt}
use borrow.Author.Tests.{eq-eqb, ne_eqb}
use Rattle.binary64.specs.Value.{abs}
use Rattle.refusal.specs.declared.Refusal.{Refusal}
use Rattle.conversion.specs.declared.Deviation.{Deviation}
use Rattle.conversion.specs.declared.Entry.{Entry}
use Rattle.conversion.specs.Entry.{first_entry, takes, takes_all, entry_of}
use Rattle.conversion.specs.Made.{Made, refused, made, pure, after, need, ◌>>=◌, ◌>>◌}
use Rattle.conversion.specs.code.Fold.{blank_entry, noted, noted_all, standing, run}

-- ---- one deviation, with z for its database value

-- the entry e with the representative v
abbrev pub represented : Entry → Deviation → ℕ → ℤ → Entry
represented e v n z = record { index = e.index; kind = e.kind; field = v.field; axis = v.axis; place = v.place; count = n; physical = v.physical; database = z; error = v.error }

pub larger : (e : Entry) (v : Deviation) (z : ℤ) → z ≡ v.database → lt (abs e.error) (abs v.error) ≡ true → represented e v (e.count + 1) z ≡ takes e v
unfolding takes
larger e v z f h = ap (represented e v (e.count + 1)) f ∙ rw h

-- the entry e with one deviation more
abbrev pub counted : Entry → Entry
counted e = record { index = e.index; kind = e.kind; field = e.field; axis = e.axis; place = e.place; count = e.count + 1; physical = e.physical; database = e.database; error = e.error }

pub smaller : (e : Entry) (v : Deviation) → lt (abs e.error) (abs v.error) ≡ false → counted e ≡ takes e v
unfolding takes
smaller e v h = rw h

pub noted-first : (e : Entry) (v : Deviation) (z : ℤ) → z ≡ v.database → e.count ≡ 0 → represented e v 1 z ≡ noted e v
unfolding noted first_entry
noted-first e v z f h = ap (represented e v 1) f ∙ rw (eq-eqb e.count 0 h)

pub noted_more : (e : Entry) (v : Deviation) → (e.count ≡ 0 → ⊥) → takes e v ≡ noted e v
unfolding noted
noted_more e v h = rw (ne_eqb e.count 0 h)

-- each deviation adds one to the count
takes_count : (e : Entry) (v : Deviation) → (takes e v).count ≡ e.count + 1
unfolding takes
takes_count e v = go (lt (abs e.error) (abs v.error)) refl
  where
    go : (t : Bool) → lt (abs e.error) (abs v.error) ≡ t → (takes e v).count ≡ e.count + 1
    go true h = ap (λ (x : Entry). x.count) (sym (larger e v v.database refl h))
    go false h = ap (λ (x : Entry). x.count) (sym (smaller e v h))

suc-not : (n : ℕ) → suc n ≡ 0 → ⊥
suc-not n e = omega arith

pub noted-count : (e : Entry) (v : Deviation) → (noted e v).count ≡ e.count + 1
unfolding noted
noted-count e v = go e.count refl
  where
    go : (n : ℕ) → e.count ≡ n → (noted e v).count ≡ e.count + 1
    go zero h = ap (λ (x : Entry). x.count) (sym (noted-first e v v.database refl h)) ∙ sym (ap (λ (n : ℕ). n + 1) h)
    go (suc n) h = ap (λ (x : Entry). x.count) (sym (noted_more e v (λ z. suc-not n (sym h ∙ z)))) ∙ takes_count e v

pub noted-all-count : (e : Entry) (vs : List Deviation) → (noted_all e vs).count ≡ e.count + length vs
unfolding noted_all
noted-all-count e [] = go e.count
  where
    go : (n : ℕ) → n ≡ n + 0
    go n = omega arith
noted-all-count e (v ∷ vs) = noted-all-count (noted e v) vs ∙ ap (λ (n : ℕ). n + length vs) (noted-count e v) ∙ go e.count (length vs)
  where
    go : (n k : ℕ) → n + 1 + k ≡ n + suc k
    go n k = omega arith

pub noted-append : (e : Entry) (a b : List Deviation) → noted_all e (a ++ b) ≡ noted_all (noted_all e a) b
unfolding noted_all
noted-append e [] b = refl
noted-append e (v ∷ a) b = noted-append (noted e v) a b

-- ---- the entry that stands for an element

-- after the first one `noted` is `takes`
taken-all : (e : Entry) (vs : List Deviation) → 0 < e.count → noted_all e vs ≡ takes_all e vs
unfolding noted_all
taken-all e [] h = refl
taken-all e (v ∷ vs) h =
    taken-all (noted e v) vs (more (noted e v).count e.count (noted-count e v)) ∙ ap (λ (x : Entry). takes_all x vs) (sym (noted_more e v (above e.count h)))
  where
    more : (a b : ℕ) → a ≡ b + 1 → 0 < a
    more a b e = omega arith

    above : (n : ℕ) → 0 < n → n ≡ 0 → ⊥
    above n h e = omega arith

one : (i k : ℕ) (v : Deviation) → 0 < (first_entry i k v).count
unfolding first_entry
one i k v = omega arith

first : (i k : ℕ) (v : Deviation) → noted (blank_entry i k) v ≡ first_entry i k v
unfolding noted
first i k v = refl

-- what the definition lists is what the entry stands for
pub entry-stands : (i k : ℕ) (vs : List Deviation) → standing (noted_all (blank_entry i k) vs) ≡ entry_of i k vs
unfolding entry_of noted_all
entry-stands i k [] = refl
entry-stands i k (v ∷ vs) =
    ap (λ (n : ℕ). cond (eqb n 0) [] (e ∷ [])) (noted-all-count (noted (blank_entry i k) v) vs ∙ ap (λ (n : ℕ). n + length vs) (noted-count (blank_entry i k) v) ∙ go (length vs))
    ∙ ap (λ (t : Bool). cond t [] (e ∷ [])) (ne_eqb (suc (length vs)) 0 (suc-not (length vs)))
    ∙ ap (λ (x : Entry). x ∷ []) (ap (λ (x : Entry). noted_all x vs) (first i k v) ∙ taken-all (first_entry i k v) vs (one i k v))
  where
    e : Entry
    e = noted_all (noted (blank_entry i k) v) vs

    go : (n : ℕ) → 0 + 1 + n ≡ suc n
    go n = omega arith

-- ---- steps run against an entry

module _ {R : Type 0} (stop : Refusal → R) where
  pub run_bind : {A B : Type 0} (e : Entry) (m : Made A) (f : A → Made B) (k : B → Entry → R) → run stop e (m >>= f) k ≡ run stop e m (λ a e'. run stop e' (f a) k)
  unfolding run ◌>>=◌
  run_bind e (refused r) f k = refl
  run_bind e (made a vs) f k = go (f a)
    where
      go : (m : Made _) → run stop e (after vs m) k ≡ run stop (noted_all e vs) m k
      go (refused r) = refl
      go (made b ws) = ap (k b) (noted-append e vs ws)

  pub run-then : {A B : Type 0} (e : Entry) (m : Made A) (n : Made B) (k : B → Entry → R) → run stop e (m >> n) k ≡ run stop e m (λ a e'. run stop e' n k)
  unfolding ◌>>◌
  run-then e m n k = run_bind e m (λ a. n) k

  pub run-pure : {A : Type 0} (e : Entry) (a : A) (k : A → Entry → R) → run stop e (pure a) k ≡ k a e
  unfolding run noted_all
  run-pure e a k = refl

  pub run-need : {A : Type 0} (e : Entry) (t : Bool) (r : Refusal) (m : Made A) (k : A → Entry → R) → t ≡ true → run stop e (need t r >> m) k ≡ run stop e m k
  unfolding need run noted_all
  run-need e t r m k h = run-then e (need t r) m k ∙ ap (λ (b : Bool). run stop e (need b r) (λ a e'. run stop e' m k)) h

  pub run-unmet : {A : Type 0} (e : Entry) (t : Bool) (r : Refusal) (m : Made A) (k : A → Entry → R) → t ≡ false → run stop e (need t r >> m) k ≡ stop r
  unfolding need run
  run-unmet e t r m k h = run-then e (need t r) m k ∙ ap (λ (b : Bool). run stop e (need b r) (λ a e'. run stop e' m k)) h

  -- a value turned on its way
  pub run-map : {A B : Type 0} (e : Entry) (m : Made A) (g : A → B) (k : B → Entry → R) → run stop e (m >>= λ a. pure (g a)) k ≡ run stop e m (λ a e'. k (g a) e')
  unfolding run ◌>>=◌
  run-map e (refused r) g k = refl
  run-map e (made a vs) g k = ap (λ (ws : List Deviation). k (g a) (noted_all e ws)) (append-nil vs)

  -- what follows, changed where it is the same at each value and entry
  pub run-same : {A : Type 0} (e : Entry) (m : Made A) (k l : A → Entry → R) → ((a : A) (e' : Entry) → k a e' ≡ l a e') → run stop e m k ≡ run stop e m l
  unfolding run
  run-same e (refused r) k l h = refl
  run-same e (made a vs) k l h = h a (noted_all e vs)
