-- Steps in a row: an answer handed on, steps that succeed, and two steps whose bytes stand one after the other. Assumes nothing.
use mathlib.Core.Path.{◌≡◌, refl, sym, ap, ap₂, ◌∙◌, subst}
use mathlib.Core.Bool.{Bool, true, false}
use mathlib.Core.List.{List, [], ◌++◌, append-nil}
use Prim.Native.Nat.{ℕ, ◌+◌, ◌≤◌}
use native.Mathlib.Omega.{arith}
use lib.ListN.{length, length-append}
use Rattle.std.specs.Prelude.{Result, Ok, Err, IsErrAnd}
use Rattle.refusal.specs.declared.Refusal.{Refusal}
use Rattle.conversion.specs.declared.Deviation.{Deviation}
use Rattle.conversion.specs.declared.Entry.{Entry}
use Rattle.conversion.specs.Made.{Made, refused, made, pure, need, ◌>>=◌, ◌>>◌}
use Rattle.conversion.specs.code.Fold.{noted_all, run}
use Rattle.conversion.proofs.FoldLaws.{noted-append, run_bind, run-map, run-same}
use Rattle.conversion.proofs.MadeLaws.{Yields, need-on, need-off}
use Rattle.big_endian.specs.Buffer.{splice, WroteAt}
use Rattle.big_endian.proofs.BufferLaws.{same_bytes, then_at}
use Rattle.steps.specs.declared.Measured.{Measured}
use Rattle.steps.specs.declared.Written.{Written}
use Rattle.steps.specs.code.Steps.{through, sizing, Measures, Succeeds, Writes}

-- ---- an answer handed on

-- A step's answer is of its own type R, its refusals `stop` and its values `k`. Where g turns these into the answers that are wanted, it turns the step's answer into the one wanted.
pub run-through : {R S A : Type 0} (stop : Refusal → R) (k : A → Entry → R) (g : R → S) (stop' : Refusal → S) (k' : A → Entry → S)
    → ((x : Refusal) → g (stop x) ≡ stop' x) → ((a : A) (e : Entry) → g (k a e) ≡ k' a e)
    → (e : Entry) (m : Made A) → g (run stop e m k) ≡ run stop' e m k'
unfolding run
run-through stop k g stop' k' s f e (refused x) = s x
run-through stop k g stop' k' s f e (made a vs) = f a (noted_all e vs)

-- a refusal that `?` hands on is the one that it met
pub handed : {A : Type 0} (P : Result A Refusal → Type 0) (x : Refusal) (w : Result A Refusal) → IsErrAnd w (λ y. y ≡ x) → P (Err x) → P w
handed P x (Err y) e p = subst (λ (z : Refusal). P (Err z)) (sym e) p
handed P x (Ok a) e p = absurd e

-- ---- measuring two steps in a row

-- what is left after a step was measured
abbrev after : {R : Type 0} → (Refusal → R) → (ℕ → Entry → R) → Result Measured Refusal → R
after stop k (Err x) = stop x
after stop k (Ok m) = k m.length m.entry

module _ {A B C : Type 0} (bytes₁ : A → List ℕ) (bytes₂ : B → List ℕ) (bytes : C → List ℕ) (join : A → B → C)
    (split : (a : A) (b : B) → bytes (join a b) ≡ bytes₁ a ++ bytes₂ b) (e : Entry) (m₁ : Made A) (m₂ : Made B) where
  -- both, the second whatever the first's value
  abbrev pub both : Made C
  both = m₁ >>= λ a. m₂ >>= λ b. pure (join a b)

  -- the lengths add up
  abbrev measured : (n : ℕ) (e' : Entry) → Result Measured Refusal
  measured n e' = run Err e' m₂ (λ b e''. through (n + length (bytes₂ b)) e'')

  sized : (a : A) (b : B) (e' : Entry) → through (length (bytes₁ a) + length (bytes₂ b)) e' ≡ sizing bytes (join a b) e'
  unfolding sizing
  sized a b e' = ap (λ (n : ℕ). through n e') (sym (ap length (split a b) ∙ length-append (bytes₁ a) (bytes₂ b)))

  whole : after Err measured (run Err e m₁ (sizing bytes₁)) ≡ run Err e both (sizing bytes)
  unfolding sizing
  whole =
      run-through Err (sizing bytes₁) (after Err measured) Err (λ a e'. measured (length (bytes₁ a)) e') (λ x. refl) (λ a e'. refl) e m₁
      ∙ run-same Err e m₁ _ _ (λ a e'. run-same Err e' m₂ _ _ (λ b e''. sized a b e'') ∙ sym (run-map Err e' m₂ (λ b. join a b) (sizing bytes)))
      ∙ sym (run_bind Err e m₁ (λ a. m₂ >>= λ b. pure (join a b)) (sizing bytes))

  pub measure-first-refused : (r : Result Measured Refusal) (x : Refusal) → Measures bytes₁ e m₁ r → r ≡ Err x → Measures bytes e both (Err x)
  measure-first-refused r x h g = ap (after Err measured) (sym g ∙ h) ∙ whole

  module _ (r : Result Measured Refusal) (n : ℕ) (e' : Entry) (h : Measures bytes₁ e m₁ r) (g : r ≡ through n e') (s : Result Measured Refusal) (i : Measures bytes₂ e' m₂ s) where
    second : after Err (λ k e''. through (n + k) e'') s ≡ run Err e both (sizing bytes)
    unfolding sizing
    second =
        ap (after Err (λ k e''. through (n + k) e'')) i
        ∙ run-through Err (sizing bytes₂) (after Err (λ k e''. through (n + k) e'')) Err (λ b e''. through (n + length (bytes₂ b)) e'') (λ x. refl) (λ b e''. refl) e' m₂
        ∙ ap (after Err measured) (sym g ∙ h)
        ∙ whole

    pub measure-second-refused : (x : Refusal) → s ≡ Err x → Measures bytes e both (Err x)
    measure-second-refused x j = ap (after Err (λ k e''. through (n + k) e'')) (sym j) ∙ second

    pub measure-both : (k : ℕ) (e'' : Entry) → s ≡ through k e'' → Measures bytes e both (through (n + k) e'')
    measure-both k e'' j = ap (after Err (λ k e''. through (n + k) e'')) (sym j) ∙ second

-- ---- steps that succeed

abbrev pub yields : {A : Type 0} {m : Made A} (s : Succeeds m) → Yields m s.value
yields s = record { log = s.deviations; is = s.makes }

abbrev pub succeeds : {A : Type 0} {m : Made A} {a : A} → Yields m a → Succeeds m
succeeds {a = a} y = record { value = a; deviations = y.log; makes = y.is }

pub never-refused : {A : Type 0} {X : Type 0} {m : Made A} {x : Refusal} → Succeeds m → m ≡ refused x → X
never-refused s h = let g = s.makes in let z : ◌≡◌ {A = ℕ} 0 1 = cc in absurd (omega arith)

-- a step that is refused exactly where another is
pub succeeds-as : {A B : Type 0} {m : Made A} {n : Made B} (e : Entry) → run (λ x. false) e m (λ a e'. true) ≡ run (λ x. false) e n (λ b e'. true) → Succeeds m → Succeeds n
unfolding run
succeeds-as {A} {B} {m} {n} e h s = go n (sym (ap (λ (o : Made A). run (λ x. false) e o (λ a e'. true)) s.makes) ∙ h)
  where
    go : (n : Made B) → true ≡ run (λ x. false) e n (λ b e'. true) → Succeeds n
    go (refused x) h = let z : ◌≡◌ {A = ℕ} 0 1 = cc in absurd (omega arith)
    go (made b ws) h = record { value = b; deviations = ws; makes = refl }

-- a check in front of a step that succeeds has passed
pub past-check : {A : Type 0} (t : Bool) (x : Refusal) (m : Made A) → Succeeds (need t x >> m) → need t x >> m ≡ m
past-check true x m s = need-on true x m refl
past-check false x m s = never-refused s (need-off false x m refl)

-- the step in other words
pub same_step : {A : Type 0} {bytes : A → List ℕ} {e : Entry} {m n : Made A} {at : ℕ} {before after : List ℕ} {r : Written} → m ≡ n → Writes bytes e m at before after r → Writes bytes e n at before after r
same_step {bytes = bytes} {e = e} {at = at} {before = before} {after = after} {r = r} h w = subst (λ (o : Made _). Writes bytes e o at before after r) h w

-- ---- writing, as a loop sees it: what is left to write, at the place reached

-- a refusal; or every byte of the output, where the next one goes, and the entry
pub data Outcome : Type 0 where
  stopped : Refusal → Outcome
  written : List ℕ → ℕ → Entry → Outcome

-- the value's bytes from a place of the output on
unfoldable pub putting : {A : Type 0} → (A → List ℕ) → ℕ → List ℕ → A → Entry → Outcome
putting bytes at before a e = written (splice at (bytes a) before) (at + length (bytes a)) e

module _ {A : Type 0} (bytes : A → List ℕ) (e : Entry) (m : Made A) (at : ℕ) (before after : List ℕ) where
  -- what is written is the step's
  pub writes : (to : ℕ) (e' : Entry) → run stopped e m (putting bytes at before) ≡ written after to e' → to ≤ length before → Writes bytes e m at before after (record { to = to; entry = e' })
  unfolding run putting
  writes to e' h l = go m h
    where
      go : (m : Made A) → run stopped e m (putting bytes at before) ≡ written after to e' → Writes bytes e m at before after (record { to = to; entry = e' })
      go (refused x) h = let z : ◌≡◌ {A = ℕ} 0 1 = cc in absurd (omega arith)
      go (made a vs) h =
          let k : to ≡ at + length (bytes a) = cc in
          record { step = record { value = a; deviations = vs; makes = refl }; wrote = record { count = k; fits = omega arith; out = cc }; entry = cc }

  -- and the other way round
  pub outcome-of : {r : Written} → Writes bytes e m at before after r → run stopped e m (putting bytes at before) ≡ written after r.to r.entry
  unfolding run putting
  outcome-of w = let i = w.wrote.out in let j = w.wrote.count in let k = w.entry in ap (λ (n : Made A). run stopped e n (putting bytes at before)) w.step.makes ∙ cc

-- ---- writing two steps in a row

module _ {A B C : Type 0} (bytes₁ : A → List ℕ) (bytes₂ : B → List ℕ) (bytes : C → List ℕ) (join : A → B → C)
    (split : (a : A) (b : B) → bytes (join a b) ≡ bytes₁ a ++ bytes₂ b) (e : Entry) (m₁ : Made A) (m₂ : Made B) where
  joined : {a : A} {vs : List Deviation} {b : B} {ws : List Deviation} → m₁ ≡ made a vs → m₂ ≡ made b ws → both bytes₁ bytes₂ bytes join split e m₁ m₂ ≡ made (join a b) (vs ++ (ws ++ []))
  unfolding ◌>>=◌
  joined h g = ap₂ (λ (m : Made A) (n : Made B). m >>= λ a. n >>= λ b. pure (join a b)) h g

  pub write-both : {at : ℕ} {before cur last : List ℕ} {r s : Written} → Writes bytes₁ e m₁ at before cur r → Writes bytes₂ r.entry m₂ r.to cur last s
      → Writes bytes e (both bytes₁ bytes₂ bytes join split e m₁ m₂) at before last s
  write-both u v =
      let a = u.step.value in
      let b = v.step.value in
      let vs = u.step.deviations in
      let ws = v.step.deviations in
      record {
        step = record { value = join a b; deviations = vs ++ (ws ++ []); makes = joined u.step.makes v.step.makes };
        wrote = same_bytes (sym (split a b)) (then_at u.wrote v.wrote);
        entry = v.entry
            ∙ ap (λ (x : Entry). noted_all x ws) u.entry
            ∙ sym (noted-append e vs ws)
            ∙ ap (λ (s : List Deviation). noted_all e (vs ++ s)) (sym (append-nil ws));
      }

-- ---- a step whose value is wrapped

module _ {A B : Type 0} (bytes₁ : A → List ℕ) (bytes : B → List ℕ) (wrap : A → B) (e : Entry) (m : Made A) where
  -- its bytes stay
  pub measure-wrapped : ((a : A) → bytes (wrap a) ≡ bytes₁ a) → (r : Result Measured Refusal) → Measures bytes₁ e m r → Measures bytes e (m >>= λ a. pure (wrap a)) r
  unfolding sizing
  measure-wrapped kept r h =
      h ∙ run-same Err e m _ _ (λ a e'. ap (λ (s : List ℕ). through (length s) e') (sym (kept a))) ∙ sym (run-map Err e m wrap (sizing bytes))

  wrapped : {a : A} {vs : List Deviation} → m ≡ made a vs → (m >>= λ a. pure (wrap a)) ≡ made (wrap a) (vs ++ [])
  unfolding ◌>>=◌
  wrapped h = ap (λ (n : Made A). n >>= λ a. pure (wrap a)) h

  -- its bytes may stand after others
  module _ {at : ℕ} {before : List ℕ} {to : ℕ} {cur after : List ℕ} {r : Written} (w : Writes bytes₁ e m to cur after r) where
    wrapped-at : WroteAt (bytes (wrap w.step.value)) before after at r.to → Writes bytes e (m >>= λ a. pure (wrap a)) at before after r
    wrapped-at v =
        let vs = w.step.deviations in
        record {
          step = record { value = wrap w.step.value; deviations = vs ++ []; makes = wrapped w.step.makes };
          wrote = v;
          entry = w.entry ∙ ap (noted_all e) (sym (append-nil vs));
        }

    pub write-after : {front : List ℕ} → WroteAt front before cur at to → bytes (wrap w.step.value) ≡ front ++ bytes₁ w.step.value → Writes bytes e (m >>= λ a. pure (wrap a)) at before after r
    write-after v h = wrapped-at (same_bytes (sym h) (then_at v w.wrote))

  pub write-wrapped : ((a : A) → bytes (wrap a) ≡ bytes₁ a) → {at : ℕ} {before after : List ℕ} {r : Written} → Writes bytes₁ e m at before after r → Writes bytes e (m >>= λ a. pure (wrap a)) at before after r
  write-wrapped kept w = wrapped-at w (same_bytes (sym (kept w.step.value)) w.wrote)
