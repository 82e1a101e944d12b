-- An answer of which all is known before the first byte: any other answer to its step, and what is measured and written of it. Assumes nothing.
use mathlib.Core.Path.{◌≡◌, refl, sym, ap, ◌∙◌}
use mathlib.Core.List.{List}
use Prim.Native.Nat.{ℕ}
use native.Mathlib.Omega.{arith}
use lib.ListN.{length}
use Rattle.std.specs.Prelude.{Err}
use Rattle.refusal.specs.declared.Refusal.{Refusal}
use Rattle.big_endian.specs.Buffer.{WroteAt}
use Rattle.conversion.specs.declared.Entry.{Entry}
use Rattle.conversion.specs.Made.{Made, refused, made}
use Rattle.conversion.specs.code.Fold.{noted_all, run}
use Rattle.conversion.proofs.MadeLaws.{Yields}
use Rattle.steps.specs.code.Ready.{Ready, stopped, ready}
use Rattle.steps.specs.code.Steps.{through, sizing, Measures, Succeeds, Writes}
use Rattle.steps.proofs.StepLaws.{run-through, succeeds}

-- the step gives the value that is ready, and the entry after it
pub record Gives {A : Type 0} (e : Entry) (m : Made A) (a : A) (e' : Entry) : Type 0 where
  pub yields : Yields m a
  pub noted : e' ≡ noted_all e yields.log

pub ready-gives : {A : Type 0} (e : Entry) (m : Made A) (a : A) (e' : Entry) → ready a e' ≡ run stopped e m ready → Gives e m a e'
unfolding run
ready-gives e (refused x) a e' h = let z : ◌≡◌ {A = ℕ} 0 1 = cc in absurd (omega arith)
ready-gives e (made b vs) a e' h =
    let f : b ≡ a = cc in
    record { yields = record { log = vs; is = ap (λ (z : _). made z vs) f }; noted = cc }

pub ready-yields : {A : Type 0} (e : Entry) (m : Made A) (a : A) (e' : Entry) → ready a e' ≡ run stopped e m ready → Yields m a
ready-yields e m a e' h = (ready-gives e m a e' h).yields

-- a step that is as another one succeeds where that does
pub succeeds-as : {A : Type 0} (e : Entry) (m n : Made A) → run stopped e m ready ≡ run stopped e n ready → Succeeds m → Succeeds n
unfolding run
succeeds-as e m n h s = succeeds (ready-yields e n s.value _ (sym (ap (λ (o : Made _). run stopped e o ready) s.makes) ∙ h))

-- a step that succeeds is not stopped
pub never-stopped : {A : Type 0} {X : Type 0} (e : Entry) (m : Made A) (x : Refusal) → Succeeds m → stopped x ≡ run stopped e m ready → X
unfolding run
never-stopped e m x s h =
    let g = h ∙ ap (λ (n : Made _). run stopped e n ready) s.makes in
    let z : ◌≡◌ {A = ℕ} 0 1 = cc in
    absurd (omega arith)

module _ {A : Type 0} (e : Entry) (m : Made A) (r : Ready A) (h : r ≡ run stopped e m ready) where
  module _ {Z : Type 0} (stop : Refusal → Z) (k : A → Entry → Z) where
    abbrev spread : Ready A → Z
    spread (stopped x) = stop x
    spread (ready a e') = k a e'

    met : spread r ≡ run stop e m k
    met = ap spread h ∙ run-through stopped ready spread stop k (λ x. refl) (λ a e'. refl) e m

    pub ready-stops : (x : Refusal) → r ≡ stopped x → stop x ≡ run stop e m k
    ready-stops x g = ap spread (sym g) ∙ met

    pub ready-goes-on : (a : A) (e' : Entry) → r ≡ ready a e' → k a e' ≡ run stop e m k
    ready-goes-on a e' g = ap spread (sym g) ∙ met

  module _ (bytes : A → List ℕ) where
    pub measure-stopped : (x : Refusal) → r ≡ stopped x → Measures bytes e m (Err x)
    measure-stopped x g = ready-stops Err (sizing bytes) x g

    pub measure-ready : (a : A) (e' : Entry) (n : ℕ) → r ≡ ready a e' → n ≡ length (bytes a) → Measures bytes e m (through n e')
    unfolding sizing
    measure-ready a e' n g i = ap (λ (k : ℕ). through k e') i ∙ ready-goes-on Err (sizing bytes) a e' g

    pub write-ready : {at : ℕ} {before after : List ℕ} (a : A) (e' : Entry) (to : ℕ) → r ≡ ready a e' → WroteAt (bytes a) before after at to → Writes bytes e m at before after (record { to = to; entry = e' })
    write-ready a e' to g w =
        let y = ready-gives e m a e' (sym g ∙ h) in
        record { step = succeeds y.yields; wrote = w; entry = y.noted }
