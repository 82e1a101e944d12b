-- The run of records from a place of the bytes, one record at a time: for code that looks at the bytes by place. Assumes nothing.
use mathlib.Core.Path.{◌≡◌, refl, ap, ◌∙◌}
use mathlib.Core.List.{List, [], ◌∷◌}
use Prim.Native.Nat.{ℕ, zero, suc, ◌≤◌}
use native.Mathlib.Nat.{le_refl, not-suc-le-zero}
use native.Mathlib.Omega.{arith}
use lib.ListN.{length}
use Rattle.parsing.specs.Parse.{Part, ill, part, refused, given, IllFormed, ill_formed, items}
use Rattle.stream.specs.Record.{Rec, next_record, Run, with_record, onward, run_f, run_of}
use Rattle.stream.specs.Read.{not_of_grammar, closed}
use Rattle.stream.proofs.RunLaws.{next-is, next-shorter}

-- ---- as many records as there are bytes are enough

run_room : (f g : ℕ) (s : List ℕ) → length s ≤ f → length s ≤ g → run_f f s ≡ run_f g s
unfolding run_f next_record items
run_room zero zero s h k = refl
run_room zero (suc g) [] h k = refl
run_room zero (suc g) (b ∷ s) h k = absurd (not-suc-le-zero h)
run_room (suc f) zero [] h k = refl
run_room (suc f) zero (b ∷ s) h k = absurd (not-suc-le-zero k)
run_room (suc f) (suc g) s h k = go (next_record s) refl (run_room f g)
  where
    go : (z : Part IllFormed ℕ Rec) → next_record s ≡ z → ((t : List ℕ) → length t ≤ f → length t ≤ g → run_f f t ≡ run_f g t) → onward s z (λ t. run_f f t) ≡ onward s z (λ t. run_f g t)
    go (ill c) e r = refl
    go (part x t) e r = let l = next-shorter s x t (next-is s x t e) in ap (with_record x) (r t (omega arith) (omega arith))

-- one record was looked for, and the rest has room enough
run-one : (s : List ℕ) → run_of s ≡ onward s (next_record s) (λ t. run_f (length s) t)
unfolding run_of run_f
run-one s = run_room (length s) (suc (length s)) s (le_refl (length s)) (omega arith)

-- ---- one record, or none

pub run-next : (s : List ℕ) (r : Rec) (t : List ℕ) → next_record s ≡ part r t → run_of s ≡ with_record r (run_of t)
unfolding run_of
run-next s r t e =
    let l = next-shorter s r t (next-is s r t e) in
    run-one s
    ∙ ap (λ (z : Part IllFormed ℕ Rec). onward s z (λ u. run_f (length s) u)) e
    ∙ ap (with_record r) (run_room (length s) (length t) t (omega arith) (le_refl (length t)))

pub run_ends : (s : List ℕ) → next_record s ≡ ill ill_formed → run_of s ≡ record { records = []; rest = s }
run_ends s e = run-one s ∙ ap (λ (z : Part IllFormed ℕ Rec). onward s z (λ u. run_f (length s) u)) e

-- ".. then no byte": after the structure's last record nothing may be left
pub closed-end : {A : Type 0} (a : A) (t : List ℕ) → t ≡ [] → closed (run_of t).rest (part a (run_of t).records) ≡ given a
unfolding run_of run_f
closed-end a t e = ap (λ (z : List ℕ). closed (run_of z).rest (part a (run_of z).records)) e

pub closed-more : {A : Type 0} (a : A) (b : ℕ) (t : List ℕ) → closed (run_of (b ∷ t)).rest (part a (run_of (b ∷ t)).records) ≡ refused (record { fault = not_of_grammar; block = 0 })
closed-more a b t = go (next_record (b ∷ t)) refl
  where
    left : (u : Run) (r : Rec) (rs : List Rec) → u.records ≡ r ∷ rs → closed u.rest (part a u.records) ≡ refused (record { fault = not_of_grammar; block = 0 })
    left u r rs e = ap (λ (z : List Rec). closed u.rest (part a z)) e ∙ other u.rest
      where
        other : (w : List ℕ) → closed w (part a (r ∷ rs)) ≡ refused (record { fault = not_of_grammar; block = 0 })
        other [] = refl
        other (x ∷ w) = refl

    go : (z : Part IllFormed ℕ Rec) → next_record (b ∷ t) ≡ z → closed (run_of (b ∷ t)).rest (part a (run_of (b ∷ t)).records) ≡ refused (record { fault = not_of_grammar; block = 0 })
    go (ill ill_formed) e = ap (λ (u : Run). closed u.rest (part a u.records)) (run_ends (b ∷ t) e)
    go (part r u) e = left (run_of (b ∷ t)) r (run_of u).records (ap (λ (w : Run). w.records) (run-next (b ∷ t) r u e))
