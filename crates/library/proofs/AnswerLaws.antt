-- A library's answer is known by its values. Assumes nothing.
use mathlib.Core.Path.{◌≡◌, refl, ap}
use native.Mathlib.Omega.{arith}
use Rattle.std.proofs.Common.{Ok, Err}
use Rattle.refusal.proofs.NumberLaws.{number-above, number-once}
use Rattle.library.specs.Answer as A
use Rattle.library.specs.Answer.{LibraryAnswer, Values, values_of}

-- where the number is 0, by the others
pub accepted : (a : LibraryAnswer) → (values_of a).number ≡ 0 → a ≡ A.accepted (values_of a).length (values_of a).entries (values_of a).greatest
accepted (Err e) z = let h = number-above e.refusal in absurd (omega arith)
accepted (Ok a) z = refl

-- no two answers have the same values
pub values-once : (a b : LibraryAnswer) → values_of a ≡ values_of b → a ≡ b
values-once a b e =
    go a b (ap (λ (v : Values). v.number) e) (ap (λ (v : Values). v.cell) e) (ap (λ (v : Values). v.block) e)
    (ap (λ (v : Values). v.length) e) (ap (λ (v : Values). v.entries) e) (ap (λ (v : Values). v.greatest) e)
  where
    go : (a b : LibraryAnswer) → (values_of a).number ≡ (values_of b).number → (values_of a).cell ≡ (values_of b).cell → (values_of a).block ≡ (values_of b).block
        → (values_of a).length ≡ (values_of b).length → (values_of a).entries ≡ (values_of b).entries → (values_of a).greatest ≡ (values_of b).greatest → a ≡ b
    go (Err q) (Err r) n m b l c g =
        let z = number-once q.refusal r.refusal n in
        let same : A.refused q.refusal q.cell q.block ≡ A.refused r.refusal r.cell r.block = cc (z, m, b) in
        same
    go (Err q) (Ok a) n m b l c g = let h = number-above q.refusal in absurd (omega arith)
    go (Ok a) (Err q) n m b l c g = let h = number-above q.refusal in absurd (omega arith)
    go (Ok a) (Ok o) n m b l c g = let same : A.accepted a.length a.entries a.greatest ≡ A.accepted o.length o.entries o.greatest = cc (l, c, g) in same
