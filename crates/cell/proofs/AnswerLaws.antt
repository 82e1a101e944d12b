-- An answer is known by its values. Assumes nothing.
use mathlib.Core.Path.{◌≡◌, refl, ap, ap₂}
use native.Mathlib.Omega.{arith}
use Rattle.std.proofs.Common.{Result, Ok, Err}
use Rattle.refusal.proofs.NumberLaws.{number-above, number-once}
use Rattle.cell.specs.declared.Accepted.{Accepted}
use Rattle.cell.specs.Answer as A
use Rattle.cell.specs.Answer.{Answer, Values, values_of}

-- where the number is 0, by the others
pub accepted : (a : Answer) → (values_of a).number ≡ 0 → a ≡ A.accepted (values_of a).length (values_of a).entries (values_of a).greatest
accepted (Err e) z = let h = number-above e.refusal in absurd (omega arith)
accepted (Ok a) z = refl

-- an answer has one length and one number of entries, whatever is refused beside it
pub same-parts : {E : Type 0} (a b : Accepted) → ◌≡◌ {A = Result Accepted E} (Ok a) (Ok b) → (a.length ≡ b.length) × (a.entries ≡ b.entries)
same-parts a b e = let same : a ≡ b = cc in (ap (λ (x : Accepted). x.length) same, ap (λ (x : Accepted). x.entries) same)

-- no two answers have the same values
pub values-once : (a b : Answer) → values_of a ≡ values_of b → a ≡ b
values-once a b e = go a b (ap (λ (v : Values). v.number) e) (ap (λ (v : Values). v.block) e) (ap (λ (v : Values). v.length) e) (ap (λ (v : Values). v.entries) e) (ap (λ (v : Values). v.greatest) e)
  where
    go : (a b : Answer) → (values_of a).number ≡ (values_of b).number → (values_of a).block ≡ (values_of b).block → (values_of a).length ≡ (values_of b).length
        → (values_of a).entries ≡ (values_of b).entries → (values_of a).greatest ≡ (values_of b).greatest → a ≡ b
    go (Err q) (Err r) n b l c g = ap₂ A.refused (number-once q.refusal r.refusal n) b
    go (Err q) (Ok a) n b l c g = let h = number-above q.refusal in absurd (omega arith)
    go (Ok a) (Err q) n b l c g = let h = number-above q.refusal in absurd (omega arith)
    go (Ok a) (Ok o) n b l c g = let same : A.accepted a.length a.entries a.greatest ≡ A.accepted o.length o.entries o.greatest = cc (l, c, g) in same
