-- A real that is written is one that is there. Assumes nothing.
use mathlib.Core.Path.{◌≡◌, ap}
use Prim.Native.Nat.{ℕ}
use Rattle.std.specs.Prelude.{Result, Ok, Err, Option, Some, MatchResult, IsOkAnd}
use Rattle.refusal.specs.declared.Refusal.{Refusal}
use Rattle.transform.specs.code.Strans.{pattern_of, real_of}

pub mapped : (r : Result ℕ Refusal) (m : Result (Option ℕ) Refusal) → MatchResult r (λ x. IsOkAnd m (λ y. y ≡ Some x)) (λ e. m ≡ Err e) → real_of m ≡ pattern_of r
mapped (Err e) m h = ap real_of h
mapped (Ok x) (Ok y) h = ap (λ (o : Option ℕ). real_of (Ok o)) h
mapped (Ok x) (Err e) h = absurd h
