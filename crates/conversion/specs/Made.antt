-- What a step of writing gives: the first refusal, or a value with the deviations met on the way, in order
-- (document 01, "Who can cause which refusal": "in an element its function's order in mod.rs"; "Result three").
-- Steps are put together by `do`, as `?` puts them together in write/mod.rs. Assumes nothing.
use Rattle.std.specs.Prelude.{Bool, true, false, List, [], ◌++◌, T}
use Rattle.refusal.specs.declared.Refusal.{Refusal}
use Rattle.conversion.specs.declared.Deviation.{Deviation}

pub data Made (A : Type 0) : Type 0 where
  refused : Refusal → Made A
  made : A → List Deviation → Made A

-- nothing refused and nothing to report
abbrev pub pure : {A : Type 0} → A → Made A
pure a = made a []

-- the deviations met before stand before
abbrev pub after : {A : Type 0} → List Deviation → Made A → Made A
after ds (refused r) = refused r
after ds (made a es) = made a (ds ++ es)

infixl 20 ◌>>=◌
unfoldable pub ◌>>=◌ : {A B : Type 0} → Made A → (A → Made B) → Made B
◌>>=◌ (refused r) f = refused r
◌>>=◌ (made a ds) f = after ds (f a)

infixl 20 ◌>>◌
unfoldable pub ◌>>◌ : {A B : Type 0} → Made A → Made B → Made B
◌>>◌ m n = m >>= λ _. n

-- the value of a step that only checks
abbrev pub Done : Type 0
Done = T true

-- a check: the refusal where the test fails
unfoldable pub need : Bool → Refusal → Made Done
need true r = pure tt
need false r = refused r
