-- Reading a list from its front: what a part gives and what is left, or why it is refused. For the bytes of a sheet (document 01, "Input") and for the
-- records of a structure (document 01, "What a structure draws"). Assumes nothing.
use Rattle.std.specs.Prelude.{Bool, true, false, List, [], ◌∷◌, ℕ, zero, suc}
use Rattle.std.proofs.Math.Option.{Option, none, some}

-- what reading a part of a list of E gives: the cause F of a refusal, or the value and what is left
pub data Part (F E A : Type 0) : Type 0 where
  ill : F → Part F E A
  part : A → List E → Part F E A

abbrev pub Parse : Type 0 → Type 0 → Type 0 → Type 0
Parse F E A = List E → Part F E A

-- the cause where there is but one
pub data IllFormed : Type 0 where
  ill_formed : IllFormed

abbrev pub pure : {F E A : Type 0} → A → Parse F E A
pure a s = part a s

abbrev pub fail : {F E A : Type 0} → F → Parse F E A
fail c s = ill c

-- one part, then what follows it
abbrev pub follow : {F E A B : Type 0} → Part F E A → (A → Parse F E B) → Part F E B
follow (ill c) f = ill c
follow (part a s) f = f a s

infixl 20 ◌>>=◌
abbrev pub ◌>>=◌ : {F E A B : Type 0} → Parse F E A → (A → Parse F E B) → Parse F E B
◌>>=◌ p f s = follow (p s) f

-- a test on what was read
abbrev pub when : {F E A : Type 0} → F → Bool → Parse F E A → Parse F E A
when c true p = p
when c false p = fail c

abbrev pub map : {F E A B : Type 0} → (A → B) → Parse F E A → Parse F E B
map f p = p >>= λ a. pure (f a)

-- what may not be absent
abbrev pub present : {F E A : Type 0} → F → Option A → Parse F E A
present c none = fail c
present c (some a) = pure a

-- the next n elements
unfoldable pub items : {F E : Type 0} → F → ℕ → Parse F E (List E)
items c zero s = part [] s
items c (suc n) [] = ill c
items c (suc n) (x ∷ s) = follow (items c n s) (λ t. pure (x ∷ t))

-- n parts of one form
unfoldable pub times : {F E A : Type 0} → ℕ → Parse F E A → Parse F E (List A)
times zero p = pure []
times (suc n) p = p >>= λ a. times n p >>= λ t. pure (a ∷ t)

-- ---- the whole of a list: nothing is left

abbrev pub ended : {F E A : Type 0} → Part F E A → Option A
ended (ill c) = none
ended (part a []) = some a
ended (part a (b ∷ s)) = none

abbrev pub whole : {F E A : Type 0} → Parse F E A → List E → Option A
whole p s = ended (p s)

-- what reading the whole gives, with the cause of a refusal
pub data Outcome (F A : Type 0) : Type 0 where
  refused : F → Outcome F A
  given : A → Outcome F A

abbrev pub accepted : {F A : Type 0} → Outcome F A → Option A
accepted (refused c) = none
accepted (given a) = some a
