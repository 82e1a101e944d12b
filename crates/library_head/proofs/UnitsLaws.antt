-- The reals of UNITS: one law for each way out of the code. Assumes nothing.
use mathlib.Core.Path.{◌≡◌, refl, sym, ap, ap₂, ◌∙◌}
use mathlib.Core.Bool.{Bool, true, false, not, cond}
use mathlib.Core.Option.{Option, none, some}
use mathlib.Core.List.{List}
use Prim.Native.Nat.{ℕ}
use lib.Ieee.{Float}
use lib.Ieee.Positive.{positive}
use borrow.Author.Tests.{not-true, not-false}
use Rattle.big_endian.specs.Big.{bytes_of}
use Rattle.std.specs.Prelude as Code
use Rattle.std.specs.Prelude.{Ok, Err, Some, None}
use Rattle.std.specs.Result.{result_ok}
use Rattle.gds_format.specs.Real8.{Encoding}
use Rattle.gds_format.specs.declared.Real8.{Real8}
use Rattle.gds_format.specs.Real8.{Values, values_of, real8}
use Rattle.gds_format.specs.Faithful.{EncodesReal}
use Rattle.sheet.specs.Library.{LibraryHead}
use Rattle.library.specs.Library.{head_with, file_head_of}
use Rattle.library_head.specs.code.Head.{UnitsRead}

-- the bytes of a real that may be missing
abbrev pub bytes_in : Code.Option Real8 → Option (List ℕ)
bytes_in Code.None = none
bytes_in (Code.Some a) = some (bytes_of 8 a.pattern)

-- what the encoder answered, as the definition's bytes
pub real-of : (x : Float) (r : Encoding) → EncodesReal x (values_of r) → (o : Code.Option Real8) → o ≡ result_ok r → real8 x ≡ bytes_in o
unfolding real8
real-of x r w o e = sym (ap (λ (v : Values). v.bytes) w.answer) ∙ by r ∙ ap bytes_in (sym e)
  where
    by : (r : Encoding) → (values_of r).bytes ≡ bytes_in (result_ok r)
    by (Err x) = refl
    by (Ok a) = refl

module _ (u d : Float) where
  -- as the user unit's sign is
  by_sign : (h : LibraryHead) (c : Bool) → h.user_unit ≡ u → positive u ≡ c → file_head_of d h ≡ cond c (head_with h (real8 u) (real8 d)) none
  unfolding file_head_of
  by_sign h c i e = ap (λ (x : Float). cond (positive x) (head_with h (real8 x) (real8 d)) none) i ∙ ap (λ (c : Bool). cond c (head_with h (real8 u) (real8 d)) none) e

  pub units-sign : (t : Bool) → t ≡ positive u → not t ≡ true → UnitsRead u d None
  units-sign t e f = record { reals = λ h i. by_sign h false i (sym e ∙ not-true t f) }

  module _ (t : Bool) (e : t ≡ positive u) (f : not t ≡ false) (m : Code.Option Real8) (p : real8 u ≡ bytes_in m) where
    -- as both are encoded
    by_reals : (n : Code.Option Real8) → real8 d ≡ bytes_in n → (h : LibraryHead) → h.user_unit ≡ u → file_head_of d h ≡ head_with h (bytes_in m) (bytes_in n)
    by_reals n q h i = by_sign h true i (sym e ∙ not-false t f) ∙ ap₂ (head_with h) p q

    pub units-user : m ≡ None → UnitsRead u d None
    units-user g = record { reals = λ h i. by_sign h true i (sym e ∙ not-false t f) ∙ ap (λ (z : Option (List ℕ)). head_with h z (real8 d)) (p ∙ ap bytes_in g) }

    pub units-database : (a : Real8) → m ≡ Some a → real8 d ≡ none → UnitsRead u d None
    units-database a g q = record { reals = λ h i. by_reals None q h i ∙ ap (λ (z : Code.Option Real8). head_with h (bytes_in z) none) g }

    pub units-both : (a c : Real8) → m ≡ Some a → real8 d ≡ bytes_in (Some c) → UnitsRead u d (Some (record { user = a.pattern; database = c.pattern }))
    units-both a c g q = record { reals = λ h i. by_reals (Some c) q h i ∙ ap (λ (z : Code.Option Real8). head_with h (bytes_in z) (bytes_in (Some c))) g }
