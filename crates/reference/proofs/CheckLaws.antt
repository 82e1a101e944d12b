-- The checks before the transform, each way out of the code. Assumes nothing.
use mathlib.Core.Path.{◌≡◌, refl, sym, ap, ap₂, ◌∙◌, subst}
use Rattle.std.specs.Prelude.{Ok, Err}
use mathlib.Core.Bool.{Bool, true, false, ◌&&◌, ◌||◌}
use mathlib.Core.List.{List}
use Prim.Native.Nat.{ℕ, ◌≤◌}
use native.Mathlib.Omega.{arith}
use lib.Dec.{leb}
use lib.ListN.{length}
use lib.IntN.{pos}
use lib.Ieee.{Float, fin, le}
use lib.Ieee.Bits.{is_true}
use borrow.Author.Tests.{leb-true, not-true, not-false}
use Rattle.refusal.specs.declared.Refusal.TheVariants as R
use Rattle.binary64.specs.Value.{one64}
use Rattle.conversion.specs.Made.{Made, need, ◌>>◌}
use Rattle.conversion.proofs.MadeLaws.{checked, need-on, need-off}
use Rattle.sheet.specs.Element as S
use Rattle.cell.specs.Limits.{within, max_name_length, max_col_row}
use Rattle.cell.specs.Names.{is_name}
use Rattle.cell.specs.Write.{is_some, in_unit}
use Rattle.block_places.specs.declared.ReferencePlaces.{ReferencePlaces}
use Rattle.block_places.specs.code.Place.{spacing_at, string_at, string_end}
use Rattle.block_places.specs.code.Places.{reference_at}
use Rattle.block_places.proofs.StringLaws.{length-string}
use Rattle.steps.specs.code.Steps.{Succeeds}
use Rattle.steps.proofs.StepLaws.{yields, past-check}
use Rattle.reference.specs.code.Reference.{guarded, lacking, Bounded, Checks}

-- ---- within −1 to 1; m and o are the code's −1 and 1

pub unit-from : (m o x : Float) → m ≡ fin true 1 (pos 0) → o ≡ one64 → le m x ≡ true → le x o ≡ in_unit x
unfolding in_unit
unit-from m o x e f h = sym (ap₂ ◌&&◌ (ap (λ (z : Float). le z x) (sym e) ∙ h) (ap (le x) (sym f)))

pub unit-below : (m x : Float) → m ≡ fin true 1 (pos 0) → le m x ≡ false → false ≡ in_unit x
unfolding in_unit
unit-below m x e h = sym (ap (λ (t : Bool). t && le x one64) (ap (λ (z : Float). le z x) (sym e) ∙ h))

-- ---- the limits that hold where the checks pass

pub and-left : (s t : Bool) → s ≡ false → s && t ≡ false
and-left s t h = ap (λ (u : Bool). u && t) h

pub and-on : (s t v : Bool) → s ≡ true → t ≡ v → s && t ≡ v
and-on s t v h k = ap₂ ◌&&◌ h k

both_true : (s t : Bool) → s && t ≡ true → (s ≡ true) × (t ≡ true)
both_true true true h = (refl, refl)
both_true true false h = (refl, h)
both_true false t h = let z : ◌≡◌ {A = ℕ} 0 1 = cc in absurd (omega arith)

at_most : (lo n hi : ℕ) → within lo n hi ≡ true → n ≤ hi
at_most lo n hi h = leb-true n hi (both_true (leb lo n) (leb n hi) h).1

name-length : (s : List ℕ) → is_name s ≡ true → length s ≤ max_name_length
unfolding is_name
name-length s h = at_most 1 (length s) max_name_length (both_true (within 1 (length s) max_name_length) _ h).0

-- ---- the ways out

module _ (b : List ℕ) (s : ReferencePlaces) (inside : string_end b s.name ≤ length b) where
  abbrev counted : Bool
  counted = within 1 s.columns max_col_row && within 1 s.rows max_col_row

  pub name-stops : is_name (string_at b s.name) ≡ false → Checks b s (reference_at b s) (Err R.Name)
  unfolding guarded reference_at
  name-stops g = record { is = λ m. sym (need-off (is_name (string_at b s.name)) R.Name _ g); bounds = tt }

  module _ (named : is_name (string_at b s.name) ≡ true) where
    pub counts-stop : within 1 s.columns max_col_row && within 1 s.rows max_col_row ≡ false → Checks b s (reference_at b s) (Err R.ColumnsOrRows)
    unfolding guarded reference_at
    counts-stop g = record { is = λ m. sym (need-on (is_name (string_at b s.name)) R.Name _ named ∙ need-off counted R.ColumnsOrRows _ g); bounds = tt }

    module _ (counts : within 1 s.columns max_col_row && within 1 s.rows max_col_row ≡ true) where
      first : {A : Type 0} (m : Made A) → need (is_name (string_at b s.name)) R.Name >> (need counted R.ColumnsOrRows >> m) ≡ m
      first m = need-on (is_name (string_at b s.name)) R.Name _ named ∙ need-on counted R.ColumnsOrRows _ counts

      pub column-lacks : lacking b s.columns s.column ≡ true → Checks b s (reference_at b s) (Err R.Spacing)
      unfolding guarded reference_at
      column-lacks g = record { is = λ m. sym (first _ ∙ need-off (leb s.columns 1 || is_some (spacing_at b s.column)) R.Spacing _ (not-true _ g)); bounds = tt }

      module _ (spaced : lacking b s.columns s.column ≡ false) where
        second : {A : Type 0} (m : Made A) → need (is_name (string_at b s.name)) R.Name >> (need counted R.ColumnsOrRows >> (need (leb s.columns 1 || is_some (spacing_at b s.column)) R.Spacing >> m)) ≡ m
        second m = first _ ∙ need-on (leb s.columns 1 || is_some (spacing_at b s.column)) R.Spacing _ (not-false _ spaced)

        pub row-lacks : lacking b s.rows s.row ≡ true → Checks b s (reference_at b s) (Err R.Spacing)
        unfolding guarded reference_at
        row-lacks g = record { is = λ m. sym (second _ ∙ need-off (leb s.rows 1 || is_some (spacing_at b s.row)) R.Spacing _ (not-true _ g)); bounds = tt }

        pub all_pass : lacking b s.rows s.row ≡ false → Checks b s (reference_at b s) (Ok tt)
        unfolding guarded reference_at
        all_pass g =
            let e = length-string b s.name inside in
            let a = name-length (string_at b s.name) named in
            let both = both_true (within 1 s.columns max_col_row) (within 1 s.rows max_col_row) counts in
            record {
              is = λ m. sym (second _ ∙ need-on (leb s.rows 1 || is_some (spacing_at b s.row)) R.Spacing _ (not-false _ g));
              bounds = record { name = omega arith; columns = at_most 1 s.columns max_col_row both.0; rows = at_most 1 s.rows max_col_row both.1 };
            }

-- ---- what follows the checks, where all succeeds

pub guarded-past : {A : Type 0} (e : S.Reference) (m : Made A) → Succeeds (guarded e m) → guarded e m ≡ m
unfolding guarded
guarded-past e m s =
    let a = past-check (is_name e.name) R.Name _ s in
    let b = past-check (within 1 e.columns max_col_row && within 1 e.rows max_col_row) R.ColumnsOrRows _ (subst Succeeds a s) in
    let c = past-check (leb e.columns 1 || is_some e.column_spacing) R.Spacing _ (subst Succeeds (a ∙ b) s) in
    a ∙ b ∙ c ∙ past-check (leb e.rows 1 || is_some e.row_spacing) R.Spacing m (subst Succeeds (a ∙ b ∙ c) s)

pub guarded-bounded : (b : List ℕ) (s : ReferencePlaces) → string_end b s.name ≤ length b → {A : Type 0} (m : Made A) → Succeeds (guarded (reference_at b s) m) → Bounded b s
unfolding guarded reference_at
guarded-bounded b s inside m g =
    let n = checked R.Name (yields g) in
    let c = checked R.ColumnsOrRows n.then in
    let both = both_true (within 1 s.columns max_col_row) (within 1 s.rows max_col_row) (is_true _ c.passed) in
    let e = length-string b s.name inside in
    let a = name-length (string_at b s.name) (is_true _ n.passed) in
    record { name = omega arith; columns = at_most 1 s.columns max_col_row both.0; rows = at_most 1 s.rows max_col_row both.1 }
