-- The steps of a path before its points: its checks and its three lengths (document 01, "Who can cause which refusal", 8 and 9, and "Result two";
-- `write_path_with_converter` of write/mod.rs), and what the code answers of them. Assumes nothing.
use Rattle.std.specs.Prelude.{◌≡◌, Bool, true, ℕ, ◌+◌, ◌≤◌, T, length, ℤ, Float, Result, Ok, Err}
use Rattle.std.proofs.Math.Option.{Option}
use Rattle.refusal.specs.declared.Refusal.{Refusal}
use Rattle.refusal.specs.declared.Refusal.TheVariants as R
use Rattle.conversion.specs.declared.GdsRoundingPolicy.{GdsRoundingPolicy}
use Rattle.conversion.specs.declared.Entry.{Entry}
use Rattle.conversion.specs.Made.{Made, pure, need, ◌>>=◌, ◌>>◌}
use Rattle.conversion.specs.code.Fold.{run}
use Rattle.conversion.specs.Points.{write_length}
use Rattle.conversion.specs.Field.{width_field, begin_field, end_field}
use Rattle.sheet.specs.Element as S
use Rattle.records.specs.code.Bytes.{option_of}
use Rattle.steps.specs.code.Ready.{Ready, stopped, ready, ready_by}
use Rattle.cell.specs.Limits.{within, min_path_points, max_points}
use Rattle.cell.specs.Write.{is_some, layer_and_type}
use Rattle.path.specs.declared.Extent.{Extent}
use Rattle.path.specs.declared.Length.{Length}
use Rattle.path.specs.declared.Lengths.{Lengths}

-- ---- the steps

-- the three lengths, each of which may be absent
pub record OptExtent : Type 0 where
  pub width : Option ℤ
  pub begin : Option ℤ
  pub end : Option ℤ

-- of the code's
abbrev pub opt_extent : Extent → OptExtent
opt_extent x = record { width = option_of x.width; begin = option_of x.begin; end = option_of x.end }

module _ (policy : GdsRoundingPolicy) (d : Float) where
  unfoldable pub write_extent : S.Path → Made OptExtent
  write_extent e = do
    w ← write_length policy d width_field e.width
    b ← write_length policy d begin_field e.begin
    n ← write_length policy d end_field e.end
    pure (record { width = w; begin = b; end = n })

  -- the steps of `write_path` before its points
  unfoldable pub write_front : S.Path → Made OptExtent
  write_front e = do
    need (within min_path_points (length e.points) max_points) R.PointCount
    layer_and_type e.layer e.datatype
    write_extent e

-- ---- what the code answers

abbrev pub length_of : Result Length Refusal → Ready (Option ℤ)
length_of = ready_by (λ v. option_of v.value) (λ v. v.entry)

abbrev pub extent_of : Result Lengths Refusal → Ready OptExtent
extent_of = ready_by (λ v. opt_extent v.extent) (λ v. v.entry)

-- A length is there if it is on the sheet, and brings at most one deviation more.
abbrev pub LengthFits : Bool → ℕ → Result Length Refusal → Type 0
LengthFits on n (Err r) = T true
LengthFits on n (Ok v) = (is_some (option_of v.value) ≡ on) × (v.entry.count ≤ n + 1)

pub record GivesLength (on : Bool) (e : Entry) (m : Made (Option ℤ)) (r : Result Length Refusal) : Type 0 where
  pub is : length_of r ≡ run stopped e m ready
  pub fits : LengthFits on e.count r

-- the same of the three
pub record Fits (p : S.Path) (n : ℕ) (x : Extent) (e : Entry) : Type 0 where
  pub wide_is : is_some (option_of x.width) ≡ is_some p.width
  pub begun-is : is_some (option_of x.begin) ≡ is_some p.begin
  pub ended_is : is_some (option_of x.end) ≡ is_some p.end
  pub grown : e.count ≤ n + 3

abbrev pub ExtentFits : S.Path → ℕ → Result Lengths Refusal → Type 0
ExtentFits p n (Err r) = T true
ExtentFits p n (Ok v) = Fits p n v.extent v.entry

pub record GivesExtent (p : S.Path) (e : Entry) (m : Made OptExtent) (r : Result Lengths Refusal) : Type 0 where
  pub is : extent_of r ≡ run stopped e m ready
  pub fits : ExtentFits p e.count r
