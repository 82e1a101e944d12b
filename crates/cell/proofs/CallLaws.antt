-- The caller's first three checks: the ways that they go. Assumes nothing.
use mathlib.Core.Path.{◌≡◌, refl, ap, ◌∙◌}
use mathlib.Core.Bool.{Bool, true, false}
use mathlib.Core.Option.{none, some}
use mathlib.Core.List.{List}
use Prim.Native.Nat.{ℕ, ◌≤◌, ◌<◌}
use native.Mathlib.Omega.{arith}
use lib.Dec.{T, leb}
use lib.ListN.{length}
use lib.Ieee.{Float}
use lib.Ieee.Bits.{is_true as on}
use lib.Ieee.Positive.{positive}
use borrow.Author.Tests.{le-leb, lt-leb, leb-true, leb-false}
use Rattle.refusal.specs.declared.Refusal.{Refusal}
use Rattle.refusal.specs.declared.Refusal.TheVariants as R
use Rattle.conversion.specs.declared.GdsRoundingPolicy.{GdsRoundingPolicy}
use Rattle.conversion.specs.Made.{Made, refused, pure, need, ◌>>=◌, ◌>>◌}
use Rattle.conversion.specs.Policy.{policy_of, caller_policy}
use Rattle.conversion.proofs.MadeLaws.{need-on, need-off, pure_then, refused-then}
use Rattle.conversion.proofs.PolicyLaws as P
use Rattle.conversion.proofs.PolicyLaws.{Caller, caller}
use Rattle.cell.specs.Limits.{max_sheet_length}
use Rattle.cell.specs.Call.{checked_call}
use Rattle.cell.specs.Order.{Called}

module _ (n : ℕ) (d : Float) (sheet : List ℕ) where
  abbrev sized : GdsRoundingPolicy → Made GdsRoundingPolicy
  sized p = need (leb (length sheet) max_sheet_length) R.SheetSize >> pure p

  -- by the first two
  pub call-refused : (r : Refusal) → caller_policy n d ≡ refused r → checked_call n d sheet ≡ refused r
  unfolding checked_call
  call-refused r e = ap (λ (m : Made GdsRoundingPolicy). m >>= sized) e ∙ refused-then r sized

  to-size : (p : GdsRoundingPolicy) → caller_policy n d ≡ pure p → checked_call n d sheet ≡ sized p
  unfolding checked_call
  to-size p e = ap (λ (m : Made GdsRoundingPolicy). m >>= sized) e ∙ pure_then p sized

  pub call_long : (p : GdsRoundingPolicy) → caller_policy n d ≡ pure p → max_sheet_length < length sheet → checked_call n d sheet ≡ refused R.SheetSize
  call_long p e l = to-size p e ∙ need-off (leb (length sheet) max_sheet_length) R.SheetSize (pure p) (lt-leb (length sheet) max_sheet_length l)

  pub call-with : (p : GdsRoundingPolicy) → caller_policy n d ≡ pure p → length sheet ≤ max_sheet_length → checked_call n d sheet ≡ pure p
  call-with p e l = to-size p e ∙ need-on (leb (length sheet) max_sheet_length) R.SheetSize (pure p) (le-leb (length sheet) max_sheet_length l)

  pub call-passed : (at : Called n d sheet) → checked_call n d sheet ≡ pure at.rounding
  call-passed at = call-with at.rounding (P.caller-with n d at.rounding at.named (on (positive d) at.unit)) at.size

  -- the four ways that they go
  pub data Calling : Made GdsRoundingPolicy → Type 0 where
    unnamed : policy_of n ≡ none → Calling (refused R.Policy)
    no_unit : (p : GdsRoundingPolicy) → policy_of n ≡ some p → (T (positive d) → ⊥) → Calling (refused R.DatabaseUnit)
    too_long : (p : GdsRoundingPolicy) → policy_of n ≡ some p → T (positive d) → max_sheet_length < length sheet → Calling (refused R.SheetSize)
    passes : (at : Called n d sheet) → Calling (pure at.rounding)

  pub calling : Calling (checked_call n d sheet)
  calling = go (caller_policy n d) (caller n d) refl (leb (length sheet) max_sheet_length) refl
    where
      go : (m : Made GdsRoundingPolicy) → Caller n d m → caller_policy n d ≡ m → (t : Bool) → leb (length sheet) max_sheet_length ≡ t → Calling (checked_call n d sheet)
      go m (P.unnamed e) h t f = rw (call-refused R.Policy h) (unnamed e)
      go m (P.no_unit p e never) h t f = rw (call-refused R.DatabaseUnit h) (no_unit p e never)
      go m (P.passes p e u) h true f =
          let l = leb-true (length sheet) max_sheet_length f in
          rw (call-with p h l) (passes (record { rounding = p; named = e; unit = u; size = l }))
      go m (P.passes p e u) h false f =
          let l = leb-false (length sheet) max_sheet_length f in
          rw (call_long p h l) (too_long p e u l)

  -- so the sheet is none too long, where they have passed
  pub call-size : {p : GdsRoundingPolicy} → checked_call n d sheet ≡ pure p → length sheet ≤ max_sheet_length
  call-size {p} e = go (checked_call n d sheet) calling e
    where
      go : (m : Made GdsRoundingPolicy) → Calling m → m ≡ pure p → length sheet ≤ max_sheet_length
      go m (unnamed f) e = let z : ◌≡◌ {A = ℕ} 0 1 = cc in absurd (omega arith)
      go m (no_unit q f never) e = let z : ◌≡◌ {A = ℕ} 0 1 = cc in absurd (omega arith)
      go m (too_long q f u l) e = let z : ◌≡◌ {A = ℕ} 0 1 = cc in absurd (omega arith)
      go m (passes at) e = at.size
