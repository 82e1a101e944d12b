-- The caller's checks that come before all others (document 01, "Who can cause which refusal"). Assumes nothing.
use Rattle.std.specs.Prelude.{ℕ, List, leb, length, Float}
use Rattle.refusal.specs.declared.Refusal.TheVariants as R
use Rattle.conversion.specs.declared.GdsRoundingPolicy.{GdsRoundingPolicy}
use Rattle.conversion.specs.Made.{Made, pure, need, ◌>>=◌, ◌>>◌}
use Rattle.conversion.specs.Policy.{caller_policy}
use Rattle.cell.specs.Limits.{max_sheet_length}

-- "Caller, first: 1 policy above 3; 2 d not finite and positive; 3 sheet over 16,777,216 bytes.": the policy, where all three have passed
unfoldable pub checked_call : ℕ → Float → List ℕ → Made GdsRoundingPolicy
checked_call n d sheet = do
  policy ← caller_policy n d
  need (leb (length sheet) max_sheet_length) R.SheetSize
  pure policy
