-- What is shown of a body and of an element that were read: written with d = 1 and nearest they are accepted with nothing to report (`put`), drawn the same, read to the same, and within the sheet's
-- limits; and a sheet holds what was read. Assumes nothing.
use mathlib.Core.Path.{◌≡◌}
use Prim.Native.Nat.{ℕ, suc, ◌<◌}
use Rattle.binary64.specs.Value.{one64}
use Rattle.parsing.specs.All.{All}
use Rattle.conversion.specs.declared.GdsRoundingPolicy.TheVariants.{Nearest}
use Rattle.conversion.specs.Made.{pure}
use Rattle.sheet.specs.Blocks.{max_pairs}
use Rattle.sheet.proofs.Fine.{FineBody, FineElement}
use Rattle.stream.specs.Structure.{SaidBody, Said}
use Rattle.stream.specs.Drawn.{body_drawn, element_drawn}
use Rattle.stream.proofs.AppendLaws.{code_of}
use Rattle.stream.proofs.Admitted.{body_rest, AdmittedSteps, AdmittedElement}
use Rattle.cell.specs.Write.{write_body, write_element}
use Rattle.reading.specs.Limits.{sheet_limits}
use Rattle.reading.specs.Cell.{body_read, element_read}
use Rattle.reading.proofs.RealLaws.{Passes}

pub record CanonBody (w : SaidBody) : Type 0 where
  pub put : SaidBody
  pub writes : write_body Nearest one64 (body_read w) ≡ pure put
  pub drawn : body_drawn put ≡ body_drawn w
  pub again : body_read put ≡ body_read w
  pub admitted : All (Passes (code_of put) 0) (body_rest put)
  pub steps : AdmittedSteps sheet_limits put
  pub fine : FineBody (body_read w)

pub record CanonElement (e : Said) : Type 0 where
  pub put : Said
  pub writes : write_element Nearest one64 (element_read e) ≡ pure put
  pub drawn : element_drawn put ≡ element_drawn e
  pub again : element_read put ≡ element_read e
  pub admitted : (i : ℕ) → suc i < max_pairs → AdmittedElement sheet_limits i put
  pub fine : FineElement (element_read e)
