-- What a block is: ill-formed, refused or written. Assumes nothing.
use mathlib.Core.Path.{◌≡◌, refl}
use mathlib.Core.Option.{Option, none, some}
use mathlib.Core.List.{List}
use Prim.Native.Nat.{ℕ}
use lib.ListN.{length}
use lib.Ieee.{Float}
use Rattle.std.specs.Prelude.{Result, Err}
use Rattle.refusal.specs.declared.Refusal.{Refusal}
use Rattle.refusal.specs.declared.Refusal.TheVariants as R
use Rattle.conversion.specs.declared.GdsRoundingPolicy.{GdsRoundingPolicy}
use Rattle.conversion.specs.declared.Deviation.{Deviation}
use Rattle.conversion.specs.Made.{Made, refused, made}
use Rattle.conversion.specs.code.Fold.{blank_entry, noted_all, run}
use Rattle.sheet.specs.Element.{Element, kind_of, element_of}
use Rattle.stream.specs.Structure.{Said}
use Rattle.stream.specs.Records.{element_bytes}
use Rattle.cell.specs.Write.{write_element}
use Rattle.steps.specs.declared.Measured.{Measured}
use Rattle.steps.specs.code.Steps.{through, sizing}
use Rattle.elements.specs.code.Block.{measured_block}

-- ill-formed, refused or written, with what its measuring answers
pub data Met (policy : GdsRoundingPolicy) (d : Float) (i : ℕ) (b : List ℕ) : Result Measured Refusal → Type 0 where
  ill : element_of b ≡ none → Met policy d i b (Err R.Form)
  refusing : (e : Element) (r : Refusal) → element_of b ≡ some e → write_element policy d e ≡ refused r → Met policy d i b (Err r)
  writing : (e : Element) (w : Said) (vs : List Deviation) → element_of b ≡ some e → write_element policy d e ≡ made w vs
      → Met policy d i b (through (length (element_bytes w)) (noted_all (blank_entry i (kind_of e.body)) vs))

module _ (policy : GdsRoundingPolicy) (d : Float) (i : ℕ) (b : List ℕ) where
  by-step : (e : Element) → element_of b ≡ some e → (m : Made Said) → write_element policy d e ≡ m
      → Met policy d i b (run Err (blank_entry i (kind_of e.body)) m (sizing element_bytes))
  unfolding run sizing
  by-step e h (refused r) k = refusing e r h k
  by-step e h (made w vs) k = writing e w vs h k

  by_form : (x : Option Element) → element_of b ≡ x → Met policy d i b (measured_block policy d i x)
  unfolding measured_block
  by_form none h = ill h
  by_form (some e) h = by-step e h (write_element policy d e) refl

  pub met : Met policy d i b (measured_block policy d i (element_of b))
  met = by_form (element_of b) refl
