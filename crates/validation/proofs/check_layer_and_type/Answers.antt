-- `check_layer_and_type` meets its contract: each way out. Assumes nothing.
use borrow.Author.Tests.{le-leb, lt-leb}
use Rattle.refusal.specs.declared.Refusal.TheVariants as R
use Rattle.cell.specs.Write.{layer_and_type}
use Rattle.conversion.proofs.MadeLaws.{first_stops, second-stops, both-pass}
use Rattle.validation.proofs.check_layer_and_type.Goals.{then-layer-gt-MAX_LAYER-via-then-layer-gt-MAX_LAYER, then-layer-gt-MAX_LAYER-via-else-layer-gt-MAX_LAYER+then-datatype-gt-MAX_DATA_TYPE}
use Rattle.validation.proofs.check_layer_and_type.Goals as goal

pub returns-then-layer-gt-MAX_LAYER : goal.returns-then-layer-gt-MAX_LAYER
unfolding layer_and_type
returns-then-layer-gt-MAX_LAYER c =
    elim c.then-layer-gt-MAX_LAYER.branch [
      | then-layer-gt-MAX_LAYER-via-then-layer-gt-MAX_LAYER w ↦ first_stops _ _ R.LayerOrType R.LayerOrType (lt-leb _ _ w.if-layer-gt-MAX_LAYER.true)
      | then-layer-gt-MAX_LAYER-via-else-layer-gt-MAX_LAYER+then-datatype-gt-MAX_DATA_TYPE w ↦
          second-stops _ _ R.LayerOrType R.LayerOrType (le-leb _ _ w.if-layer-gt-MAX_LAYER.false) (lt-leb _ _ w.if-datatype-gt-MAX_DATA_TYPE.true)
    ]

pub returns : goal.returns
unfolding layer_and_type
returns c = both-pass _ _ R.LayerOrType R.LayerOrType (le-leb _ _ c.if-layer-gt-MAX_LAYER.false) (le-leb _ _ c.if-datatype-gt-MAX_DATA_TYPE.false)
