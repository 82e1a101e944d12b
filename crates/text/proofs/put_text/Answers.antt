-- The values are there, since nothing is refused, and the records are written. Assumes nothing.
use mathlib.Core.Path.{◌≡◌, refl}
use Rattle.std.specs.Prelude.{Ok}
use Rattle.conversion.specs.code.Fold.{run}
use Rattle.cell.specs.Write.{write_text}
use Rattle.block_places.specs.code.Places.{text_at}
use Rattle.steps.specs.code.Ready.{stopped, ready}
use Rattle.steps.proofs.ReadyLaws.{write-ready}
use Rattle.text.specs.code.Text.{text_bytes, ready_of}
use Rattle.text.proofs.TextLaws.{ready-past, ready-short, ready-length, never-refused}
use Rattle.text.proofs.put_text.Goals as goal
use Rattle.text.proofs.put_text.Goals.{After-unwrap-values}

pub unwrap-values-requires : goal.unwrap-values-requires
unwrap-values-requires c = never-refused c.args.converter.policy c.args.converter.d c.args.b.now c.args.text c.args.entry _ c.requires.succeeds c.convert_text.ensures

-- what is ready before the first byte is the text's own
known : (c : After-unwrap-values) → ready_of c.args.b.now c.args.text (Ok c.unwrap-values.result) ≡ run stopped c.args.entry (write_text c.args.converter.policy c.args.converter.d (text_at c.args.b.now c.args.text)) ready
known c = ready-past c.args.converter.policy c.args.converter.d _ c.args.entry _ c.requires.succeeds (rw c.unwrap-values.ensures at c.convert_text.ensures)

pub put_records-requires : goal.put_records-requires
put_records-requires c =
    let a = c.args in
    let i = known (goal.at.put_records-requires c).After-unwrap-values in
    let inside = c.requires.text_in.string-in in
    record {
      string_in_bounds = inside;
      string_bound = ready-short a.b.now a.text inside a.converter.policy a.converter.d a.entry c.unwrap-values.result i;
      string_in_bounds_2 = rw (ready-length a.b.now a.text inside a.converter.policy a.converter.d a.entry c.unwrap-values.result i) c.requires.text_in_bounds;
    }

pub returns : goal.returns
returns c = write-ready c.args.entry _ _ (known (goal.at.returns c).After-unwrap-values) text_bytes _ _ _ refl c.put_records.ensures.wrote
