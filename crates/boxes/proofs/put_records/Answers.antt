-- Each record in turn. Assumes nothing.
use Rattle.boxes.proofs.BoxLaws.{box-placed}
use Rattle.boxes.proofs.put_records.Goals as goal

pub returns : goal.returns
returns c = box-placed c.args.places c.args.first c.args.second c.put_empty_at-a1.ensures c.put_word_at-a2.ensures c.put_word_at-a3.ensures c.put_xy.ensures
