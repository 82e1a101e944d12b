-- Each record in turn. Assumes nothing.
use Rattle.text.proofs.TextLaws.{text-placed, read_long}
use Rattle.text.proofs.put_records.Goals as goal

pub returns : goal.returns
returns c =
    let a = c.args in
    let read = c.string_at in
    text-placed a.b.now a.text a.strans a.point c.presentation-bits.result _ read.result.now
    c.presentation-bits.ensures read.ensures (read_long a.b.now a.text c.requires.string_in_bounds read.result.now read.ensures)
    c.put_empty_at-a1.ensures c.put_word_at-a2.ensures c.put_word_at-a3.ensures c.put_word_at-a4.ensures c.put_at-a5.ensures
    c.put_xy_at-a6.ensures c.put_string_at.ensures
