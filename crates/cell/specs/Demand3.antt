-- Demand 3: a written structure draws its sheet's cell (document 01, "What a structure draws"). One claim about the whole structure and its sheet. Assumes nothing.
use Rattle.std.specs.Prelude.{◌≡◌, List, ℕ, T, length, take, Float}
use Rattle.std.specs.Float.{binary64}
use Rattle.std.specs.Float.Ieee.{fits}
use Rattle.big_endian.specs.Big.{Bytes}
use Rattle.cell.specs.Cell.{write_cell, out_after}
use Rattle.cell.specs.Answer.{accepted, answer_of}
use Rattle.cell.specs.Draws.{Draws}

-- For every policy, unit, sheet of bytes and pair of buffers: where the answer is a structure of n bytes, the output's first n bytes draw the sheet's cell.
-- (Every f64 fits binary64, and every &[u8] is of bytes.)
abbrev pub Demand3 : Type 0
Demand3 = (policy : ℕ) (d : Float) (sheet out report : List ℕ) (n entries : ℕ) (greatest : Float) → T (fits binary64 d) → Bytes sheet
    → answer_of (write_cell policy d sheet (length out) (length report)) ≡ accepted n entries greatest
    → Draws policy d sheet (take n (out_after (write_cell policy d sheet (length out) (length report)) out))
