-- A box's block holds what it does by hand, and a box is written and reported as by hand. Computed. Assumes nothing.
use mathlib.Core.Path.{◌≡◌, refl}
use mathlib.Core.Option.{Option, none, some}
use mathlib.Core.List.{List, [], ◌∷◌}
use Rattle.sheet.specs.Element as S
use Rattle.sheet.specs.Element.{element_of}
use Rattle.stream.specs.Structure as D
use Rattle.cell.specs.Cell.{Result, written, write_block}
use Rattle.cases.specs.Case.{halved}
use Rattle.cases.proofs.Open.{opened}
use Rattle.guards.specs.Values.{one}
use Rattle.guards.specs.Boxes.{Block, blocks, Row, rows}

-- ---- blocks

pub held : List Block → List (Option S.Element)
held [] = []
held (b ∷ bs) = element_of b.bytes ∷ held bs

pub known : List Block → List (Option S.Element)
known [] = []
known (b ∷ bs) = b.held ∷ known bs

pub blocks-hold : held blocks ≡ known blocks
unfolding opened halved blocks held known
blocks-hold = refl

-- ---- points and entries

element : Row → S.Element
element r = record { flags = none; plex = none; body = S.box (record { layer = 1; boxtype = 2; first = r.first; second = r.second }); properties = [] }

said : Row → D.Said
said r = record { flags = none; plex = none; body = D.box (record { layer = 1; datatype = 2; points = r.points }); properties = [] }

pub answers : List Row → List (Result (List D.Said))
answers [] = []
answers (r ∷ rs) = write_block r.policy one 4 (some (element r)) (written [] []) ∷ answers rs

pub expected : List Row → List (Result (List D.Said))
expected [] = []
expected (r ∷ rs) = written (said r ∷ []) r.entries ∷ expected rs

pub rows-hold : answers rows ≡ expected rows
unfolding opened rows element said answers expected
rows-hold = refl
