-- An element's refusal is the first in its function's order. Computed. Assumes nothing.
use mathlib.Core.Path.{◌≡◌, refl}
use mathlib.Core.List.{List, [], ◌∷◌}
use Rattle.conversion.specs.Made.{Made, refused}
use Rattle.stream.specs.Structure.{Said}
use Rattle.cell.specs.Write.{write_element}
use Rattle.cases.specs.Case.{halved}
use Rattle.cases.proofs.Open.{opened}
use Rattle.guards.specs.Orders.{Row, coordinates, polygons, nodes, boxes, paths, texts, references, arrays, flags}

pub answers : List Row → List (Made Said)
answers [] = []
answers (r ∷ rs) = write_element r.policy r.unit r.element ∷ answers rs

pub known : List Row → List (Made Said)
known [] = []
known (r ∷ rs) = refused r.first ∷ known rs

pub coordinates-hold : answers coordinates ≡ known coordinates
unfolding opened halved coordinates answers known
coordinates-hold = refl

pub polygons-hold : answers polygons ≡ known polygons
unfolding opened halved polygons answers known
polygons-hold = refl

pub nodes-hold : answers nodes ≡ known nodes
unfolding opened halved nodes answers known
nodes-hold = refl

pub boxes-hold : answers boxes ≡ known boxes
unfolding opened halved boxes answers known
boxes-hold = refl

pub paths-hold : answers paths ≡ known paths
unfolding opened halved paths answers known
paths-hold = refl

pub texts-hold : answers texts ≡ known texts
unfolding opened halved texts answers known
texts-hold = refl

pub references-hold : answers references ≡ known references
unfolding opened halved references answers known
references-hold = refl

pub arrays-hold : answers arrays ≡ known arrays
unfolding opened halved arrays answers known
arrays-hold = refl

pub flags-hold : answers flags ≡ known flags
unfolding opened halved flags answers known
flags-hold = refl
