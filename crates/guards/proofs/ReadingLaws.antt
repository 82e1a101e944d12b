-- Reading takes what the grammar has, with the worth that it has, and refuses all else with its fault and block. Computed. Assumes nothing.
use mathlib.Core.Path.{◌≡◌, refl}
use mathlib.Core.Bool.{cond}
use mathlib.Core.List.{List, [], ◌∷◌}
use Prim.Native.Nat.{ℕ, suc}
use Rattle.parsing.specs.Parse.{Outcome, refused, given}
use Rattle.stream.specs.Structure.{Structure}
use Rattle.stream.specs.Drawn.{drawn_of}
use Rattle.stream.specs.Read.{Stop, unlimited, read_structure, structure_of}
use Rattle.cases.specs.Case.{halved, is_read}
use Rattle.cases.proofs.Open.{opened}
use Rattle.guards.specs.Sample.{records, flat}
use Rattle.guards.specs.Values.{structure, drawn}
use Rattle.guards.specs.Faults.{Refused, refusals, Change, in_turn, grown, retyped, left_out, doubled, exchanged}
use Rattle.guards.specs.Worth.{rows, stream, said, worth}

-- ---- what is read

pub sample-read : read_structure unlimited (flat records) ≡ given structure
unfolding opened halved records structure
sample-read = refl

pub sample-worth : drawn_of structure ≡ drawn
unfolding opened structure drawn
sample-worth = refl

pub rows-read : read_structure unlimited stream ≡ given said
unfolding opened halved rows
rows-read = refl

pub rows-worth : drawn_of said ≡ worth
unfolding opened halved rows
rows-worth = refl

-- ---- what is refused

pub answers : List Refused → List (Outcome Stop Structure)
answers [] = []
answers (r ∷ rs) = read_structure unlimited r.bytes ∷ answers rs

pub known : List Refused → List (Outcome Stop Structure)
known [] = []
known (r ∷ rs) = refused (record { fault = r.fault; block = r.block }) ∷ known rs

pub refusals-hold : answers refusals ≡ known refusals
unfolding opened halved records refusals answers known
refusals-hold = refl

-- ---- every record of the structure in turn

-- the numbers of the records, from k on, whose change is still read
unfoldable pub read : ℕ → List (List ℕ) → List ℕ
read k [] = []
read k (b ∷ bs) = cond (is_read (structure_of b)) (k ∷ read (suc k) bs) (read (suc k) bs)

unfoldable pub still : Change → List (List ℕ) → List ℕ
still change rs = read 0 (in_turn change [] rs)

-- Only strings may be longer: STRNAME, the three PROPVALUEs, STRING and the two SNAMEs.
pub sizes : still grown records ≡ 1 ∷ 7 ∷ 9 ∷ 28 ∷ 36 ∷ 40 ∷ 54 ∷ []
unfolding opened halved records in_turn read still
sizes = refl

pub data-types : still retyped records ≡ []
unfolding opened halved records in_turn read still
data-types = refl

-- Only these may be missing: PATHTYPE, WIDTH, BGNEXTN, ENDEXTN, PRESENTATION, MAG and ANGLE. STRANS may not, where MAG follows.
pub missing : still left_out records ≡ 14 ∷ 15 ∷ 16 ∷ 17 ∷ 23 ∷ 25 ∷ 26 ∷ []
unfolding opened halved records in_turn read still
missing = refl

pub twice : still doubled records ≡ []
unfolding opened halved records in_turn read still
twice = refl

pub order : still exchanged records ≡ []
unfolding opened halved records in_turn read still
order = refl
