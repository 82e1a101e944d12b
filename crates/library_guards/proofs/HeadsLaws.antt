-- Block 0 holds what is written by hand, or nothing; the other blocks are the cells; and the file's own records are the bytes by hand. Computed. Assumes nothing.
use mathlib.Core.Path.{◌≡◌, refl}
use mathlib.Core.Option.{Option, none, some}
use mathlib.Core.List.{List, [], ◌∷◌}
use Prim.Native.Nat.{ℕ}
use lib.Ieee.{Float}
use Rattle.sheet.specs.Library.{LibraryHead, library_head_of, cell_sheets}
use Rattle.stream.specs.Library.{FileHead, file_head_bytes, file_end_bytes}
use Rattle.library.specs.Library.{file_head_of}
use Rattle.cases.specs.Case.{halved}
use Rattle.cases.proofs.Open.{opened}
use Rattle.guards.specs.Question.{bits}
use Rattle.library_guards.specs.Heads.{Block, blocks, Cells, cells, Own, own, end, Front, fronts}

-- ---- block 0

pub heads : List Block → List (Option LibraryHead)
heads [] = []
heads (b ∷ bs) = library_head_of b.bytes ∷ heads bs

pub known_heads : List Block → List (Option LibraryHead)
known_heads [] = []
known_heads (b ∷ bs) = b.holds ∷ known_heads bs

pub heads-read : heads blocks ≡ known_heads blocks
unfolding opened halved blocks heads known_heads
heads-read = refl

-- ---- the cells

pub sheets : List Cells → List (List (List ℕ))
sheets [] = []
sheets (c ∷ cs) = cell_sheets c.sheet ∷ sheets cs

pub known_sheets : List Cells → List (List (List ℕ))
known_sheets [] = []
known_sheets (c ∷ cs) = c.sheets ∷ known_sheets cs

pub cells-read : sheets cells ≡ known_sheets cells
unfolding opened halved cells sheets known_sheets
cells-read = refl

-- ---- the file's own records

pub records : List Own → List (List ℕ)
records [] = []
records (o ∷ os) = file_head_bytes o.head ∷ records os

pub known_records : List Own → List (List ℕ)
known_records [] = []
known_records (o ∷ os) = o.bytes ∷ known_records os

pub records-written : records own ≡ known_records own
unfolding opened halved own records known_records
records-written = refl

pub end-written : file_end_bytes ≡ end
unfolding opened halved end
end-written = refl

-- ---- from block 0 to the records

headed : Float → Option LibraryHead → Option FileHead
headed d none = none
headed d (some h) = file_head_of d h

bytes_of_head : Option FileHead → List ℕ
bytes_of_head none = []
bytes_of_head (some f) = file_head_bytes f

pub written : List Front → List (List ℕ)
unfolding headed bytes_of_head
written [] = []
written (f ∷ fs) = bytes_of_head (headed (bits f.unit) (library_head_of f.block)) ∷ written fs

pub known_fronts : List Front → List (List ℕ)
known_fronts [] = []
known_fronts (f ∷ fs) = f.bytes ∷ known_fronts fs

pub fronts-written : written fronts ≡ known_fronts fronts
unfolding opened halved fronts written known_fronts headed bytes_of_head
fronts-written = refl
