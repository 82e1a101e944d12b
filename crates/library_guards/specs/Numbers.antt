-- A library's report, its count of entries, its greatest error and the reals of UNITS, by hand (document 02, request 1: "A library's report entries gain a leading 4-byte cell number, counted
-- from 0, and stand by it, then by index"; "24 user unit not finite or not positive, or a real of UNITS not finite or not encodable"). Assumes nothing.
use Rattle.std.proofs.Math.Option.{Option, none, some}
use Rattle.std.specs.Prelude.{List, [], ◌∷◌, ◌++◌, ℕ, ◌+◌, pos, negsuc}
use Rattle.conversion.specs.declared.Entry.{Entry}
use Rattle.stream.specs.Structure.{Structure}
use Rattle.library.specs.Library.{WrittenCell}
use Rattle.guards.specs.Question.{x, bits}

-- ---- cells with entries

-- what a report says of a cell is in its entries
abbrev bare : Structure
bare = record { stamps = []; name = []; elements = [] }

abbrev pub cell : List Entry → WrittenCell
cell es = record { structure = bare; entries = es }

-- 2.5 as 3 in a node, above; and -2.5 as -3 in an array, below, with all places of the entry in use
abbrev first : Entry
first = record { index = 0; kind = 4; field = 0; axis = 0; place = 0; count = 1; physical = bits 0x4004000000000000; database = pos 3; error = bits 0x3fe0000000000000 }

abbrev other : Entry
other = record { index = 258; kind = 5; field = 7; axis = 1; place = 515; count = 4; physical = bits 0xc004000000000000; database = negsuc 2; error = bits 0xbfe0000000000000 }

-- and their 33 bytes
abbrev first_bytes : List ℕ
first_bytes = x 33 0x000000000400000000000000014004000000000000000000033fe0000000000000

abbrev other_bytes : List ℕ
other_bytes = x 33 0x00000102050701020300000004c004000000000000fffffffdbfe0000000000000

-- the number of the first cell, the cells, and the report's bytes
pub record Report : Type 0 where
  pub from : ℕ
  pub cells : List WrittenCell
  pub bytes : List ℕ

abbrev report : ℕ → List WrittenCell → List ℕ → Report
report c ws b = record { from = c; cells = ws; bytes = b }

unfoldable pub reports : List Report
reports =
    report 0 [] []
    ∷ report 0 (cell [] ∷ []) []
    ∷ report 0 (cell (first ∷ []) ∷ cell (other ∷ []) ∷ []) (x 4 0 ++ first_bytes ++ x 4 1 ++ other_bytes) {- one of each of two cells -}
    ∷ report 0 (cell (first ∷ other ∷ []) ∷ []) (x 4 0 ++ first_bytes ++ x 4 0 ++ other_bytes) {- two of one -}
    ∷ report 0 (cell [] ∷ cell (other ∷ []) ∷ cell [] ∷ cell (first ∷ []) ∷ []) (x 4 1 ++ other_bytes ++ x 4 3 ++ first_bytes) {- cells with no entry count -}
    ∷ report 258 (cell (first ∷ []) ∷ cell (first ∷ []) ∷ []) (x 4 0x00000102 ++ first_bytes ++ x 4 0x00000103 ++ first_bytes) {- four bytes -}
    ∷ report 65535 (cell [] ∷ cell (first ∷ []) ∷ []) (x 4 0x00010000 ++ first_bytes)
    ∷ []

-- ---- how many entries, and the greatest error: of x and of the magnitudes of the cells' errors, by their bits

pub record Errors : Type 0 where
  pub from : ℕ
  pub cells : List (List ℕ)
  pub count : ℕ
  pub greatest : ℕ

abbrev errors : ℕ → List (List ℕ) → ℕ → ℕ → Errors
errors f cs n g = record { from = f; cells = cs; count = n; greatest = g }

-- 1/4, 1/2, 1, the next double above 1, the least above 0, an infinity
abbrev quarter : ℕ
quarter = 0x3fd0000000000000

abbrev half : ℕ
half = 0x3fe0000000000000

abbrev whole : ℕ
whole = 0x3ff0000000000000

abbrev more : ℕ
more = 0x3ff0000000000001

abbrev least : ℕ
least = 1

abbrev endless : ℕ
endless = 0x7ff0000000000000

-- with a minus sign
abbrev below0 : ℕ → ℕ
below0 b = 0x8000000000000000 + b

unfoldable pub greatests : List Errors
greatests =
    errors 0 [] 0 0 {- none: bits 0 -}
    ∷ errors 0 ([] ∷ [] ∷ []) 0 0
    ∷ errors 0 ((least ∷ []) ∷ []) 1 least
    ∷ errors 0 ((half ∷ []) ∷ (quarter ∷ []) ∷ (least ∷ []) ∷ []) 3 half {- of the first cell -}
    ∷ errors 0 ((least ∷ []) ∷ (half ∷ []) ∷ (quarter ∷ []) ∷ []) 3 half {- the second -}
    ∷ errors 0 ((least ∷ []) ∷ (quarter ∷ []) ∷ (half ∷ []) ∷ []) 3 half {- the third -}
    ∷ errors 0 ((quarter ∷ whole ∷ half ∷ []) ∷ [] ∷ (half ∷ []) ∷ []) 4 whole {- within the first -}
    ∷ errors 0 ((half ∷ []) ∷ [] ∷ (quarter ∷ whole ∷ []) ∷ []) 3 whole {- the last of the last -}
    ∷ errors 0 ((half ∷ []) ∷ (whole ∷ quarter ∷ []) ∷ []) 3 whole
    ∷ errors 0 ((whole ∷ []) ∷ (more ∷ []) ∷ (whole ∷ []) ∷ []) 3 more {- a step of a double -}
    ∷ errors 0 ((endless ∷ []) ∷ (whole ∷ []) ∷ []) 2 endless
    ∷ errors 0 ((whole ∷ []) ∷ (endless ∷ []) ∷ []) 2 endless
    ∷ errors half ((quarter ∷ []) ∷ []) 1 half {- x itself -}
    ∷ errors quarter ((half ∷ []) ∷ []) 1 half
    ∷ errors 0 ((below0 half ∷ []) ∷ []) 1 half {- below 0: without the sign -}
    ∷ errors 0 ((below0 half ∷ []) ∷ (quarter ∷ []) ∷ (least ∷ []) ∷ []) 3 half
    ∷ errors 0 ((quarter ∷ []) ∷ (least ∷ below0 half ∷ quarter ∷ []) ∷ (least ∷ []) ∷ []) 5 half
    ∷ errors 0 ((quarter ∷ []) ∷ (least ∷ []) ∷ (below0 half ∷ []) ∷ []) 3 half
    ∷ errors 0 ((below0 whole ∷ []) ∷ (more ∷ []) ∷ []) 2 more {- a step of a double, on either side -}
    ∷ errors 0 ((whole ∷ []) ∷ (below0 more ∷ []) ∷ []) 2 more
    ∷ errors 0 ((below0 endless ∷ []) ∷ (whole ∷ []) ∷ []) 2 endless
    ∷ errors half ((below0 quarter ∷ []) ∷ []) 1 half
    ∷ errors quarter ((below0 half ∷ []) ∷ []) 1 half
    ∷ []

-- ---- the reals of UNITS, by the bits of user unit and d: their sixteen bytes, or none

pub record Reals : Type 0 where
  pub user : ℕ
  pub unit : ℕ
  pub bytes : Option (List ℕ)

abbrev reals : ℕ → ℕ → Option (List ℕ) → Reals
reals u d b = record { user = u; unit = d; bytes = b }

-- 2 ^ -260, the double below it, the double below 2 ^ 252, and 2 ^ 252
abbrev low : ℕ
low = 0x2fb0000000000000

abbrev below : ℕ
below = 0x2fafffffffffffff

abbrev high : ℕ
high = 0x4fafffffffffffff

abbrev beyond : ℕ
beyond = 0x4fb0000000000000

abbrev minus : ℕ
minus = 0x8000000000000000

unfoldable pub units : List Reals
units =
    reals whole whole (some (x 16 0x41100000000000004110000000000000))
    ∷ reals 0x3f50624dd2f1a9fc 0x3e112e0be826d695 (some (x 16 0x3e4189374bc6a7f03944b82fa09b5a54)) {- 0.001 and 1e-9: nothing is divided -}
    ∷ reals low whole (some (x 16 0x00100000000000004110000000000000)) {- the user unit: least and greatest, and beyond -}
    ∷ reals high whole (some (x 16 0x7ffffffffffffff84110000000000000))
    ∷ reals below whole none
    ∷ reals beyond whole none
    ∷ reals whole low (some (x 16 0x41100000000000000010000000000000)) {- d: the same -}
    ∷ reals whole high (some (x 16 0x41100000000000007ffffffffffffff8))
    ∷ reals whole below none
    ∷ reals whole beyond none
    ∷ reals low high (some (x 16 0x00100000000000007ffffffffffffff8))
    ∷ reals 1 whole none {- the least double above 0 -}
    ∷ reals whole 1 none
    ∷ reals 0x000fffffffffffff whole none {- the greatest subnormal -}
    ∷ reals 0 whole none {- 0, which has an encoding -}
    ∷ reals minus whole none {- -0 -}
    ∷ reals 0xbff0000000000000 whole none {- -1, which has one -}
    ∷ reals 0x8000000000000001 whole none
    ∷ reals 0xcfafffffffffffff whole none
    ∷ reals 0x7fefffffffffffff whole none {- the greatest double -}
    ∷ reals endless whole none {- infinities and NaNs -}
    ∷ reals 0xfff0000000000000 whole none
    ∷ reals 0x7ff8000000000000 whole none
    ∷ reals 0xfff8000000000000 whole none
    ∷ reals whole 0x7fefffffffffffff none
    ∷ reals whole endless none
    ∷ reals whole 0x7ff8000000000000 none
    ∷ reals below beyond none {- both -}
    ∷ []
