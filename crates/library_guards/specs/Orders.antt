-- Libraries with two faults that follow one another in the order of the refusals, and what is answered, by hand (document 02, requests 1, 5 and 6, "Errors"; document 01, "Who can cause which refusal").
-- Two checks of one number cannot be told apart: 23 of the pairs and of block 0, 24 of the two reals. 3 and 25, whose sheets and names are long, are in proofs/LimitsLaws, by law. Assumes nothing.
use Rattle.std.specs.Prelude.{List, [], ◌∷◌, ◌++◌, ℕ}
use Rattle.guards.specs.Question.{x}
use Rattle.guards.specs.Sample.{sheet_of}

-- policy, d's bits, the sheet, the lengths of output and report; number, cell and block, or 0 and the file's length and entries
pub record Row : Type 0 where
  pub policy : ℕ
  pub unit : ℕ
  pub sheet : List ℕ
  pub out : ℕ
  pub report : ℕ
  pub number : ℕ
  pub cell : ℕ
  pub block : ℕ
  pub length : ℕ
  pub entries : ℕ

-- ---- parts

abbrev one : ℕ
one = 0x3ff0000000000000

-- stamps: no date, for 6, and none
abbrev no_date : List ℕ
no_date = x 24 1

abbrev no_stamps : List ℕ
no_stamps = x 24 0

-- ---- block 0: "L", its user unit's bits and its stamps; a byte more, for 23

abbrev head : ℕ → List ℕ → List ℕ
head u t = x 3 0x00014c ++ x 8 u ++ t

abbrev good : List ℕ
good = head one no_stamps

abbrev ill : List ℕ → List ℕ
ill b = b ++ 0 ∷ []

-- with a name of n bytes
abbrev named : ℕ → List ℕ
named n = x 2 n ++ x n 0 ++ x 8 one ++ no_stamps

-- ---- cells: a head, and blocks

-- "A" and "B"; a name that is none, for 7
abbrev A : List ℕ
A = x 3 0x000141

abbrev B : List ℕ
B = x 3 0x000142

abbrev no_name : List ℕ
no_name = x 3 0x00012d

-- a node on layer 1 and of type 2 at (2.5, 0), which has an entry; on layer 256, for 9; one of no points, for 8
abbrev node : List ℕ
node = x 43 0x040001000200010140040000000000003ff00000000000000000000000000000003ff00000000000000000

abbrev layered : List ℕ
layered = x 43 0x040100000200010140040000000000003ff00000000000000000000000000000003ff00000000000000000

abbrev pointless : List ℕ
pointless = x 9 0x040001000200000000

-- the first with flags of 4, for 26; with flags of 3 and a plex number of -1, which pass
abbrev flagged : List ℕ
flagged = x 45 0x1400040001000200010140040000000000003ff00000000000000000000000000000003ff00000000000000000

abbrev carried : List ℕ
carried = x 49 0x340003ffffffff0001000200010140040000000000003ff00000000000000000000000000000003ff00000000000000000

-- the first with a property of this attribute and a value of n bytes: of 0, for 27; of 127 bytes, for 10; at both limits, which pass
abbrev propertied : ℕ → ℕ → List ℕ
propertied a n = x 41 0x040001000200010140040000000000003ff00000000000000000000000000000003ff0000000000000 ++ x 2 1 ++ x 2 a ++ x 2 n ++ x n 0

abbrev attributed : List ℕ
attributed = propertied 0 1

abbrev valued : List ℕ
valued = propertied 1 127

abbrev limited : List ℕ
limited = propertied 127 126

-- and one at (2 ^ 30, 0), for 19 in a unit of 1/16
abbrev distant : List ℕ
distant = x 43 0x040001000200010141d00000000000003ff00000000000000000000000000000003ff00000000000000000

-- a sheet of one byte, for 4
abbrev no_sheet : List ℕ
no_sheet = 0 ∷ []

abbrev cell : List ℕ → List (List ℕ) → List ℕ
cell n bs = sheet_of ((n ++ no_stamps) ∷ bs)

-- ---- rows

abbrev row : ℕ → ℕ → List ℕ → ℕ → ℕ → ℕ → Row
row p d s n c k = record { policy = p; unit = d; sheet = s; out = 16384; report = 8192; number = n; cell = c; block = k; length = 0; entries = 0 }

-- "elsewhere the cell's number is 4,294,967,295 and the block 0"
abbrev outside : ℕ → ℕ → List ℕ → ℕ → Row
outside p d s n = row p d s n 4294967295 0

-- with policy 0 and d = 1: of a library with this block 0 and these cells
abbrev of : List ℕ → List (List ℕ) → ℕ → Row
of b cs n = outside 0 one (sheet_of (b ∷ cs)) n

-- the same with a good block 0: in cell c and its block k
abbrev inside : List (List ℕ) → ℕ → ℕ → ℕ → Row
inside cs n c k = row 0 one (sheet_of (good ∷ cs)) n c k

-- into buffers of these lengths: 21 or 22; or the file's length and its entries
abbrev into : ℕ → ℕ → List (List ℕ) → ℕ → Row
into o e cs n = record { policy = 0; unit = one; sheet = sheet_of (good ∷ cs); out = o; report = e; number = n; cell = 4294967295; block = 0; length = 0; entries = 0 }

abbrev accepted : ℕ → ℕ → List ℕ → ℕ → ℕ → Row
accepted o e s n k = record { policy = 0; unit = one; sheet = s; out = o; report = e; number = 0; cell = 0; block = 0; length = n; entries = k }

-- outside the cells
unfoldable pub outsides : List Row
outsides =
    outside 4 0 [] 1 {- 1, then 2 and 23 -}
    ∷ outside 255 one [] 1
    ∷ outside 0 0 [] 2 {- 2, then 23 -}
    ∷ outside 3 0x8000000000000000 [] 2
    ∷ outside 3 0xbff0000000000000 (sheet_of (good ∷ [])) 2 {- no other d that is 0 or less, an infinity or a NaN is 24 -}
    ∷ outside 3 0x7ff0000000000000 (sheet_of (good ∷ [])) 2
    ∷ outside 3 0x7ff8000000000000 (sheet_of (good ∷ [])) 2
    ∷ outside 0 1 [] 23 {- 23 of the pairs, then 24 of d -}
    ∷ outside 0 one (x 3 0) 23
    ∷ outside 0 one (x 4 0) 23 {- no pairs -}
    ∷ outside 0 one (x 4 1) 23 {- a pair that is missing -}
    ∷ outside 0 one (ill (sheet_of (head one no_date ∷ []))) 23 {- a byte after the last block, then 6 -}
    ∷ outside 0 one (sheet_of (good ∷ [] ∷ [])) 23 {- an empty block; the library's, not a cell's 4 -}
    ∷ outside 0 one (ill (sheet_of (head 0 no_stamps ∷ []))) 23 {- then 24 -}
    ∷ outside 0 one (ill (sheet_of (good ∷ no_sheet ∷ []))) 23 {- then a cell's 4 -}
    ∷ of (ill (head one no_date)) [] 23 {- 23 of block 0, then 6 -}
    ∷ of (ill (head 0 no_stamps)) [] 23 {- then 24 -}
    ∷ of (ill good) (no_sheet ∷ []) 23 {- then a cell's 4 -}
    ∷ of (x 2 0xffff) [] 23 {- a name that is cut, then 25 -}
    ∷ of (head 0 no_date) [] 6 {- 6, then 24 of the user unit -}
    ∷ outside 0 1 (sheet_of (head one no_date ∷ [])) 6 {- then 24 of d -}
    ∷ of (head one no_date) (no_sheet ∷ []) 6 {- then a cell's 4 -}
    ∷ of (head one no_date) (sheet_of ((A ++ no_date) ∷ []) ∷ []) 6 {- then a cell's 6 -}
    ∷ of (head 0 no_stamps) (no_sheet ∷ []) 24 {- 24 of the user unit, then a cell's 4 -}
    ∷ of (head 0 no_stamps) (cell A (flagged ∷ []) ∷ []) 24 {- then a cell's 26 -}
    ∷ outside 0 1 (sheet_of (good ∷ no_sheet ∷ [])) 24 {- 24 of d, then a cell's 4 -}
    ∷ outside 0 1 (sheet_of (good ∷ [])) 24 {- with no cell -}
    ∷ []

-- in a cell: its number and its block
unfoldable pub insides : List Row
insides =
    inside (no_sheet ∷ no_sheet ∷ []) 4 0 0 {- 4 of cell 0, then of cell 1 -}
    ∷ inside (ill (cell (ill A) []) ∷ []) 4 0 0 {- 4, then 5 -}
    ∷ inside (ill (cell A (layered ∷ [])) ∷ []) 4 0 0 {- 4, then a block's 9 -}
    ∷ inside (sheet_of ((no_name ++ no_date ++ 0 ∷ []) ∷ []) ∷ []) 5 0 0 {- 5, then 6 and 7 -}
    ∷ inside (sheet_of ((no_name ++ no_date) ∷ []) ∷ []) 6 0 0 {- 6, then 7 -}
    ∷ inside (sheet_of ((A ++ no_date) ∷ layered ∷ []) ∷ []) 6 0 0 {- 6, then a block's 9 -}
    ∷ inside (cell no_name (layered ∷ []) ∷ []) 7 0 0 {- 7, then a block's 9 -}
    ∷ inside (cell A (layered ∷ pointless ∷ []) ∷ []) 9 0 1 {- a block, then the next -}
    ∷ inside (cell A (node ∷ pointless ∷ []) ∷ no_sheet ∷ []) 8 0 2 {- the last block of cell 0, then 4 of cell 1 -}
    ∷ inside (cell A (layered ∷ []) ∷ cell no_name [] ∷ []) 9 0 1 {- then a head's 7 of cell 1 -}
    ∷ inside (cell no_name [] ∷ no_sheet ∷ []) 7 0 0 {- a head of cell 0, then 4 of cell 1 -}
    ∷ inside (cell A [] ∷ no_sheet ∷ cell no_name [] ∷ []) 4 1 0 {- cell 1, then cell 2 -}
    ∷ inside (cell A [] ∷ cell B (node ∷ layered ∷ []) ∷ no_sheet ∷ []) 9 1 2
    ∷ inside (cell A [] ∷ cell B [] ∷ cell A (pointless ∷ []) ∷ []) 8 2 1 {- one name twice is no fault -}
    ∷ row 3 one (sheet_of (good ∷ cell A [] ∷ cell B (node ∷ []) ∷ no_sheet ∷ [])) 18 1 1 {- the policy is every cell's: strict -}
    ∷ row 0 0x3fb0000000000000 (sheet_of (good ∷ cell A (distant ∷ []) ∷ cell B [] ∷ [])) 19 0 1 {- and so is d -}
    ∷ inside (cell A [] ∷ sheet_of ((B ++ no_date) ∷ []) ∷ []) 6 1 0 {- the library's 6, cell 0's and cell 1's have cells of their own -}
    ∷ inside (sheet_of ((B ++ no_date) ∷ []) ∷ cell A [] ∷ []) 6 0 0
    ∷ of (head one no_date) (sheet_of ((B ++ no_date) ∷ []) ∷ []) 6
    ∷ inside (cell A (ill flagged ∷ []) ∷ []) 5 0 1 {- 5, then 26 -}
    ∷ inside (cell no_name (flagged ∷ []) ∷ []) 7 0 0 {- 7 of the head, then 26 -}
    ∷ inside (cell A (flagged ∷ pointless ∷ []) ∷ []) 26 0 1 {- 26, then the next block -}
    ∷ inside (cell A (pointless ∷ flagged ∷ []) ∷ []) 8 0 1 {- a block, then 26 of the next -}
    ∷ inside (cell A (node ∷ flagged ∷ []) ∷ no_sheet ∷ []) 26 0 2 {- 26, then 4 of cell 1 -}
    ∷ inside (cell A (carried ∷ []) ∷ cell B (flagged ∷ []) ∷ no_sheet ∷ []) 26 1 1
    ∷ inside (no_sheet ∷ cell A (flagged ∷ []) ∷ []) 4 0 0 {- 4 of cell 0, then 26 -}
    ∷ inside (cell A (limited ∷ []) ∷ cell B (node ∷ attributed ∷ []) ∷ no_sheet ∷ []) 27 1 2 {- 27 of cell 1, then 4 of cell 2 -}
    ∷ inside (cell A (limited ∷ []) ∷ cell B (node ∷ valued ∷ []) ∷ no_sheet ∷ []) 10 1 2
    ∷ inside (cell A (attributed ∷ []) ∷ cell B (valued ∷ []) ∷ []) 27 0 1 {- cells in turn -}
    ∷ inside (cell A (valued ∷ []) ∷ cell B (attributed ∷ []) ∷ []) 10 0 1
    ∷ inside (cell A (ill attributed ∷ []) ∷ []) 5 0 1 {- 5, then 27 -}
    ∷ inside (cell no_name (attributed ∷ []) ∷ []) 7 0 0 {- 7 of the head, then 27 -}
    ∷ inside (no_sheet ∷ cell A (attributed ∷ []) ∷ []) 4 0 0 {- 4 of cell 0, then 27 -}
    ∷ []

-- 172 bytes and an entry: "A" with the node, then "B"
abbrev two : List (List ℕ)
two = cell A (node ∷ []) ∷ cell B [] ∷ []

-- 21 and 22, at the end
unfoldable pub ends : List Row
ends =
    record { policy = 0; unit = one; sheet = sheet_of (good ∷ cell A [] ∷ no_sheet ∷ []); out = 0; report = 0; number = 4; cell = 1; block = 0; length = 0; entries = 0 } {- 4 of the last cell, then 21 -}
    ∷ record { policy = 0; unit = one; sheet = sheet_of (good ∷ cell A [] ∷ cell B (node ∷ layered ∷ []) ∷ []); out = 0; report = 0; number = 9; cell = 1; block = 2; length = 0; entries = 0 } {- its last block, then 21 -}
    ∷ record { policy = 0; unit = one; sheet = sheet_of (good ∷ cell A [] ∷ cell B (flagged ∷ []) ∷ []); out = 0; report = 0; number = 26; cell = 1; block = 1; length = 0; entries = 0 } {- 26, then 21 -}
    ∷ record { policy = 0; unit = one; sheet = sheet_of (good ∷ cell A [] ∷ cell B (attributed ∷ []) ∷ []); out = 0; report = 0; number = 27; cell = 1; block = 1; length = 0; entries = 0 } {- 27, then 21 -}
    ∷ into 171 36 two 21 {- 21, then 22 -}
    ∷ into 171 37 two 21
    ∷ into 0 0 two 21
    ∷ into 172 36 two 22
    ∷ into 172 33 two 22
    ∷ into 172 0 two 22
    ∷ accepted 172 37 (sheet_of (good ∷ two)) 172 1 {- just long enough -}
    ∷ into 63 0 [] 21 {- an empty library -}
    ∷ accepted 64 0 (sheet_of (good ∷ [])) 64 0
    ∷ accepted 204 74 (sheet_of (good ∷ cell A (node ∷ []) ∷ cell B (node ∷ []) ∷ [])) 204 2 {- two entries -}
    ∷ into 204 73 (cell A (node ∷ []) ∷ cell B (node ∷ []) ∷ []) 22
    ∷ into 203 74 (cell A (node ∷ []) ∷ cell B (node ∷ []) ∷ []) 21
    ∷ accepted 186 37 (sheet_of (good ∷ cell A (carried ∷ []) ∷ cell B [] ∷ [])) 186 1 {- 14 bytes more with flags and a plex number -}
    ∷ into 185 37 (cell A (carried ∷ []) ∷ cell B [] ∷ []) 21
    ∷ accepted 308 37 (sheet_of (good ∷ cell A (limited ∷ []) ∷ cell B [] ∷ [])) 308 1 {- 136 bytes more with a property of 127 and 126 bytes -}
    ∷ into 307 37 (cell A (limited ∷ []) ∷ cell B [] ∷ []) 21
    ∷ accepted 190 0 (sheet_of (named 127 ∷ [])) 190 0 {- a name longer than a value may be -}
    ∷ accepted 192 0 (sheet_of (named 129 ∷ [])) 192 0
    ∷ []
