-- Edits of the structure of specs/Sample that reading refuses, each with its fault and its block: one or more for each condition of document 01, "What a structure draws", its second and third
-- paragraphs (boxes: document 02, request 3; flags and plex numbers: its request 5); and one record changed, left out, doubled or exchanged with the next, in turn. Assumes nothing.
use Rattle.std.specs.Prelude.{List, [], ◌∷◌, ◌++◌, ℕ, suc, ◌+◌}
use Rattle.refusal.specs.declared.Refusal.TheVariants as R
use Rattle.stream.specs.Read.{Fault, no_record, not_of_grammar, beyond}
use Rattle.guards.specs.Question.{x}
use Rattle.guards.specs.Sample.{records, flat, replaced}

-- ---- by hand

pub record Refused : Type 0 where
  pub bytes : List ℕ
  pub fault : Fault
  pub block : ℕ

-- n records from record k on, and what stands in their place
abbrev stop : ℕ → ℕ → List ℕ → Fault → ℕ → Refused
stop k n b f i = record { bytes = replaced k n b records; fault = f; block = i }

unfoldable pub refusals : List Refused
unfolding records
refusals =
    {- "Each record has an even length of at least 4 that fits what is left" -}
    stop 1 1 (x 5 0x0005060641) no_record 0 {- an odd length -}
    ∷ stop 56 1 (x 4 0x00020700) no_record 0 {- a length of 2 -}
    ∷ stop 56 1 (x 4 0x00000700) no_record 0 {- of 0 -}
    ∷ stop 28 29 (x 6 0x000819066162) no_record 3 {- of 8, where 6 are left -}
    ∷ stop 56 1 (x 3 0x000407) no_record 0 {- half a head -}
    {- ".. and code, data type and data size of the manual" -}
    ∷ stop 3 0 (x 4 0x00043f00) no_record 1 {- a code that no record has -}
    ∷ stop 3 1 (x 6 0x00060d010001) no_record 1 {- a LAYER of bits -}
    ∷ stop 3 1 (x 8 0x00080d0200000001) no_record 1 {- a LAYER of 4 bytes -}
    ∷ stop 3 1 (x 4 0x00040d02) no_record 1 {- of none -}
    ∷ stop 41 1 (x 10 0x000a1302000200030000) no_record 6 {- a COLROW of 6 bytes -}
    ∷ stop 41 1 (x 6 0x000613020002) no_record 6 {- of 2 -}
    ∷ stop 25 1 (x 8 0x00081b0541200000) no_record 3 {- a MAG of 4 bytes -}
    ∷ stop 5 1 (x 40 0x00281003000000000000000000000004000000000000000400000004000000000000000000000000) no_record 1 {- an XY of four points and a half -}
    ∷ stop 0 1 (x 26 0x001a05020000000000000000000000000000000000000000000000) no_record 0 {- a BGNSTR of eleven numbers -}
    ∷ stop 10 1 (x 6 0x000611000000) no_record 1 {- an ENDEL with data -}
    ∷ stop 49 1 (x 6 0x00062d000000) no_record 0 {- a BOX with data -}
    ∷ stop 51 1 (x 8 0x00082e020000000b) no_record 8 {- a BOXTYPE of 4 bytes -}
    ∷ stop 52 1 (x 16 0x001010030000000500000006fffffffe) no_record 8 {- an XY of a point and a half, in a box -}
    {- "BGNSTR, STRNAME, elements, ENDSTR, then no byte." -}
    ∷ stop 0 57 [] no_record 0 {- nothing -}
    ∷ stop 0 1 [] not_of_grammar 0 {- no BGNSTR -}
    ∷ stop 1 1 [] not_of_grammar 0 {- no STRNAME -}
    ∷ stop 11 0 (x 6 0x00060d020001) not_of_grammar 0 {- a LAYER between two elements -}
    ∷ stop 56 1 [] no_record 0 {- no ENDSTR -}
    ∷ stop 57 0 (x 1 0x00) not_of_grammar 0 {- a byte after ENDSTR -}
    ∷ stop 57 0 (x 4 0x00040700) not_of_grammar 0 {- a record after ENDSTR -}
    {- "An element is its kind's records in result one's order." -}
    ∷ stop 3 1 [] not_of_grammar 1 {- no LAYER -}
    ∷ stop 5 1 [] not_of_grammar 1 {- no XY -}
    ∷ stop 3 2 (x 12 0x00060e02000200060d020001) not_of_grammar 1 {- DATATYPE before LAYER -}
    ∷ stop 4 1 (x 6 0x00062a020002) not_of_grammar 1 {- NODETYPE in a polygon -}
    ∷ stop 32 1 (x 6 0x00060e020007) not_of_grammar 4 {- DATATYPE in a node -}
    ∷ stop 22 1 (x 6 0x00060e0200c8) not_of_grammar 3 {- DATATYPE in a text -}
    ∷ stop 51 1 [] not_of_grammar 8 {- a box without BOXTYPE -}
    ∷ stop 51 1 (x 6 0x00060e02000b) not_of_grammar 8 {- DATATYPE in a box -}
    ∷ stop 51 1 (x 6 0x00062a02000b) not_of_grammar 8 {- NODETYPE in a box -}
    ∷ stop 4 1 (x 6 0x00062e020002) not_of_grammar 1 {- BOXTYPE in a polygon -}
    ∷ stop 32 1 (x 6 0x00062e020007) not_of_grammar 4 {- in a node -}
    ∷ stop 50 2 (x 12 0x00062e02000b00060d02000a) not_of_grammar 8 {- BOXTYPE before LAYER -}
    ∷ stop 52 1 [] not_of_grammar 8 {- a box without XY -}
    ∷ stop 53 0 (x 44 0x002c10030000000500000006fffffffe00000006fffffffefffffffd00000005fffffffd0000000500000006) not_of_grammar 8 {- a second XY -}
    ∷ stop 55 1 [] not_of_grammar 8 {- a box without ENDEL -}
    ∷ stop 14 2 (x 14 0x00080f0300000005000621020002) not_of_grammar 2 {- WIDTH before PATHTYPE -}
    ∷ stop 15 2 (x 16 0x000830030000000600080f0300000005) not_of_grammar 2 {- BGNEXTN before WIDTH -}
    ∷ stop 16 2 (x 16 0x00083103000000070008300300000006) not_of_grammar 2 {- ENDEXTN before BGNEXTN -}
    ∷ stop 23 2 (x 12 0x00061a018000000617010006) not_of_grammar 3 {- STRANS before PRESENTATION -}
    ∷ stop 27 2 (x 20 0x0008190661626300000c100300000003fffffffc) not_of_grammar 3 {- STRING before XY -}
    ∷ stop 28 1 [] not_of_grammar 3 {- no STRING -}
    ∷ stop 36 1 [] not_of_grammar 5 {- no SNAME -}
    ∷ stop 41 1 [] not_of_grammar 6 {- an array without COLROW -}
    ∷ stop 37 0 (x 8 0x0008130200010001) not_of_grammar 5 {- COLROW in a reference -}
    ∷ stop 7 1 [] not_of_grammar 1 {- PROPATTR without PROPVALUE -}
    ∷ stop 6 1 [] not_of_grammar 1 {- PROPVALUE without PROPATTR -}
    ∷ stop 10 1 [] not_of_grammar 1 {- no ENDEL -}
    {- "The records ELFLAGS and PLEX follow the element's first record, in this order"; "Reading takes them there, each may be missing" -}
    ∷ stop 3 0 (x 14 0x00082f0300000001000626010001) not_of_grammar 1 {- PLEX before ELFLAGS -}
    ∷ stop 3 0 (x 12 0x000626010001000626010001) not_of_grammar 1 {- ELFLAGS twice -}
    ∷ stop 3 0 (x 16 0x00082f030000000100082f0300000001) not_of_grammar 1 {- PLEX twice -}
    ∷ stop 3 0 (x 20 0x00062601000100082f0300000001000626010001) not_of_grammar 1 {- ELFLAGS again, after PLEX -}
    ∷ stop 2 0 (x 6 0x000626010001) not_of_grammar 0 {- ELFLAGS before the first record -}
    ∷ stop 2 0 (x 8 0x00082f0300000001) not_of_grammar 0 {- PLEX before it -}
    ∷ stop 2 1 (x 6 0x000626010001) not_of_grammar 0 {- ELFLAGS for it -}
    ∷ stop 1 0 (x 6 0x000626010001) not_of_grammar 0 {- ELFLAGS before STRNAME -}
    ∷ stop 4 0 (x 6 0x000626010001) not_of_grammar 1 {- ELFLAGS after LAYER -}
    ∷ stop 4 0 (x 8 0x00082f0300000001) not_of_grammar 1 {- PLEX after LAYER -}
    ∷ stop 13 0 (x 6 0x000626010001) not_of_grammar 2 {- ELFLAGS after it, in a path -}
    ∷ stop 22 0 (x 8 0x00082f0300000001) not_of_grammar 3 {- PLEX after it, in a text -}
    ∷ stop 32 0 (x 8 0x00082f0300000001) not_of_grammar 4 {- PLEX after it, in a node -}
    ∷ stop 51 0 (x 6 0x000626010001) not_of_grammar 8 {- ELFLAGS after it, in a box -}
    ∷ stop 37 0 (x 6 0x000626010001) not_of_grammar 5 {- ELFLAGS after SNAME -}
    ∷ stop 41 0 (x 8 0x00082f0300000001) not_of_grammar 6 {- PLEX after it, in an array -}
    ∷ stop 6 0 (x 6 0x000626010001) not_of_grammar 1 {- ELFLAGS after XY -}
    ∷ stop 10 0 (x 8 0x00082f0300000001) not_of_grammar 1 {- PLEX before ENDEL -}
    ∷ stop 3 54 (x 6 0x000626010001) no_record 1 {- nothing after ELFLAGS -}
    ∷ stop 3 54 [] no_record 1 {- nothing after the first record -}
    ∷ stop 3 0 (x 6 0x000626020001) no_record 1 {- an ELFLAGS that is an integer -}
    ∷ stop 3 0 (x 8 0x0008260100000001) no_record 1 {- of 4 bytes -}
    ∷ stop 3 0 (x 4 0x00042601) no_record 1 {- of none -}
    ∷ stop 3 0 (x 8 0x00082f0100000001) no_record 1 {- a PLEX of bits -}
    ∷ stop 3 0 (x 6 0x00062f030001) no_record 1 {- of 2 bytes -}
    ∷ stop 3 0 (x 12 0x000c2f030000000000000001) no_record 1 {- of 8 -}
    ∷ stop 3 0 (x 4 0x00042f03) no_record 1 {- of none -}
    {- "only after a STRANS, MAG .. and ANGLE"; "A STRANS is 0x8000, reflection, or 0, none." -}
    ∷ stop 24 2 (x 18 0x000c1b05412000000000000000061a018000) not_of_grammar 3 {- MAG before STRANS -}
    ∷ stop 24 1 [] not_of_grammar 3 {- MAG without STRANS -}
    ∷ stop 24 2 [] not_of_grammar 3 {- ANGLE without STRANS -}
    ∷ stop 25 2 (x 24 0x000c1c05425a000000000000000c1b054120000000000000) not_of_grammar 3 {- ANGLE before MAG -}
    ∷ stop 24 1 (x 6 0x00061a018004) not_of_grammar 3 {- a STRANS of 0x8004 -}
    ∷ stop 24 1 (x 6 0x00061a010004) not_of_grammar 3 {- of 4 -}
    {- "XY has one point in TEXT and SREF, three in AREF." -}
    ∷ stop 27 1 (x 4 0x00041003) not_of_grammar 3 {- a text of no point -}
    ∷ stop 27 1 (x 20 0x0014100300000003fffffffc00000003fffffffc) not_of_grammar 3 {- of two -}
    ∷ stop 37 1 (x 4 0x00041003) not_of_grammar 5 {- a reference of no point -}
    ∷ stop 37 1 (x 20 0x0014100300000005000000060000000500000006) not_of_grammar 5 {- of two -}
    ∷ stop 42 1 (x 20 0x001410030000000a000000140000004600000016) not_of_grammar 6 {- an array of two points -}
    ∷ stop 42 1 (x 36 0x002410030000000a000000140000004600000016000000100000008c0000000000000000) not_of_grammar 6 {- of four -}
    {- "An AREF has 1 or more columns and rows"; its steps are "both whole" -}
    ∷ stop 41 1 (x 8 0x0008130200000003) (beyond R.ColumnsOrRows) 6 {- no column -}
    ∷ stop 41 1 (x 8 0x0008130200020000) (beyond R.ColumnsOrRows) 6 {- no row -}
    ∷ stop 42 1 (x 28 0x001c10030000000a000000140000004700000016000000100000008c) (beyond R.ArrayCorners) 6 {- a column step that is not whole, on x -}
    ∷ stop 42 1 (x 28 0x001c10030000000a000000140000004600000017000000100000008c) (beyond R.ArrayCorners) 6 {- on y -}
    ∷ stop 42 1 (x 28 0x001c10030000000a000000140000004600000016000000110000008c) (beyond R.ArrayCorners) 6 {- a row step, on x -}
    ∷ stop 42 1 (x 28 0x001c10030000000a000000140000004600000016000000100000008d) (beyond R.ArrayCorners) 6 {- on y -}
    ∷ []

-- ---- in turn: the bytes with record 0 changed, then with record 1 changed, and so on. `change` has the record and the records after it.

abbrev pub Change : Type 0
Change = List ℕ → List (List ℕ) → List ℕ

unfoldable pub in_turn : Change → List ℕ → List (List ℕ) → List (List ℕ)
in_turn change before [] = []
in_turn change before (r ∷ rs) = (before ++ change r rs) ∷ in_turn change (before ++ r) rs

-- two zero bytes more, and the length to match
abbrev pub grown : Change
grown [] rs = []
grown (h ∷ []) rs = []
grown (h ∷ l ∷ s) rs = h ∷ (l + 2) ∷ s ++ 0 ∷ 0 ∷ flat rs

-- the next data type
abbrev pub retyped : Change
retyped [] rs = []
retyped (h ∷ []) rs = []
retyped (h ∷ l ∷ []) rs = []
retyped (h ∷ l ∷ c ∷ []) rs = []
retyped (h ∷ l ∷ c ∷ t ∷ s) rs = h ∷ l ∷ c ∷ suc t ∷ s ++ flat rs

abbrev pub left_out : Change
left_out r rs = flat rs

abbrev pub doubled : Change
doubled r rs = r ++ r ++ flat rs

-- the last has none after it, and is left out
abbrev pub exchanged : Change
exchanged r [] = []
exchanged r (s ∷ rs) = s ++ r ++ flat rs
