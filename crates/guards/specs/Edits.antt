-- Edits of the structure of specs/Sample (document 01, "What a structure draws", its last paragraph; the box: document 02, request 3; flags and plex numbers, of which it has none: its request 5, and option_guards). Each of `wrong` changes one thing that is drawn, and the structure draws another cell.
-- No edit of `alike` changes anything that is drawn, and the structure still draws the sheet's. Under nearest and d = 1. Assumes nothing.
use Rattle.std.specs.Prelude.{List, [], ◌∷◌, ◌++◌, ℕ}
use Rattle.guards.specs.Question.{Question, x}
use Rattle.guards.specs.Sample.{records, replaced}
use Rattle.guards.specs.Values.{one}

-- what is asked of a sheet and an edited structure
abbrev pub asked : List ℕ → List ℕ → Question
asked s b = record { policy = 0; unit = one; sheet = s; bytes = b }

-- n records from record k on, and what stands in their place
unfoldable pub edit : ℕ → ℕ → List ℕ → List ℕ
edit k n b = replaced k n b records

unfoldable pub wrong : List (List ℕ)
wrong =
    edit 1 1 (x 6 0x000606064200) {- the name -}
    ∷ edit 2 1 (x 4 0x00040900) {- a path for a polygon -}
    ∷ edit 2 3 (x 16 0x0004150000060d02000100062a020002) {- a node for a polygon -}
    ∷ edit 44 1 (x 4 0x00040800) {- a polygon for a path -}
    ∷ edit 30 3 (x 16 0x0004080000060d02000600060e020007) {- a polygon for a node -}
    ∷ edit 20 9 (x 28 0x0004150000060d02000500062a0200c8000c100300000003fffffffc) {- a node for a text -}
    ∷ edit 49 3 (x 16 0x0004080000060d02000a00060e02000b) {- a polygon for a box -}
    ∷ edit 49 3 (x 16 0x0004090000060d02000a00060e02000b) {- a path for a box -}
    ∷ edit 49 3 (x 16 0x0004150000060d02000a00062a02000b) {- a node for a box -}
    ∷ edit 2 3 (x 16 0x00042d0000060d02000100062e020002) {- a box for a polygon -}
    ∷ edit 30 3 (x 16 0x00042d0000060d02000600062e020007) {- a box for a node -}
    ∷ edit 3 1 (x 6 0x00060d020002) {- a polygon: layer -}
    ∷ edit 4 1 (x 6 0x00060e020003) {- a polygon: type -}
    ∷ edit 5 1 (x 36 0x002410030000000100000000000000040000000000000004000000040000000000000000) {- a polygon: x of its first point -}
    ∷ edit 5 1 (x 36 0x002410030000000000000001000000040000000000000004000000040000000000000000) {- a polygon: y of its first point -}
    ∷ edit 5 1 (x 36 0x002410030000000000000000000000050000000000000004000000040000000000000000) {- a polygon: x of its second point -}
    ∷ edit 5 1 (x 36 0x002410030000000000000000000000040000000100000004000000040000000000000000) {- a polygon: y of its second point -}
    ∷ edit 5 1 (x 36 0x002410030000000000000000000000040000000000000005000000040000000000000000) {- a polygon: x of its third point -}
    ∷ edit 5 1 (x 36 0x002410030000000000000000000000040000000000000004000000050000000000000000) {- a polygon: y of its third point -}
    ∷ edit 5 1 (x 36 0x002410030000000000000000000000040000000000000004000000040000000100000000) {- a polygon: x of its last point -}
    ∷ edit 5 1 (x 36 0x002410030000000000000000000000040000000000000004000000040000000000000001) {- a polygon: y of its last point -}
    ∷ edit 5 1 (x 36 0x002410030000000000000000000000040000000400000004000000000000000000000000) {- a polygon: points in another order -}
    ∷ edit 5 1 (x 28 0x001c1003000000000000000000000004000000000000000400000004) {- a polygon: a point fewer -}
    ∷ edit 5 1 (x 44 0x002c100300000000000000000000000400000000000000040000000400000000000000000000000000000000) {- a polygon: a point more -}
    ∷ edit 6 1 (x 6 0x00062b020003) {- a polygon: attribute -}
    ∷ edit 6 1 (x 6 0x00062b020101) {- a polygon: attribute, in its upper byte -}
    ∷ edit 6 1 (x 6 0x00062b020100) {- a polygon: attribute, its bytes exchanged -}
    ∷ edit 7 1 (x 6 0x00062c067900) {- a polygon: value -}
    ∷ edit 7 1 (x 4 0x00042c06) {- a polygon: an empty value -}
    ∷ edit 7 1 (x 6 0x00062c067878) {- a polygon: a longer value -}
    ∷ edit 6 2 [] {- a polygon: a property fewer -}
    ∷ edit 10 0 (x 12 0x00062b02000100062c067800) {- a polygon: a property more -}
    ∷ edit 6 4 (x 24 0x00062b02000200062c06797a00062b02000100062c067800) {- a polygon: properties in another order -}
    ∷ edit 34 0 (x 12 0x00062b02000100062c067800) {- a node: a property where there is none -}
    ∷ edit 12 1 (x 6 0x00060d020002) {- a path: layer -}
    ∷ edit 13 1 (x 6 0x00060e020003) {- a path: type -}
    ∷ edit 14 1 (x 6 0x000621020001) {- a path: path type -}
    ∷ edit 14 1 [] {- a path: no path type -}
    ∷ edit 15 1 (x 8 0x00080f03fffffffb) {- a path: width, the same size below 0 -}
    ∷ edit 15 1 [] {- a path: no width -}
    ∷ edit 16 1 (x 8 0x0008300300000007) {- a path: begin extension -}
    ∷ edit 16 1 [] {- a path: no begin extension -}
    ∷ edit 17 1 (x 8 0x0008310300000006) {- a path: end extension -}
    ∷ edit 17 1 [] {- a path: no end extension -}
    ∷ edit 18 1 (x 20 0x0014100300000001000000000000000900000008) {- a path: x of its first point -}
    ∷ edit 18 1 (x 20 0x0014100300000000000000010000000900000008) {- a path: y of its first point -}
    ∷ edit 18 1 (x 20 0x0014100300000000000000000000000a00000008) {- a path: x of its last point -}
    ∷ edit 18 1 (x 20 0x0014100300000000000000000000000900000009) {- a path: y of its last point -}
    ∷ edit 18 1 (x 12 0x000c10030000000000000000) {- a path: a point fewer -}
    ∷ edit 47 0 (x 6 0x000621020000) {- a path with none: a path type of 0 -}
    ∷ edit 47 0 (x 8 0x00080f0300000000) {- a path with none: a width of 0 -}
    ∷ edit 47 0 (x 8 0x0008300300000000) {- a path with none: a begin extension of 0 -}
    ∷ edit 47 0 (x 8 0x0008310300000000) {- a path with none: an end extension of 0 -}
    ∷ edit 21 1 (x 6 0x00060d020006) {- a text: layer -}
    ∷ edit 22 1 (x 6 0x0006160200c9) {- a text: type -}
    ∷ edit 22 1 (x 6 0x0006160201c8) {- a text: type, in its upper byte -}
    ∷ edit 22 1 (x 6 0x00061602c800) {- a text: type, its bytes exchanged -}
    ∷ edit 23 1 (x 6 0x000617010009) {- a text: presentation, vertical and horizontal exchanged -}
    ∷ edit 23 1 [] {- a text: presentation, missing -}
    ∷ edit 24 1 (x 6 0x00061a010000) {- a text: reflection -}
    ∷ edit 24 1 (x 4 0x00061a01 ++ 127 ∷ 256 ∷ []) {- a text: reflection, with a number that is no byte -}
    ∷ edit 25 1 (x 12 0x000c1b054120000000000001) {- a text: magnification, in its last bit -}
    ∷ edit 25 1 [] {- a text: magnification, missing -}
    ∷ edit 26 1 (x 12 0x000c1c05c25a000000000000) {- a text: degrees, with another sign -}
    ∷ edit 26 1 [] {- a text: degrees, missing -}
    ∷ edit 24 3 [] {- a text: the whole transform, missing -}
    ∷ edit 27 1 (x 12 0x000c100300000004fffffffc) {- a text: x of its point -}
    ∷ edit 27 1 (x 12 0x000c10030000000300000004) {- a text: y of its point -}
    ∷ edit 28 1 (x 8 0x0008190661626400) {- a text: string -}
    ∷ edit 28 1 (x 6 0x000619066162) {- a text: a shorter string -}
    ∷ edit 28 1 (x 8 0x0008190661626364) {- a text: a longer string -}
    ∷ edit 31 1 (x 6 0x00060d020007) {- a node: layer -}
    ∷ edit 32 1 (x 6 0x00062a020006) {- a node: type -}
    ∷ edit 33 1 (x 12 0x000c10030000000300000002) {- a node: x of its point -}
    ∷ edit 33 1 (x 12 0x000c10030000000200000003) {- a node: y of its point -}
    ∷ edit 36 1 (x 6 0x000612064300) {- a reference: name -}
    ∷ edit 37 0 (x 6 0x00061a018000) {- a reference: reflection -}
    ∷ edit 37 0 (x 18 0x00061a010000000c1b054120000000000000) {- a reference: magnification -}
    ∷ edit 37 0 (x 18 0x00061a010000000c1c05425a000000000000) {- a reference: degrees -}
    ∷ edit 37 1 (x 12 0x000c10030000000600000006) {- a reference: x of its point -}
    ∷ edit 37 1 (x 12 0x000c10030000000500000005) {- a reference: y of its point -}
    ∷ edit 35 3 (x 46 0x00040b000006120642000008130200010002001c1003000000050000000600000005000000060000000500000006) {- an array for a reference -}
    ∷ edit 40 1 (x 6 0x000612064200) {- an array: name -}
    ∷ edit 41 0 (x 6 0x00061a018000) {- an array: reflection -}
    ∷ edit 41 0 (x 18 0x00061a010000000c1b054120000000000000) {- an array: magnification -}
    ∷ edit 41 0 (x 18 0x00061a010000000c1c05425a000000000000) {- an array: degrees -}
    ∷ edit 41 2 (x 36 0x0008130200010003001c10030000000a000000140000002800000015000000100000008c) {- an array: columns, with the same steps -}
    ∷ edit 41 2 (x 36 0x0008130200020004001c10030000000a00000014000000460000001600000012000000b4) {- an array: rows, with the same steps -}
    ∷ edit 42 1 (x 28 0x001c10030000000b000000140000004700000016000000110000008c) {- an array: x of its first point, with the same steps -}
    ∷ edit 42 1 (x 28 0x001c10030000000a000000150000004600000017000000100000008d) {- an array: y of its first point, with the same steps -}
    ∷ edit 42 1 (x 28 0x001c10030000000a000000140000004a00000016000000100000008c) {- an array: x of the column step, which puts instances of column 1 beside -}
    ∷ edit 42 1 (x 28 0x001c10030000000a00000014000000460000001a000000100000008c) {- an array: y of the column step -}
    ∷ edit 42 1 (x 28 0x001c10030000000a000000140000004600000016000000130000008c) {- an array: x of the row step, which puts those of row 2 beside -}
    ∷ edit 42 1 (x 28 0x001c10030000000a000000140000004600000016000000100000008f) {- an array: y of the row step -}
    ∷ edit 39 4 (x 22 0x00040a00000612064300000c10030000000a00000014) {- a reference for an array -}
    ∷ edit 50 1 (x 6 0x00060d02000b) {- a box: layer -}
    ∷ edit 51 1 (x 6 0x00062e02000a) {- a box: type -}
    ∷ edit 52 1 (x 44 0x002c10030000000600000006fffffffe00000006fffffffefffffffd00000005fffffffd0000000500000006) {- a box: x of its first point -}
    ∷ edit 52 1 (x 44 0x002c10030000000500000007fffffffe00000006fffffffefffffffd00000005fffffffd0000000500000006) {- a box: y of its first point -}
    ∷ edit 52 1 (x 44 0x002c10030000000500000006ffffffff00000006fffffffefffffffd00000005fffffffd0000000500000006) {- a box: x of its second point -}
    ∷ edit 52 1 (x 44 0x002c10030000000500000006fffffffe00000007fffffffefffffffd00000005fffffffd0000000500000006) {- a box: y of its second point -}
    ∷ edit 52 1 (x 44 0x002c10030000000500000006fffffffe00000006fffffffffffffffd00000005fffffffd0000000500000006) {- a box: x of its third point -}
    ∷ edit 52 1 (x 44 0x002c10030000000500000006fffffffe00000006fffffffefffffffe00000005fffffffd0000000500000006) {- a box: y of its third point -}
    ∷ edit 52 1 (x 44 0x002c10030000000500000006fffffffe00000006fffffffefffffffd00000006fffffffd0000000500000006) {- a box: x of its fourth point -}
    ∷ edit 52 1 (x 44 0x002c10030000000500000006fffffffe00000006fffffffefffffffd00000005fffffffe0000000500000006) {- a box: y of its fourth point -}
    ∷ edit 52 1 (x 44 0x002c10030000000500000006fffffffe00000006fffffffefffffffd00000005fffffffd0000000600000006) {- a box: x of its last point -}
    ∷ edit 52 1 (x 44 0x002c10030000000500000006fffffffe00000006fffffffefffffffd00000005fffffffd0000000500000007) {- a box: y of its last point -}
    ∷ edit 52 1 (x 44 0x002c1003000000050000000600000005fffffffdfffffffefffffffdfffffffe000000060000000500000006) {- a box: points the other way round -}
    ∷ edit 52 1 (x 44 0x002c1003fffffffefffffffd00000005fffffffd0000000500000006fffffffe00000006fffffffefffffffd) {- a box: from its other corner, which is left of and below the first -}
    ∷ edit 52 1 (x 36 0x002410030000000500000006fffffffe00000006fffffffefffffffd00000005fffffffd) {- a box: left open, a point fewer -}
    ∷ edit 52 1 (x 52 0x003410030000000500000006fffffffe00000006fffffffefffffffd00000005fffffffd00000005000000060000000500000006) {- a box: a point more -}
    ∷ edit 52 1 (x 4 0x00041003) {- a box: no point -}
    ∷ edit 53 1 (x 6 0x00062b020004) {- a box: attribute -}
    ∷ edit 54 1 (x 6 0x00062c066300) {- a box: value -}
    ∷ edit 53 2 [] {- a box: a property fewer -}
    ∷ edit 55 0 (x 12 0x00062b02000300062c066200) {- a box: a property more -}
    ∷ edit 3 0 (x 6 0x000626010000) {- a polygon: flags of 0 where there are none -}
    ∷ edit 3 0 (x 8 0x00082f0300000000) {- a polygon: a plex number of 0 where there is none -}
    ∷ edit 12 0 (x 6 0x000626010000) {- a path: flags of 0 where there are none -}
    ∷ edit 21 0 (x 8 0x00082f0300000000) {- a text: a plex number of 0 where there is none -}
    ∷ edit 36 0 (x 6 0x000626010000) {- a reference: flags of 0 where there are none -}
    ∷ edit 40 0 (x 6 0x000626010000) {- an array: flags of 0 where there are none -}
    ∷ edit 40 0 (x 8 0x00082f0300000000) {- an array: a plex number of 0 where there is none -}
    ∷ edit 50 0 (x 8 0x00082f0300000000) {- a box: a plex number of 0 where there is none -}
    ∷ edit 35 4 [] {- an element fewer -}
    ∷ edit 56 0 (x 32 0x0004150000060d02000100062a020001000c1003000000000000000000041100) {- an element more -}
    ∷ edit 30 9 (x 58 0x00040a00000612064200000c10030000000500000006000411000004150000060d02000600062a020007000c1003000000020000000200041100) {- elements in another order -}
    ∷ []

unfoldable pub alike : List (List ℕ)
alike =
    edit 0 0 [] {- nothing -}
    ∷ edit 0 1 (x 28 0x001c0502000100010001000100010001000100010001000100010001) {- the stamps -}
    ∷ edit 1 1 (x 8 0x0008060641000000) {- a name with three zero bytes at its end -}
    ∷ edit 28 1 (x 10 0x000a1906616263000000) {- a string with three -}
    ∷ edit 9 1 (x 8 0x00082c06797a0000) {- a value with two -}
    ∷ edit 33 1 (x 12 0x000c10030000000100000002) {- the other neighbour of a half -}
    ∷ edit 37 0 (x 6 0x00061a010000) {- a transform that says nothing -}
    ∷ edit 37 0 (x 30 0x00061a010000000c1b054110000000000000000c1c050000000000000000) {- magnification 1, degrees 0 -}
    ∷ edit 35 3 (x 46 0x00040b000006120642000008130200010001001c1003000000050000000600000009000000090000000000000000) {- an array of one -}
    ∷ edit 42 1 (x 28 0x001c10030000000a000000140000004800000014000000100000008c) {- a column step 1 beside, within the bound -}
    ∷ edit 54 1 (x 8 0x00082c0662000000) {- a box's value with three zero bytes at its end -}
    ∷ []
