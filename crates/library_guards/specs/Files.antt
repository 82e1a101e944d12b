-- One library of two cells: its sheet, what that holds, the records of its file, and edits of these (document 02, request 1, its file; flags and plex numbers: its request 5). Each of `wrong` changes one thing, and the file does not draw the library.
-- No edit of `alike` changes anything that a structure draws. Under nearest and d = 1; the bytes are by hand. Assumes nothing.
use Rattle.std.proofs.Math.Option.{none}
use Rattle.std.specs.Prelude.{List, [], ◌∷◌, ◌++◌, ℕ, pos}
use Rattle.units.specs.declared.Unit.TheVariants as U
use Rattle.sheet.specs.Element as S
use Rattle.sheet.specs.Cell.{Cell}
use Rattle.sheet.specs.Library.{LibraryHead}
use Rattle.stream.specs.Library.{FileHead}
use Rattle.guards.specs.Question.{x, bits}
use Rattle.guards.specs.Values.{one}
use Rattle.guards.specs.Sample.{replaced}

-- ---- the sheet: "LIB", user unit 0.001, two dates; "A" with a node at (2.5, 0); "B"

unfoldable pub sheet_a : List ℕ
sheet_a =
    x 20 0x00000002000000140000001b0000002f0000002b {- pairs -}
    ++ x 27 0x000141000000000000000000000000000000000000000000000000 {- head -}
    ++ x 43 0x040001000200010140040000000000003ff00000000000000000000000000000003ff00000000000000000 {- node -}

unfoldable pub sheet_b : List ℕ
sheet_b =
    x 12 0x000000010000000c0000001b {- pairs -}
    ++ x 27 0x000142000000000000000000000000000000000000000000000000 {- head -}

unfoldable pub sheet : List ℕ
sheet =
    x 28 0x000000030000001c00000025000000410000005a0000009b00000027 {- pairs -}
    ++ x 37 0x00034c49423f50624dd2f1a9fc07e80002001d0017003b003b270f000c001f000000000000 {- head -}
    ++ sheet_a
    ++ sheet_b

-- and what it holds

abbrev zeros : List ℕ
zeros = 0 ∷ 0 ∷ 0 ∷ 0 ∷ 0 ∷ 0 ∷ 0 ∷ 0 ∷ 0 ∷ 0 ∷ 0 ∷ 0 ∷ []

unfoldable pub head : LibraryHead
head = record { name = 76 ∷ 73 ∷ 66 ∷ []; user_unit = bits 0x3f50624dd2f1a9fc; stamps = 2024 ∷ 2 ∷ 29 ∷ 23 ∷ 59 ∷ 59 ∷ 9999 ∷ 12 ∷ 31 ∷ 0 ∷ 0 ∷ 0 ∷ [] }

unfoldable pub cell_a : Cell
cell_a =
    record {
      head = record { name = 65 ∷ []; stamps = zeros };
      elements =
          record { flags = none; plex = none; body = S.node (record { layer = 1; datatype = 2; points = record { x = U.Float (bits 0x4004000000000000) one; y = U.Integer (pos 0) one } ∷ [] }); properties = [] }
          ∷ [];
    }

unfoldable pub cell_b : Cell
cell_b = record { head = record { name = 66 ∷ []; stamps = zeros }; elements = [] }

-- what the file's own records say

unfoldable pub front : FileHead
front =
    record {
      stamps = 2024 ∷ 2 ∷ 29 ∷ 23 ∷ 59 ∷ 59 ∷ 9999 ∷ 12 ∷ 31 ∷ 0 ∷ 0 ∷ 0 ∷ [];
      name = 76 ∷ 73 ∷ 66 ∷ 0 ∷ [];
      user_unit = x 8 0x3e4189374bc6a7f0;
      database_unit = x 8 0x4110000000000000;
    }

-- ---- the file

unfoldable pub records : List (List ℕ)
records =
    x 6 0x000600020258 {- 0: HEADER 600 -}
    ∷ x 28 0x001c010207e80002001d0017003b003b270f000c001f000000000000 {- 1: BGNLIB -}
    ∷ x 8 0x000802064c494200 {- 2: LIBNAME "LIB" -}
    ∷ x 20 0x001403053e4189374bc6a7f04110000000000000 {- 3: UNITS 0.001 and 1 -}
    ∷ x 28 0x001c0502000000000000000000000000000000000000000000000000 {- 4: BGNSTR -}
    ∷ x 6 0x000606064100 {- 5: STRNAME "A" -}
    ∷ x 4 0x00041500 {- 6: NODE -}
    ∷ x 6 0x00060d020001 {- 7: LAYER 1 -}
    ∷ x 6 0x00062a020002 {- 8: NODETYPE 2 -}
    ∷ x 12 0x000c10030000000300000000 {- 9: XY -}
    ∷ x 4 0x00041100 {- 10: ENDEL -}
    ∷ x 4 0x00040700 {- 11: ENDSTR -}
    ∷ x 28 0x001c0502000000000000000000000000000000000000000000000000 {- 12: BGNSTR -}
    ∷ x 6 0x000606064200 {- 13: STRNAME "B" -}
    ∷ x 4 0x00040700 {- 14: ENDSTR -}
    ∷ x 4 0x00040400 {- 15: ENDLIB -}
    ∷ []

-- the two structures
abbrev A : List ℕ
A = x 34 0x001c0502000000000000000000000000000000000000000000000000000606064100 ++ x 32 0x0004150000060d02000100062a020002000c1003000000030000000000041100 ++ x 4 0x00040700

abbrev B : List ℕ
B = x 34 0x001c0502000000000000000000000000000000000000000000000000000606064200 ++ x 4 0x00040700

-- n records from record k on, and what stands in their place
unfoldable pub edit : ℕ → ℕ → List ℕ → List ℕ
edit k n b = replaced k n b records

unfoldable pub wrong : List (List ℕ)
wrong =
    edit 0 1 (x 6 0x000600020257) {- HEADER: the version -}
    ∷ edit 0 1 (x 6 0x000600020005)
    ∷ edit 0 1 [] {- no HEADER -}
    ∷ edit 1 1 (x 28 0x001c010207e90002001d0017003b003b270f000c001f000000000000) {- BGNLIB: the first number -}
    ∷ edit 1 1 (x 28 0x001c010207e80002001d0017003b003a270f000c001f000000000000) {- the sixth -}
    ∷ edit 1 1 (x 28 0x001c010207e80002001d0017003b003b2710000c001f000000000000) {- the seventh -}
    ∷ edit 1 1 (x 28 0x001c010207e80002001d0017003b003b270f000c001f000000000001) {- the last -}
    ∷ edit 1 1 (x 28 0x001c0102270f000c001f00000000000007e80002001d0017003b003b) {- stamps exchanged -}
    ∷ edit 1 1 (x 28 0x001c0102000000000000000000000000000000000000000000000000) {- no stamps -}
    ∷ edit 2 1 (x 8 0x000802064c494300) {- LIBNAME: another name -}
    ∷ edit 2 1 (x 8 0x000802066c494200)
    ∷ edit 2 1 (x 6 0x000602064c49) {- a byte fewer -}
    ∷ edit 2 1 (x 10 0x000a02064c4942000000) {- two zero bytes more -}
    ∷ edit 2 1 (x 8 0x000802064c494220) {- padded by a space -}
    ∷ edit 2 1 [] {- no LIBNAME -}
    ∷ edit 3 1 (x 20 0x0014030541100000000000003e4189374bc6a7f0) {- UNITS: exchanged -}
    ∷ edit 3 1 (x 20 0x001403053e4189374bc6a7f14110000000000000) {- the user unit, by its last bit -}
    ∷ edit 3 1 (x 20 0x001403053e4189374bc6a7f04110000000000001) {- d, by its last bit -}
    ∷ edit 3 1 (x 20 0x00140305433e8000000000004110000000000000) {- d in user units -}
    ∷ edit 3 1 (x 20 0x0014030541100000000000004110000000000000) {- a user unit of 1 -}
    ∷ edit 3 1 (x 12 0x000c03053e4189374bc6a7f0) {- one real -}
    ∷ edit 2 2 (x 20 0x001403053e4189374bc6a7f04110000000000000 ++ x 8 0x000802064c494200) {- UNITS before LIBNAME -}
    ∷ edit 4 11 (B ++ A) {- the structures: exchanged -}
    ∷ edit 4 8 [] {- no first -}
    ∷ edit 12 3 [] {- no last -}
    ∷ edit 4 11 [] {- neither -}
    ∷ edit 4 0 A {- the first twice -}
    ∷ edit 12 0 B {- the last twice -}
    ∷ edit 12 3 A {- the first for the last -}
    ∷ edit 4 8 B {- the last for the first -}
    ∷ edit 9 1 (x 12 0x000c10030000000400000000) {- a point two beside -}
    ∷ edit 6 5 [] {- no node -}
    ∷ edit 7 1 (x 6 0x00060d020002) {- another layer -}
    ∷ edit 7 0 (x 6 0x000626010000) {- flags where there are none -}
    ∷ edit 7 0 (x 8 0x00082f0300000000) {- a plex number where there is none -}
    ∷ edit 13 1 (x 6 0x000606064300) {- another name of the last -}
    ∷ edit 11 1 [] {- no ENDSTR -}
    ∷ edit 12 0 (0 ∷ 0 ∷ []) {- bytes between the structures -}
    ∷ edit 12 0 (x 4 0x00040400) {- ENDLIB between them -}
    ∷ edit 15 1 [] {- no ENDLIB -}
    ∷ edit 15 1 (x 4 0x00040401) {- ENDLIB of another data type -}
    ∷ edit 15 1 (x 4 0x00040700) {- ENDSTR for it -}
    ∷ edit 15 1 (x 3 0x000404) {- ENDLIB cut -}
    ∷ edit 16 0 (0 ∷ []) {- a byte after it -}
    ∷ edit 16 0 (x 4 0x00040400) {- ENDLIB twice -}
    ∷ edit 0 16 [] {- nothing at all -}
    ∷ edit 4 12 [] {- the front alone -}
    ∷ edit 0 4 [] {- no front -}
    ∷ []

unfoldable pub alike : List (List ℕ)
alike =
    edit 0 0 [] {- the file itself -}
    ∷ edit 9 1 (x 12 0x000c10030000000200000000) {- the point's other neighbour -}
    ∷ edit 4 1 (x 28 0x001c050207e80002001d0017003b003b270f000c001f000000000000) {- a structure's stamps -}
    ∷ edit 13 1 (x 8 0x0008060642000000) {- zero bytes at a structure's name -}
    ∷ []
