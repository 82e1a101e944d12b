-- Elements as bytes, with what their records say and what that is worth, both by hand (document 01, "What a structure draws", its second and third paragraphs; boxes: document 02, request 3; flags and plex numbers, of all kinds in specs/Options: its request 5): what may be missing and what it is
-- then, strings with their zero bytes, signs, steps. The rows together are the elements of one structure. Assumes nothing.
use Rattle.std.specs.Prelude.{Bool, true, false, List, [], ◌∷◌, ◌++◌, ℕ, ◌*◌, ◌^◌, ℤ, pos, negsuc, neg_ℤ}
use Rattle.std.proofs.Math.Option.{Option, none, some}
use Rattle.units.specs.Point.{Point}
use Rattle.stream.specs.Structure as D
use Rattle.stream.specs.Drawn.{Transform, Worth, Drawn}
use Rattle.guards.specs.Question.{x}

pub record Row : Type 0 where
  pub bytes : List ℕ
  pub said : D.Said
  pub worth : Worth

-- ---- parts

abbrev p : ℤ → ℤ → Point ℤ
p a b = record { x = a; y = b }

abbrev row : List ℕ → D.Said → Worth → Row
row b s w = record { bytes = b; said = s; worth = w }

abbrev property : ℕ → List ℕ → D.Property
property a v = record { attribute = a; value = v }

-- kind; layer, type, points, properties
abbrev shaped : {P T : Type 0} → (D.Shape → D.Body P T) → ℕ → ℕ → List (Point ℤ) → List D.Property → D.Element P T
shaped k l t ps qs = record { flags = none; plex = none; body = k (record { layer = l; datatype = t; points = ps }); properties = qs }

abbrev boundary : {P T : Type 0} → ℕ → ℕ → List (Point ℤ) → List D.Property → D.Element P T
boundary = shaped D.boundary

abbrev node : {P T : Type 0} → ℕ → ℕ → List (Point ℤ) → List D.Property → D.Element P T
node = shaped D.node

abbrev box : {P T : Type 0} → ℕ → ℕ → List (Point ℤ) → List D.Property → D.Element P T
box = shaped D.box

-- a path on layer 1, of type 2, of one point at 0, is worth what it says
abbrev path : {P T : Type 0} → Option ℕ → Option ℤ → Option ℤ → Option ℤ → D.Element P T
path t w b e = record { flags = none; plex = none; body = D.path (record { layer = 1; datatype = 2; path_type = t; width = w; begin = b; end = e; points = p (pos 0) (pos 0) ∷ [] }); properties = [] }

abbrev pathed : List ℕ → Option ℕ → Option ℤ → Option ℤ → Option ℤ → Row
pathed bytes t w b e = row bytes (path t w b e) (path t w b e)

abbrev strans : Bool → Option (List ℕ) → Option (List ℕ) → Option D.Strans
strans r m a = some (record { reflection = r; magnification = m; angle = a })

abbrev transform : Bool → ℕ → ℤ → Transform
transform r m a = record { reflection = r; magnification = pos m; degrees = a }

-- eight-byte reals: 1/2, 2, 90 and -1, and 1 with a leading digit of 0
abbrev half : Option (List ℕ)
half = some (x 8 0x4080000000000000)

abbrev two : Option (List ℕ)
two = some (x 8 0x4120000000000000)

abbrev ninety : Option (List ℕ)
ninety = some (x 8 0x425a000000000000)

abbrev minus_one : Option (List ℕ)
minus_one = some (x 8 0xc110000000000000)

abbrev wide_one : Option (List ℕ)
wide_one = some (x 8 0x4201000000000000)

-- and 1 and 90 as whole numbers of 2 ^ -1074
abbrev one : ℕ
one = 2 ^ 1074

abbrev right : ℤ
right = pos (90 * one)

-- a text on layer 5, of type 300, at (3, -4): presentation, transform and string, said and worth
abbrev texted : {P T : Type 0} → P → T → List ℕ → D.Element P T
texted q t s = record { flags = none; plex = none; body = D.text (record { layer = 5; texttype = 300; presentation = q; transform = t; origin = p (pos 3) (negsuc 3); string = s }); properties = [] }

abbrev sref : {P T : Type 0} → List ℕ → T → Point ℤ → D.Element P T
sref n t o = record { flags = none; plex = none; body = D.sref (record { name = n; transform = t; origin = o }); properties = [] }

-- columns, rows, origin, column and row step
abbrev aref : {P T : Type 0} → List ℕ → T → ℕ → ℕ → Point ℤ → Point ℤ → Point ℤ → D.Element P T
aref n t c r o a b = record { flags = none; plex = none; body = D.aref (record { name = n; transform = t; columns = c; rows = r; origin = o; column_step = a; row_step = b }); properties = [] }

-- with an ELFLAGS and a PLEX
abbrev both : {P T : Type 0} → ℕ → ℤ → D.Element P T → D.Element P T
both n z e = record { flags = some n; plex = some z; body = e.body; properties = e.properties }

-- ---- the rows

unfoldable pub rows : List Row
rows =
    row (x 88 0x0004080000060d02ffff00060e02fffe00141003ffffffff800000007fffffff0000000000062b02ffff00042c0600062b02000100062c06780000062b02000200062c06797a00062b02000100082c067879000000041100)
    (boundary 65535 65534 (p (negsuc 0) (negsuc 2147483647) ∷ p (pos 2147483647) (pos 0) ∷ []) (property 65535 [] ∷ property 1 (120 ∷ 0 ∷ []) ∷ property 2 (121 ∷ 122 ∷ []) ∷ property 1 (120 ∷ 121 ∷ 0 ∷ 0 ∷ []) ∷ []))
    (boundary 65535 65534 (p (negsuc 0) (negsuc 2147483647) ∷ p (pos 2147483647) (pos 0) ∷ []) (property 65535 [] ∷ property 1 (120 ∷ []) ∷ property 2 (121 ∷ 122 ∷ []) ∷ property 1 (120 ∷ 121 ∷ []) ∷ [])) {- a polygon: 2-byte numbers unsigned, 4-byte signed; four properties, whose values are empty and have one, no and two zero bytes at the end -}
    ∷ row (x 24 0x0004080000060d02000000060e0200000004100300041100) (boundary 0 0 [] []) (boundary 0 0 [] []) {- a polygon of no point -}
    ∷ row (x 52 0x0004150000060d02000100062a02000200141003fffffffd0000000400000003fffffffc00062b02000700062c06616200041100) (node 1 2 (p (negsuc 2) (pos 4) ∷ p (pos 3) (negsuc 3) ∷ []) (property 7 (97 ∷ 98 ∷ []) ∷ [])) (node 1 2 (p (negsuc 2) (pos 4) ∷ p (pos 3) (negsuc 3) ∷ []) (property 7 (97 ∷ 98 ∷ []) ∷ [])) {- a node -}
    ∷ row (x 76 0x00042d0000060d02ffff00062e02fffe002c10037fffffff80000000ffffffff80000000ffffffff000000017fffffff000000017fffffff8000000000062b02000900062c06620000041100) (box 65535 65534 (p (pos 2147483647) (negsuc 2147483647) ∷ p (negsuc 0) (negsuc 2147483647) ∷ p (negsuc 0) (pos 1) ∷ p (pos 2147483647) (pos 1) ∷ p (pos 2147483647) (negsuc 2147483647) ∷ []) (property 9 (98 ∷ 0 ∷ []) ∷ [])) (box 65535 65534 (p (pos 2147483647) (negsuc 2147483647) ∷ p (negsuc 0) (negsuc 2147483647) ∷ p (negsuc 0) (pos 1) ∷ p (pos 2147483647) (pos 1) ∷ p (pos 2147483647) (negsuc 2147483647) ∷ []) (property 9 (98 ∷ []) ∷ [])) {- a box: 2-byte numbers unsigned, 4-byte signed -}
    ∷ row (x 40 0x00042d0000060d02000100062e02000200141003fffffffd0000000400000003fffffffc00041100) (box 1 2 (p (negsuc 2) (pos 4) ∷ p (pos 3) (negsuc 3) ∷ []) []) (box 1 2 (p (negsuc 2) (pos 4) ∷ p (pos 3) (negsuc 3) ∷ []) []) {- a box of two points, which no two corners give: that is not asked here -}
    ∷ row (x 24 0x00042d0000060d02000000062e0200000004100300041100) (box 0 0 [] []) (box 0 0 [] []) {- of no point -}
    ∷ pathed (x 32 0x0004090000060d02000100060e020002000c1003000000000000000000041100) none none none none {- a path with nothing that may be missing -}
    ∷ pathed (x 62 0x0004090000060d02000100060e02000200062102000200080f03fffffffb000830030000000600083103fffffff9000c1003000000000000000000041100) (some 2) (some (negsuc 4)) (some (pos 6)) (some (negsuc 6)) {- with all of it, two lengths below 0 -}
    ∷ pathed (x 38 0x0004090000060d02000100060e020002000621020004000c1003000000000000000000041100) (some 4) none none none {- PATHTYPE alone -}
    ∷ pathed (x 40 0x0004090000060d02000100060e02000200080f0300000005000c1003000000000000000000041100) none (some (pos 5)) none none {- WIDTH alone -}
    ∷ pathed (x 40 0x0004090000060d02000100060e02000200083003fffffffa000c1003000000000000000000041100) none none (some (negsuc 5)) none {- BGNEXTN alone -}
    ∷ pathed (x 40 0x0004090000060d02000100060e0200020008310300000007000c1003000000000000000000041100) none none none (some (pos 7)) {- ENDEXTN alone -}
    ∷ row (x 76 0x00040c0000060d02000500061602012c00061701000600061a018000000c1b054120000000000000000c1c05425a000000000000000c100300000003fffffffc000819066162630000041100) (texted (some 6) (strans true two ninety) (97 ∷ 98 ∷ 99 ∷ 0 ∷ [])) (texted 6 (transform true (2 * one) right) (97 ∷ 98 ∷ 99 ∷ [])) {- a text with all that may be missing; a string with one zero byte at its end -}
    ∷ row (x 70 0x00040c0000060d02000500061602012c00061a018000000c1b054120000000000000000c1c05425a000000000000000c100300000003fffffffc000819066162636400041100) (texted none (strans true two ninety) (97 ∷ 98 ∷ 99 ∷ 100 ∷ [])) (texted 0 (transform true (2 * one) right) (97 ∷ 98 ∷ 99 ∷ 100 ∷ [])) {- no PRESENTATION; no zero byte -}
    ∷ row (x 46 0x00040c0000060d02000500061602012c000617010006000c100300000003fffffffc000819066162000000041100) (texted (some 6) none (97 ∷ 98 ∷ 0 ∷ 0 ∷ [])) (texted 6 (transform false one (pos 0)) (97 ∷ 98 ∷ [])) {- no STRANS; two -}
    ∷ row (x 64 0x00040c0000060d02000500061602012c00061701000600061a018000000c1c05425a000000000000000c100300000003fffffffc000819066100000000041100) (texted (some 6) (strans true none ninety) (97 ∷ 0 ∷ 0 ∷ 0 ∷ [])) (texted 6 (transform true one right) (97 ∷ [])) {- no MAG; three -}
    ∷ row (x 64 0x00040c0000060d02000500061602012c00061701000600061a018000000c1b054120000000000000000c100300000003fffffffc000819066100620000041100) (texted (some 6) (strans true two none) (97 ∷ 0 ∷ 98 ∷ 0 ∷ [])) (texted 6 (transform true (2 * one) (pos 0)) (97 ∷ 0 ∷ 98 ∷ [])) {- no ANGLE; one inside, which stays -}
    ∷ row (x 50 0x00040c0000060d02000500061602012c00061701000600061a010000000c100300000003fffffffc00061906000000041100) (texted (some 6) (strans false none none) (0 ∷ 0 ∷ [])) (texted 6 (transform false one (pos 0)) []) {- a STRANS of 0 alone; zero bytes alone -}
    ∷ row (x 48 0x00040c0000060d02000500061602012c00061701000600061a018000000c100300000003fffffffc0004190600041100) (texted (some 6) (strans true none none) []) (texted 6 (transform true one (pos 0)) []) {- a STRANS of 0x8000 alone; an empty string -}
    ∷ row (x 62 0x00040c0000060d02000500061602012c00061701000600061a010000000c1b054120000000000000000c100300000003fffffffc00061906006200041100) (texted (some 6) (strans false two none) (0 ∷ 98 ∷ [])) (texted 6 (transform false (2 * one) (pos 0)) (0 ∷ 98 ∷ [])) {- MAG without reflection; a zero byte at the front, which stays -}
    ∷ row (x 26 0x00040a00000612064200000c1003fffffffb0000000600041100) (sref (66 ∷ 0 ∷ []) none (p (negsuc 4) (pos 6))) (sref (66 ∷ []) (transform false one (pos 0)) (p (negsuc 4) (pos 6))) {- a reference -}
    ∷ row (x 56 0x00040a0000061206420000061a018000000c1b054080000000000000000c1c05c110000000000000000c100300000005fffffffa00041100) (sref (66 ∷ 0 ∷ []) (strans true half minus_one) (p (pos 5) (negsuc 5))) (sref (66 ∷ []) (transform true (2 ^ 1073) (neg_ℤ (pos one))) (p (pos 5) (negsuc 5))) {- with a transform, turned by -1 -}
    ∷ row (x 44 0x00040a0000061206420000061a010000000c1b054201000000000000000c1003000000000000000000041100) (sref (66 ∷ 0 ∷ []) (strans false wide_one none) (p (pos 0) (pos 0))) (sref (66 ∷ []) (transform false one (pos 0)) (p (pos 0) (pos 0))) {- with a MAG of 1 that is not normalized -}
    ∷ row (x 50 0x00040b000006120642000008130200020003001c10030000000100000001fffffffb0000000500000004fffffff800041100) (aref (66 ∷ 0 ∷ []) none 2 3 (p (pos 1) (pos 1)) (p (negsuc 2) (pos 2)) (p (pos 1) (negsuc 2))) (aref (66 ∷ []) (transform false one (pos 0)) 2 3 (p (pos 1) (pos 1)) (p (negsuc 2) (pos 2)) (p (pos 1) (negsuc 2))) {- an array of 2 × 3 with steps (-3, 2) and (1, -3) -}
    ∷ row (x 68 0x00040b0000061206424200061a018000000c1c05425a00000000000000081302ffff0001001c100300000000000000000000ffffffff0001000000070000000700041100) (aref (66 ∷ 66 ∷ []) (strans true none ninety) 65535 1 (p (pos 0) (pos 0)) (p (pos 1) (negsuc 0)) (p (pos 7) (pos 7))) (aref (66 ∷ 66 ∷ []) (transform true one right) 65535 1 (p (pos 0) (pos 0)) (p (pos 1) (negsuc 0)) (p (pos 7) (pos 7))) {- an array of 65,535 columns, with a transform -}
    ∷ row (x 50 0x00040b000006120642000008130200010001001c100300000001000000020000000900000009000000080000000800041100) (aref (66 ∷ 0 ∷ []) none 1 1 (p (pos 1) (pos 2)) (p (pos 8) (pos 7)) (p (pos 7) (pos 6))) (sref (66 ∷ []) (transform false one (pos 0)) (p (pos 1) (pos 2))) {- an array of one is worth a reference -}
    ∷ row (x 64 0x00040b0000062601ffff00082f03fffffffe0006120642000008130200010001001c100300000001000000020000000900000009000000080000000800041100) (both 65535 (negsuc 1) (aref (66 ∷ 0 ∷ []) none 1 1 (p (pos 1) (pos 2)) (p (pos 8) (pos 7)) (p (pos 7) (pos 6)))) (both 65535 (negsuc 1) (sref (66 ∷ []) (transform false one (pos 0)) (p (pos 1) (pos 2)))) {- and so with flags and a plex number, which stay -}
    ∷ row (x 50 0x0004080000062601000000082f030000000000060d02000000060e0200000004100300062b02000100062c06780000041100) (both 0 (pos 0) (boundary 0 0 [] (property 1 (120 ∷ 0 ∷ []) ∷ []))) (both 0 (pos 0) (boundary 0 0 [] (property 1 (120 ∷ []) ∷ []))) {- both of 0, and a property -}
    ∷ []

-- ---- the structure of all rows: BGNSTR with the numbers 1 to 12 and STRNAME "AB" before them, ENDSTR after

abbrev stream_of : List Row → List ℕ
stream_of [] = x 4 0x00040700
stream_of (r ∷ rs) = r.bytes ++ stream_of rs

abbrev said_of : List Row → List D.Said
said_of [] = []
said_of (r ∷ rs) = r.said ∷ said_of rs

abbrev worth_of : List Row → List Worth
worth_of [] = []
worth_of (r ∷ rs) = r.worth ∷ worth_of rs

abbrev pub stream : List ℕ
stream = x 34 0x001c0502000100020003000400050006000700080009000a000b000c000606064142 ++ stream_of rows

abbrev pub said : D.Structure
said = record { stamps = 1 ∷ 2 ∷ 3 ∷ 4 ∷ 5 ∷ 6 ∷ 7 ∷ 8 ∷ 9 ∷ 10 ∷ 11 ∷ 12 ∷ []; name = 65 ∷ 66 ∷ []; elements = said_of rows }

abbrev pub worth : Drawn
worth = record { name = 65 ∷ 66 ∷ []; elements = worth_of rows }
