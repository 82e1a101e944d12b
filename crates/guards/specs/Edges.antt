-- Small cells at the edge of demand 3's bounds: e is 1/2 + 2 ^ -22 of a unit for nearest, 1 + 2 ^ -22 for floor and ceiling, 2 ^ -20 for strict, and (1 + i + j) times e for instance (i, j) of an
-- array (document 01, "What a structure draws", and the demand; boxes: document 02, request 3). The structures of `within` draw their sheet's cell; those of `beyond` do not. Sheets and structures are by hand. Assumes nothing.
use Rattle.std.specs.Prelude.{List, [], ◌∷◌, ◌++◌, ℕ, ◌+◌}
use Rattle.guards.specs.Question.{Question, x, bits}

-- ---- doubles, by their bits

abbrev one : ℕ
one = 0x3ff0000000000000

abbrev three : ℕ
three = 0x4008000000000000

abbrev half : ℕ
half = 0x3fe0000000000000

-- 1/2 + 2 ^ -22, 1 + 2 ^ -22 and 2 ^ -20; the next double is one more
abbrev near_e : ℕ
near_e = 0x3fe0000080000000

abbrev floor_e : ℕ
floor_e = 0x3ff0000040000000

abbrev strict_e : ℕ
strict_e = 0x3eb0000000000000

-- three times each
abbrev near_e3 : ℕ
near_e3 = 0x3ff80000c0000000

abbrev floor_e3 : ℕ
floor_e3 = 0x4008000060000000

abbrev strict_e3 : ℕ
strict_e3 = 0x3ec8000000000000

-- twice the first, and three halves of each
abbrev near_e2 : ℕ
near_e2 = 0x3ff0000080000000

abbrev near_e15 : ℕ
near_e15 = 0x3fe80000c0000000

abbrev floor_e15 : ℕ
floor_e15 = 0x3ff8000060000000

abbrev strict_e15 : ℕ
strict_e15 = 0x3eb8000000000000

-- the sign's bit; an infinity and a NaN
abbrev minus : ℕ
minus = 0x8000000000000000

abbrev endless : ℕ
endless = 0x7ff0000000000000

abbrev no_number : ℕ
no_number = 0x7ff8000000000000

-- ---- a node of one point on layer 1 and of type 2, whose x is looked at; y is 0

-- pairs and head; kind, layer, type, one point; x; y and no properties
abbrev node_sheet : List ℕ → List ℕ
node_sheet c =
    x 47 0x00000002000000140000001b0000002f0000002b000141000000000000000000000000000000000000000000000000
    ++ x 7 0x04000100020001
    ++ c
    ++ x 19 0x0000000000000000003ff00000000000000000

-- BGNSTR and STRNAME "A"; NODE, LAYER, NODETYPE, XY; ENDEL and ENDSTR
abbrev node_bytes : ℕ → List ℕ
node_bytes q =
    x 34 0x001c0502000000000000000000000000000000000000000000000000000606064100
    ++ x 20 0x0004150000060d02000100062a020002000c1003
    ++ x 4 q
    ++ x 12 0x000000000004110000040700

-- coordinates of 17 bytes: a double p in a unit of 1, and an integer v in a unit u
abbrev double : ℕ → List ℕ
double p = x 1 1 ++ x 8 p ++ x 8 one

abbrev integer : ℕ → ℕ → List ℕ
integer v u = x 1 0 ++ x 8 v ++ x 8 u

-- under a policy and in a unit d, a coordinate is drawn as q
abbrev at : ℕ → ℕ → List ℕ → ℕ → Question
at policy d c q = record { policy = policy; unit = bits d; sheet = node_sheet c; bytes = node_bytes q }

unfoldable pub points_within : List Question
points_within =
    at 0 one (double half) 0 {- nearest: both neighbours of 1/2 -}
    ∷ at 0 one (double half) 1
    ∷ at 0 one (double (minus + half)) 0 {- and of -1/2 -}
    ∷ at 0 one (double (minus + half)) 0xffffffff
    ∷ at 0 one (double near_e) 0 {- e above 0 -}
    ∷ at 0 one (double (minus + near_e)) 0 {- e below 0 -}
    ∷ at 0 three (double near_e3) 0 {- e of a unit of 3 -}
    ∷ at 1 one (double 0) 1 {- floor: one beside, on either side -}
    ∷ at 1 one (double 0) 0xffffffff
    ∷ at 1 one (double floor_e) 0 {- e above 0 -}
    ∷ at 1 one (double (minus + floor_e)) 0 {- e below 0 -}
    ∷ at 1 three (double floor_e3) 0 {- e of a unit of 3 -}
    ∷ at 2 one (double 0) 1 {- ceiling: one beside, on either side -}
    ∷ at 2 one (double 0) 0xffffffff
    ∷ at 2 one (double floor_e) 0 {- e above 0 -}
    ∷ at 2 one (double (minus + floor_e)) 0 {- e below 0 -}
    ∷ at 2 three (double floor_e3) 0 {- e of a unit of 3 -}
    ∷ at 3 one (double 0) 0 {- strict: 0 itself -}
    ∷ at 3 one (double strict_e) 0 {- e above 0 -}
    ∷ at 3 one (double (minus + strict_e)) 0 {- e below 0 -}
    ∷ at 3 three (double strict_e3) 0 {- e of a unit of 3 -}
    ∷ at 1 one (integer 5 one) 5 {- floor: an integer whose unit is d, unchanged -}
    ∷ at 1 one (integer 5 0x4000000000000000) 11 {- floor: 5 in a unit of 2 is converted, and may lie one beside 10 -}
    ∷ []

unfoldable pub points_beyond : List Question
points_beyond =
    at 0 one (double half) 2 {- nearest: the first beyond 1/2, on either side -}
    ∷ at 0 one (double half) 0xffffffff
    ∷ at 0 one (double (minus + half)) 1 {- and beyond -1/2 -}
    ∷ at 0 one (double (minus + half)) 0xfffffffe
    ∷ at 0 one (double (near_e + 1)) 0 {- the next double above e -}
    ∷ at 0 one (double (minus + near_e + 1)) 0 {- and below -}
    ∷ at 0 three (double (near_e3 + 1)) 0 {- in a unit of 3 -}
    ∷ at 1 one (double 0) 2 {- floor: two beside, on either side -}
    ∷ at 1 one (double 0) 0xfffffffe
    ∷ at 1 one (double (floor_e + 1)) 0 {- the next double above e -}
    ∷ at 1 one (double (minus + floor_e + 1)) 0 {- and below -}
    ∷ at 1 three (double (floor_e3 + 1)) 0 {- in a unit of 3 -}
    ∷ at 2 one (double 0) 2 {- ceiling: two beside, on either side -}
    ∷ at 2 one (double 0) 0xfffffffe
    ∷ at 2 one (double (floor_e + 1)) 0 {- the next double above e -}
    ∷ at 2 one (double (minus + floor_e + 1)) 0 {- and below -}
    ∷ at 2 three (double (floor_e3 + 1)) 0 {- in a unit of 3 -}
    ∷ at 3 one (double 0) 1 {- strict: one beside, on either side -}
    ∷ at 3 one (double 0) 0xffffffff
    ∷ at 3 one (double (strict_e + 1)) 0 {- the next double above e -}
    ∷ at 3 one (double (minus + strict_e + 1)) 0 {- and below -}
    ∷ at 3 three (double (strict_e3 + 1)) 0 {- in a unit of 3 -}
    ∷ at 1 one (integer 5 one) 6 {- floor: an integer whose unit is d, one beside -}
    ∷ at 2 one (integer 5 one) 4 {- ceiling: the same -}
    ∷ at 1 one (integer 5 0x4000000000000000) 12 {- floor: 5 in a unit of 2, two beside 10 -}
    ∷ at 1 one (double endless) 0 {- an infinity -}
    ∷ at 1 one (double no_number) 0 {- a NaN -}
    ∷ at 4 one (double 0) 0 {- no policy has the number 4 -}
    ∷ []

-- ---- a box on layer 1 and of type 2 from (1/2, 1/2) to (17/2, 13/2), under nearest in the unit 1: both neighbours of each coordinate are within, but it has one of them in all points

-- pairs and head; kind, layer, type; the corners; no properties
abbrev box_sheet : List ℕ
box_sheet =
    x 47 0x00000002000000140000001b0000002f0000004b000141000000000000000000000000000000000000000000000000
    ++ x 5 0x0600010002
    ++ double half
    ++ double half
    ++ double 0x4021000000000000
    ++ double 0x401a000000000000
    ++ x 2 0

-- of 4 bytes each
abbrev longs : List ℕ → List ℕ
longs [] = []
longs (q ∷ qs) = x 4 q ++ longs qs

-- BGNSTR and STRNAME "A"; BOX, LAYER, BOXTYPE, XY of five points; ENDEL and ENDSTR
abbrev box_bytes : List ℕ → List ℕ
box_bytes qs =
    x 34 0x001c0502000000000000000000000000000000000000000000000000000606064100
    ++ x 20 0x00042d0000060d02000100062e020002002c1003
    ++ longs qs
    ++ x 8 0x0004110000040700

abbrev drawn_as : List ℕ → Question
drawn_as qs = record { policy = 0; unit = bits one; sheet = box_sheet; bytes = box_bytes qs }

unfoldable pub boxes_within : List Question
boxes_within =
    drawn_as (0 ∷ 0 ∷ 8 ∷ 0 ∷ 8 ∷ 6 ∷ 0 ∷ 6 ∷ 0 ∷ 0 ∷ []) {- all down -}
    ∷ drawn_as (1 ∷ 1 ∷ 9 ∷ 1 ∷ 9 ∷ 7 ∷ 1 ∷ 7 ∷ 1 ∷ 1 ∷ []) {- all up -}
    ∷ drawn_as (0 ∷ 1 ∷ 9 ∷ 1 ∷ 9 ∷ 6 ∷ 0 ∷ 6 ∷ 0 ∷ 1 ∷ []) {- each its own way -}
    ∷ []

-- the first of these with one coordinate of one point up, and with a coordinate farther off
unfoldable pub boxes_beyond : List Question
boxes_beyond =
    drawn_as (1 ∷ 0 ∷ 8 ∷ 0 ∷ 8 ∷ 6 ∷ 0 ∷ 6 ∷ 0 ∷ 0 ∷ []) {- x of the first point alone up -}
    ∷ drawn_as (0 ∷ 1 ∷ 8 ∷ 0 ∷ 8 ∷ 6 ∷ 0 ∷ 6 ∷ 0 ∷ 0 ∷ []) {- y of the first point alone up -}
    ∷ drawn_as (0 ∷ 0 ∷ 9 ∷ 0 ∷ 8 ∷ 6 ∷ 0 ∷ 6 ∷ 0 ∷ 0 ∷ []) {- x of the second alone up -}
    ∷ drawn_as (0 ∷ 0 ∷ 8 ∷ 1 ∷ 8 ∷ 6 ∷ 0 ∷ 6 ∷ 0 ∷ 0 ∷ []) {- y of the second alone up -}
    ∷ drawn_as (0 ∷ 0 ∷ 8 ∷ 0 ∷ 9 ∷ 6 ∷ 0 ∷ 6 ∷ 0 ∷ 0 ∷ []) {- x of the third alone up -}
    ∷ drawn_as (0 ∷ 0 ∷ 8 ∷ 0 ∷ 8 ∷ 7 ∷ 0 ∷ 6 ∷ 0 ∷ 0 ∷ []) {- y of the third alone up -}
    ∷ drawn_as (0 ∷ 0 ∷ 8 ∷ 0 ∷ 8 ∷ 6 ∷ 1 ∷ 6 ∷ 0 ∷ 0 ∷ []) {- x of the fourth alone up -}
    ∷ drawn_as (0 ∷ 0 ∷ 8 ∷ 0 ∷ 8 ∷ 6 ∷ 0 ∷ 7 ∷ 0 ∷ 0 ∷ []) {- y of the fourth alone up -}
    ∷ drawn_as (0 ∷ 0 ∷ 8 ∷ 0 ∷ 8 ∷ 6 ∷ 0 ∷ 6 ∷ 1 ∷ 0 ∷ []) {- x of the last alone up -}
    ∷ drawn_as (0 ∷ 0 ∷ 8 ∷ 0 ∷ 8 ∷ 6 ∷ 0 ∷ 6 ∷ 0 ∷ 1 ∷ []) {- y of the last alone up -}
    ∷ drawn_as (2 ∷ 0 ∷ 8 ∷ 0 ∷ 8 ∷ 6 ∷ 2 ∷ 6 ∷ 2 ∷ 0 ∷ []) {- x1 beyond both neighbours, in every point -}
    ∷ drawn_as (0 ∷ 2 ∷ 8 ∷ 2 ∷ 8 ∷ 6 ∷ 0 ∷ 6 ∷ 0 ∷ 2 ∷ []) {- y1 beyond both neighbours, in every point -}
    ∷ drawn_as (0 ∷ 0 ∷ 10 ∷ 0 ∷ 10 ∷ 6 ∷ 0 ∷ 6 ∷ 0 ∷ 0 ∷ []) {- x2 beyond both neighbours, in every point -}
    ∷ drawn_as (0 ∷ 0 ∷ 8 ∷ 0 ∷ 8 ∷ 8 ∷ 0 ∷ 8 ∷ 0 ∷ 0 ∷ []) {- y2 beyond both neighbours, in every point -}
    ∷ []

-- ---- an array of "B", sine 0 and cosine 1, all drawn at 0: origin, column and row spacing as doubles on one axis, 0 on the other

-- pairs and head; kind, name; columns, rows; no reflection, magnification 1, degrees 0, sine 0, cosine 1; the points; no properties
abbrev array_sheet : ℕ → ℕ → List ℕ → List ℕ
array_sheet c r ps =
    x 47 0x00000002000000140000001b0000002f00000095000141000000000000000000000000000000000000000000000000
    ++ x 4 0x05000142
    ++ x 4 c
    ++ x 4 r
    ++ x 33 0x003ff0000000000000000000000000000000000000000000003ff0000000000000
    ++ ps
    ++ x 2 0

-- BGNSTR and STRNAME "A"; AREF, SNAME; COLROW; XY, ENDEL and ENDSTR
abbrev array_bytes : ℕ → ℕ → List ℕ
array_bytes c r =
    x 34 0x001c0502000000000000000000000000000000000000000000000000000606064100
    ++ x 14 0x00040b0000061206420000081302
    ++ x 2 c
    ++ x 2 r
    ++ x 36 0x001c10030000000000000000000000000000000000000000000000000004110000040700

-- SREF, SNAME, XY
abbrev single_bytes : List ℕ
single_bytes =
    x 34 0x001c0502000000000000000000000000000000000000000000000000000606064100
    ++ x 30 0x00040a00000612064200000c100300000000000000000004110000040700

-- origin, column and row spacing
abbrev on_x : ℕ → ℕ → ℕ → List ℕ
on_x o a b = double o ++ double 0 ++ double a ++ double 0 ++ double b ++ double 0

abbrev on_y : ℕ → ℕ → ℕ → List ℕ
on_y o a b = double 0 ++ double o ++ double 0 ++ double a ++ double 0 ++ double b

abbrev array : ℕ → ℕ → ℕ → List ℕ → Question
array policy c r ps = record { policy = policy; unit = bits one; sheet = array_sheet c r ps; bytes = array_bytes c r }

-- drawn as an SREF
abbrev single : ℕ → ℕ → List ℕ → Question
single c r ps = record { policy = 0; unit = bits one; sheet = array_sheet c r ps; bytes = single_bytes }

unfoldable pub arrays_within : List Question
arrays_within =
    array 0 2 2 (on_x near_e 0 0) {- instance (0, 0) at e -}
    ∷ array 0 2 2 (on_y near_e 0 0)
    ∷ array 0 2 2 (on_x 0 near_e2 0) {- (1, 0) at twice e -}
    ∷ array 0 2 2 (on_y 0 near_e2 0)
    ∷ array 0 2 2 (on_x 0 0 near_e2) {- (0, 1) at twice e -}
    ∷ array 0 2 2 (on_y 0 0 near_e2)
    ∷ array 0 2 2 (on_x 0 near_e15 near_e15) {- (1, 1) at three times e -}
    ∷ array 0 2 2 (on_y 0 near_e15 near_e15)
    ∷ array 0 2 2 (on_x 0 (minus + near_e15) (minus + near_e15)) {- below 0 -}
    ∷ array 1 2 2 (on_x 0 floor_e15 floor_e15) {- floor -}
    ∷ array 2 2 2 (on_x 0 floor_e15 floor_e15) {- ceiling -}
    ∷ array 3 2 2 (on_x 0 strict_e15 strict_e15) {- strict -}
    ∷ array 0 1 2 (on_x 0 (near_e2 + 1) 0) {- no column 1, whose instances would be beyond -}
    ∷ array 0 2 1 (on_x 0 0 (near_e2 + 1)) {- no row 1 -}
    ∷ array 0 1 2 (on_x 0 near_e15 (near_e15 + 1)) {- all but (1, 1), which would be -}
    ∷ array 0 2 1 (on_x 0 near_e15 (near_e15 + 1))
    ∷ array 0 1 1 (on_x 0 endless no_number) {- a 1 × 1 reference's spacings are not drawn -}
    ∷ single 1 1 (on_x 0 endless no_number)
    ∷ []

-- in each of the first twelve, one instance alone
unfoldable pub arrays_beyond : List Question
arrays_beyond =
    array 0 2 2 (on_x (near_e + 1) 0 0) {- instance (0, 0), by one step of a double -}
    ∷ array 0 2 2 (on_y (near_e + 1) 0 0)
    ∷ array 0 2 2 (on_x 0 (near_e2 + 1) 0) {- (1, 0) -}
    ∷ array 0 2 2 (on_y 0 (near_e2 + 1) 0)
    ∷ array 0 2 2 (on_x 0 0 (near_e2 + 1)) {- (0, 1) -}
    ∷ array 0 2 2 (on_y 0 0 (near_e2 + 1))
    ∷ array 0 2 2 (on_x 0 near_e15 (near_e15 + 1)) {- (1, 1) -}
    ∷ array 0 2 2 (on_y 0 near_e15 (near_e15 + 1))
    ∷ array 0 2 2 (on_x 0 (minus + near_e15) (minus + near_e15 + 1)) {- below 0 -}
    ∷ array 1 2 2 (on_x 0 floor_e15 (floor_e15 + 1)) {- floor -}
    ∷ array 2 2 2 (on_x 0 floor_e15 (floor_e15 + 1)) {- ceiling -}
    ∷ array 3 2 2 (on_x 0 strict_e15 (strict_e15 + 1)) {- strict -}
    ∷ array 0 2 2 (on_x endless 0 0) {- an infinite origin -}
    ∷ array 0 2 1 (on_x 0 endless 0) {- an infinite column spacing -}
    ∷ array 0 2 1 (on_x 0 0 endless) {- an infinite row spacing, of one row -}
    ∷ array 0 2 1 (on_x 0 0 no_number) {- a NaN -}
    ∷ single 1 2 (on_x 0 0 0) {- an array as an SREF -}
    ∷ single 2 1 (on_x 0 0 0)
    ∷ []

-- ---- a text "t" at 0, on layer 1 and of type 2: magnification and degrees

-- pairs and head; kind, layer, type, vertical, horizontal, reflection; the reals; origin, string, no properties
abbrev text_sheet : ℕ → ℕ → List ℕ
text_sheet m a =
    x 47 0x00000002000000140000001b0000002f0000003f000141000000000000000000000000000000000000000000000000
    ++ x 8 0x0300010002000000
    ++ x 8 m
    ++ x 8 a
    ++ x 39 0x0000000000000000003ff00000000000000000000000000000003ff00000000000000001740000

-- BGNSTR and STRNAME "A"; TEXT, LAYER, TEXTTYPE, PRESENTATION; the transform; XY, STRING, ENDEL and ENDSTR
abbrev text_bytes : List ℕ → List ℕ
text_bytes t =
    x 34 0x001c0502000000000000000000000000000000000000000000000000000606064100
    ++ x 22 0x00040c0000060d020001000616020002000617010000
    ++ t
    ++ x 26 0x000c100300000000000000000006190674000004110000040700

abbrev said : ℕ → ℕ → List ℕ → Question
said m a t = record { policy = 0; unit = bits one; sheet = text_sheet m a; bytes = text_bytes t }

unfoldable pub reals_within : List Question
reals_within =
    said one 0 [] {- magnification 1 and degrees 0 -}
    ∷ said one minus [] {- degrees -0 -}
    ∷ said one 0 (x 18 0x00061a010000000c1b054201000000000000) {- a MAG of 1 that is not normalized -}
    ∷ said 0x3fe0000000000000 0x4056800000000000 (x 30 0x00061a010000000c1b054080000000000000000c1c05425a000000000000) {- 1/2 and 90 -}
    ∷ []

unfoldable pub reals_beyond : List Question
reals_beyond =
    said (one + 1) 0 [] {- the next double above 1 -}
    ∷ said one 1 [] {- the least double above 0 -}
    ∷ said no_number 0 (x 18 0x00061a010000000c1b050000000000000000) {- a NaN as a MAG of 0 -}
    ∷ said endless 0 (x 18 0x00061a010000000c1b050000000000000000) {- an infinity -}
    ∷ said one no_number [] {- degrees that are a NaN -}
    ∷ said one endless [] {- an infinity -}
    ∷ []
