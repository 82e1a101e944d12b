-- Flags and plex numbers by hand (document 02, request 5): elements of every kind with neither, with flags, with a plex number and with both, as blocks and as records, with what these hold, say, are worth and report; blocks by
-- their bytes; a cell of such elements, its structure, and edits of it as in guards/specs/Edits; sheets with two faults, of which one is 26. Under nearest and d = 1. Assumes nothing.
use Rattle.std.specs.Prelude.{false, List, [], ◌∷◌, ◌++◌, ℕ, suc, ◌+◌, ℤ, pos, negsuc}
use Rattle.std.proofs.Math.Option.{Option, none, some}
use Rattle.units.specs.declared.Unit.{Unit}
use Rattle.units.specs.declared.Unit.TheVariants as U
use Rattle.units.specs.Point.{Point}
use Rattle.conversion.specs.declared.Entry.{Entry}
use Rattle.sheet.specs.Element as S
use Rattle.sheet.specs.Cell.{Cell}
use Rattle.stream.specs.Structure as D
use Rattle.stream.specs.Drawn.{Transform, Worth, Drawn}
use Rattle.guards.specs.Question.{x, bits}
use Rattle.guards.specs.Sample.{replaced, sheet_of}
use Rattle.guards.specs.Values.{one, plain}

-- ---- options

-- "A kind byte raised by 16 is followed by 2 bytes of flags; raised by 32, by 4 bytes of signed plex number; with both, flags come first."; "The records ELFLAGS and PLEX follow the element's first record, in this order"
pub record Options : Type 0 where
  pub raise : ℕ
  pub bytes : List ℕ
  pub records : List (List ℕ)
  pub flags : Option ℕ
  pub plex : Option ℤ

abbrev elflags : ℕ → List ℕ
elflags n = x 4 0x00062601 ++ x 2 n

abbrev plex : ℕ → List ℕ
plex b = x 4 0x00082f03 ++ x 4 b

abbrev neither : Options
neither = record { raise = 0; bytes = []; records = []; flags = none; plex = none }

abbrev flagged : ℕ → Options
flagged n = record { raise = 16; bytes = x 2 n; records = elflags n ∷ []; flags = some n; plex = none }

-- a plex number: its four bytes as one number, and what it is
abbrev plexed : ℕ → ℤ → Options
plexed b z = record { raise = 32; bytes = x 4 b; records = plex b ∷ []; flags = none; plex = some z }

abbrev both : ℕ → ℕ → ℤ → Options
both n b z = record { raise = 48; bytes = x 2 n ++ x 4 b; records = elflags n ∷ plex b ∷ []; flags = some n; plex = some z }

-- ---- kinds: the block after its options, what it holds; the first record, those after the options, what they say and are worth; where the entry stands

pub record Kind : Type 0 where
  pub number : ℕ
  pub form : List ℕ
  pub body : S.Body
  pub first : List ℕ
  pub others : List (List ℕ)
  pub said : D.SaidBody
  pub worth : D.Body ℕ Transform
  pub field : ℕ
  pub axis : ℕ
  pub place : ℕ
  pub count : ℕ

-- coordinates of 17 bytes and what they are: an integer, 2.25 and none, in a unit of 1
abbrev pub int : ℕ → List ℕ
int v = x 1 0 ++ x 8 v ++ x 8 0x3ff0000000000000

abbrev pub frac : List ℕ
frac = x 17 0x0140020000000000003ff0000000000000

abbrev pub gone : List ℕ
gone = x 17 0x0200000000000000000000000000000000

abbrev whole : ℤ → Unit
whole z = U.Integer z one

abbrev off : Unit
off = U.Float (bits 0x4002000000000000) one

abbrev at : {A : Type 0} → A → A → Point A
at a b = record { x = a; y = b }

abbrev spot : ℕ → ℕ → Point ℤ
spot a b = at (pos a) (pos b)

abbrev corner : ℕ → ℕ → Point Unit
corner a b = at (whole (pos a)) (whole (pos b))

-- layer 1, DATATYPE 2 and ENDEL
abbrev layer : List ℕ
layer = x 6 0x00060d020001

abbrev datatype : List ℕ
datatype = x 6 0x00060e020002

abbrev endel : List ℕ
endel = x 4 0x00041100

-- A polygon, a path of width 2.25, a text "t", a node, a reference to "B", an array of 2 × 3 of "C", a box; on layer 1 and of type 2, with one coordinate of 2.25 and no properties. The box is of type 3: after flags of 1 and
-- a type of 2 its corners would also be the two points of a polygon.
unfoldable pub polygon : Kind
polygon =
    record {
      number = 1;
      form = x 6 0x000100020004 ++ int 0 ++ int 0 ++ frac ++ int 0 ++ int 4 ++ int 4 ++ int 0 ++ int 0 ++ x 2 0;
      body = S.polygon (record { layer = 1; datatype = 2; points = corner 0 0 ∷ at off (whole (pos 0)) ∷ corner 4 4 ∷ corner 0 0 ∷ [] });
      first = x 4 0x00040800;
      others = layer ∷ datatype ∷ x 36 0x002410030000000000000000000000020000000000000004000000040000000000000000 ∷ endel ∷ [];
      said = D.boundary (record { layer = 1; datatype = 2; points = spot 0 0 ∷ spot 2 0 ∷ spot 4 4 ∷ spot 0 0 ∷ [] });
      worth = D.boundary (record { layer = 1; datatype = 2; points = spot 0 0 ∷ spot 2 0 ∷ spot 4 4 ∷ spot 0 0 ∷ [] });
      field = 0;
      axis = 0;
      place = 1;
      count = 1;
    }

unfoldable pub path : Kind
path =
    record {
      number = 2;
      form = x 5 0x00010002ff ++ frac ++ gone ++ gone ++ x 2 2 ++ int 0 ++ int 0 ++ int 9 ++ int 8 ++ x 2 0;
      body = S.path (record { layer = 1; datatype = 2; path_type = none; width = some off; begin = none; end = none; points = corner 0 0 ∷ corner 9 8 ∷ [] });
      first = x 4 0x00040900;
      others = layer ∷ datatype ∷ x 8 0x00080f0300000002 ∷ x 20 0x0014100300000000000000000000000900000008 ∷ endel ∷ [];
      said = D.path (record { layer = 1; datatype = 2; path_type = none; width = some (pos 2); begin = none; end = none; points = spot 0 0 ∷ spot 9 8 ∷ [] });
      worth = D.path (record { layer = 1; datatype = 2; path_type = none; width = some (pos 2); begin = none; end = none; points = spot 0 0 ∷ spot 9 8 ∷ [] });
      field = 1;
      axis = 2;
      place = 0;
      count = 1;
    }

unfoldable pub text : Kind
text =
    record {
      number = 3;
      form = x 7 0x00010002010200 ++ x 8 0x3ff0000000000000 ++ x 8 0 ++ frac ++ int 3 ++ x 3 0x000174 ++ x 2 0;
      body = S.text (record { layer = 1; texttype = 2; vertical = 1; horizontal = 2; reflection = false; magnification = one; degrees = bits 0; origin = at off (whole (pos 3)); string = 116 ∷ [] });
      first = x 4 0x00040c00;
      others = layer ∷ x 6 0x000616020002 ∷ x 6 0x000617010006 ∷ x 12 0x000c10030000000200000003 ∷ x 6 0x000619067400 ∷ endel ∷ [];
      said = D.text (record { layer = 1; texttype = 2; presentation = some 6; transform = none; origin = spot 2 3; string = 116 ∷ 0 ∷ [] });
      worth = D.text (record { layer = 1; texttype = 2; presentation = 6; transform = plain; origin = spot 2 3; string = 116 ∷ [] });
      field = 4;
      axis = 0;
      place = 0;
      count = 1;
    }

unfoldable pub node : Kind
node =
    record {
      number = 4;
      form = x 6 0x000100020001 ++ int 3 ++ frac ++ x 2 0;
      body = S.node (record { layer = 1; datatype = 2; points = at (whole (pos 3)) off ∷ [] });
      first = x 4 0x00041500;
      others = layer ∷ x 6 0x00062a020002 ∷ x 12 0x000c10030000000300000002 ∷ endel ∷ [];
      said = D.node (record { layer = 1; datatype = 2; points = spot 3 2 ∷ [] });
      worth = D.node (record { layer = 1; datatype = 2; points = spot 3 2 ∷ [] });
      field = 0;
      axis = 1;
      place = 0;
      count = 1;
    }

unfoldable pub single : Kind
single =
    record {
      number = 5;
      form = x 3 0x000142 ++ x 8 0x0000000100000001 ++ x 33 0x003ff0000000000000000000000000000000000000000000003ff0000000000000 ++ frac ++ int 6 ++ gone ++ gone ++ gone ++ gone ++ x 2 0;
      body = S.reference (record { name = 66 ∷ []; columns = 1; rows = 1; reflection = false; magnification = one; degrees = bits 0; sine = bits 0; cosine = one; origin = at off (whole (pos 6)); column_spacing = none; row_spacing = none });
      first = x 4 0x00040a00;
      others = x 6 0x000612064200 ∷ x 12 0x000c10030000000200000006 ∷ endel ∷ [];
      said = D.sref (record { name = 66 ∷ 0 ∷ []; transform = none; origin = spot 2 6 });
      worth = D.sref (record { name = 66 ∷ []; transform = plain; origin = spot 2 6 });
      field = 4;
      axis = 0;
      place = 0;
      count = 1;
    }

-- its entry counts the origin and both endpoints
unfoldable pub array : Kind
array =
    record {
      number = 5;
      form = x 3 0x000143 ++ x 8 0x0000000200000003 ++ x 33 0x003ff0000000000000000000000000000000000000000000003ff0000000000000 ++ frac ++ int 20 ++ int 30 ++ int 1 ++ int 2 ++ int 40 ++ x 2 0;
      body = S.reference (record { name = 67 ∷ []; columns = 2; rows = 3; reflection = false; magnification = one; degrees = bits 0; sine = bits 0; cosine = one; origin = at off (whole (pos 20)); column_spacing = some (corner 30 1); row_spacing = some (corner 2 40) });
      first = x 4 0x00040b00;
      others = x 6 0x000612064300 ∷ x 8 0x0008130200020003 ∷ x 28 0x001c100300000002000000140000003e00000016000000080000008c ∷ endel ∷ [];
      said = D.aref (record { name = 67 ∷ 0 ∷ []; transform = none; columns = 2; rows = 3; origin = spot 2 20; column_step = spot 30 1; row_step = spot 2 40 });
      worth = D.aref (record { name = 67 ∷ []; transform = plain; columns = 2; rows = 3; origin = spot 2 20; column_step = spot 30 1; row_step = spot 2 40 });
      field = 4;
      axis = 0;
      place = 0;
      count = 3;
    }

-- its entry counts x1 in three points
unfoldable pub box : Kind
box =
    record {
      number = 6;
      form = x 4 0x00010003 ++ frac ++ int 6 ++ int 0xfffffffe ++ int 0xfffffffd ++ x 2 0;
      body = S.box (record { layer = 1; boxtype = 3; first = at off (whole (pos 6)); second = at (whole (negsuc 1)) (whole (negsuc 2)) });
      first = x 4 0x00042d00;
      others = layer ∷ x 6 0x00062e020003 ∷ x 44 0x002c10030000000200000006fffffffe00000006fffffffefffffffd00000002fffffffd0000000200000006 ∷ endel ∷ [];
      said = D.box (record { layer = 1; datatype = 3; points = spot 2 6 ∷ at (negsuc 1) (pos 6) ∷ at (negsuc 1) (negsuc 2) ∷ at (pos 2) (negsuc 2) ∷ spot 2 6 ∷ [] });
      worth = D.box (record { layer = 1; datatype = 3; points = spot 2 6 ∷ at (negsuc 1) (pos 6) ∷ at (negsuc 1) (negsuc 2) ∷ at (pos 2) (negsuc 2) ∷ spot 2 6 ∷ [] });
      field = 0;
      axis = 0;
      place = 0;
      count = 3;
    }

-- ---- a kind with options

abbrev pub block_with : Kind → Options → List ℕ
block_with k o = x 1 (k.number + o.raise) ++ o.bytes ++ k.form

abbrev pub element_with : Kind → Options → S.Element
element_with k o = record { flags = o.flags; plex = o.plex; body = k.body; properties = [] }

abbrev pub records_with : Kind → Options → List (List ℕ)
records_with k o = k.first ∷ (o.records ++ k.others)

abbrev pub said_with : Kind → Options → D.Said
said_with k o = record { flags = o.flags; plex = o.plex; body = k.said; properties = [] }

abbrev pub worth_with : Kind → Options → Worth
worth_with k o = record { flags = o.flags; plex = o.plex; body = k.worth; properties = [] }

-- "The report shows the kind without these additions."
abbrev pub entry_at : ℕ → Kind → Entry
entry_at i k = record { index = i; kind = k.number; field = k.field; axis = k.axis; place = k.place; count = k.count; physical = bits 0x4002000000000000; database = pos 2; error = bits 0xbfd0000000000000 }

pub record Row : Type 0 where
  pub kind : Kind
  pub options : Options

abbrev row : Kind → Options → Row
row k o = record { kind = k; options = o }

-- each kind with each of the options
abbrev with_each : Kind → List Options → List Row
with_each k [] = []
with_each k (o ∷ os) = row k o ∷ with_each k os

abbrev crossed : List Kind → List Options → List Row
crossed [] os = []
crossed (k ∷ ks) os = with_each k os ++ crossed ks os

unfoldable pub kinds : List Kind
unfolding polygon path text node single array box
kinds = polygon ∷ path ∷ text ∷ node ∷ single ∷ array ∷ box ∷ []

-- ---- "All six element kinds shall carry both as options.": 0 to 3 pass as flags, every number of 32 bits as a plex number, and 0 is not absent

unfoldable pub rows : List Row
unfolding kinds
rows =
    crossed kinds (neither ∷ flagged 1 ∷ plexed 0xfffffffe (negsuc 1) ∷ both 2 3 (pos 3) ∷ [])
    ++ crossed (node ∷ [])
    (flagged 0
    ∷ flagged 2
    ∷ flagged 3
    ∷ plexed 0 (pos 0)
    ∷ plexed 1 (pos 1)
    ∷ plexed 0xffffffff (negsuc 0)
    ∷ plexed 0x00ffffff (pos 16777215) {- 24 bits, and more -}
    ∷ plexed 0x01000000 (pos 16777216)
    ∷ plexed 0x7fffffff (pos 2147483647)
    ∷ plexed 0x80000000 (negsuc 2147483647)
    ∷ both 0 0 (pos 0)
    ∷ both 3 0x80000000 (negsuc 2147483647)
    ∷ [])

-- "26 flags above 3": a sheet can have them, and so can a structure
unfoldable pub above : List Row
unfolding kinds
above =
    crossed kinds (flagged 4 ∷ [])
    ++ crossed (node ∷ [])
    (flagged 5
    ∷ flagged 8
    ∷ flagged 0x00ff
    ∷ flagged 0x0100 {- whose last byte is 0 -}
    ∷ flagged 0x0103
    ∷ flagged 0x8000
    ∷ flagged 0xffff
    ∷ both 4 0 (pos 0)
    ∷ both 0x8003 0x80000000 (negsuc 2147483647)
    ∷ [])

-- ---- blocks by their bytes: a polygon or a node on layer 1 and of type 2, with no points

pub record Block : Type 0 where
  pub bytes : List ℕ
  pub held : Option S.Element

abbrev block : List ℕ → Option S.Element → Block
block b e = record { bytes = b; held = e }

abbrev empty : S.Shape
empty = record { layer = 1; datatype = 2; points = [] }

abbrev held : Option ℕ → Option ℤ → S.Body → List S.Property → Option S.Element
held f p b qs = some (record { flags = f; plex = p; body = b; properties = qs })

unfoldable pub blocks : List Block
blocks =
    block (x 9 0x010001000200000000) (held none none (S.polygon empty) []) {- 1: 9 bytes -}
    ∷ block (x 11 0x1101020001000200000000) (held (some 258) none (S.polygon empty) []) {- 17: flags -}
    ∷ block (x 13 0x21fffffffe0001000200000000) (held none (some (negsuc 1)) (S.polygon empty) []) {- 33: a plex number, which has a sign -}
    ∷ block (x 15 0x310102030405060001000200000000) (held (some 258) (some (pos 50595078)) (S.polygon empty) []) {- 49: flags, then a plex number -}
    ∷ block (x 15 0x34ffffffffffff0001000200000000) (held (some 65535) (some (negsuc 0)) (S.node empty) []) {- 52: flags have no sign -}
    ∷ block (x 15 0x340000000000000001000200000000) (held (some 0) (some (pos 0)) (S.node empty) []) {- 0 is there -}
    ∷ block (x 20 0x3100030000000100010002000000010007000162) (held (some 3) (some (pos 1)) (S.polygon empty) (record { attribute = 7; value = 98 ∷ [] } ∷ [])) {- a property -}
    ∷ block (x 11 0x0101020001000200000000) none {- options without a raised kind byte -}
    ∷ block (x 13 0x01fffffffe0001000200000000) none
    ∷ block (x 9 0x110001000200000000) none {- a raised kind byte without its options -}
    ∷ block (x 9 0x210001000200000000) none
    ∷ block (x 9 0x310001000200000000) none
    ∷ block (x 13 0x11fffffffe0001000200000000) none {- with the other's -}
    ∷ block (x 11 0x2101020001000200000000) none
    ∷ block (x 11 0x3101020001000200000000) none {- with one of both -}
    ∷ block (x 13 0x31fffffffe0001000200000000) none
    ∷ block (x 15 0x110102030405060001000200000000) none {- with both for one -}
    ∷ block (x 15 0x210102030405060001000200000000) none
    ∷ []

-- Cut anywhere a block is "short", and with a byte more it is "long": blocks with a byte more, and of each the lengths of its front that are read
unfoldable pub fronts : List (List ℕ)
fronts = x 12 0x110102000100020000000000 ∷ x 14 0x21fffffffe000100020000000000 ∷ x 16 0x31010203040506000100020000000000 ∷ []

unfoldable pub full_lengths : List (List ℕ)
full_lengths = (11 ∷ []) ∷ (13 ∷ []) ∷ (15 ∷ []) ∷ []

-- "unknown code": the rest of a block, for each form with neither, with flags, with a plex number and with both, and of all 256 kind bytes those that it is read with. Polygons and nodes have one form. No other kind byte is
-- known: neither 0, 7, 16, 23, 32, 39, 48 and 55 nor any from 64 on.
abbrev tails_of : List Row → List (List ℕ)
tails_of [] = []
tails_of (r ∷ rs) = (r.options.bytes ++ r.kind.form) ∷ tails_of rs

unfoldable pub tails : List (List ℕ)
unfolding kinds
tails = tails_of (crossed (node ∷ path ∷ text ∷ single ∷ box ∷ []) (neither ∷ flagged 1 ∷ plexed 1 (pos 1) ∷ both 1 1 (pos 1) ∷ []))

unfoldable pub kind_bytes : List (List ℕ)
kind_bytes =
    (1 ∷ 4 ∷ []) ∷ (17 ∷ 20 ∷ []) ∷ (33 ∷ 36 ∷ []) ∷ (49 ∷ 52 ∷ []) {- polygon and node -}
    ∷ (2 ∷ []) ∷ (18 ∷ []) ∷ (34 ∷ []) ∷ (50 ∷ []) {- path -}
    ∷ (3 ∷ []) ∷ (19 ∷ []) ∷ (35 ∷ []) ∷ (51 ∷ []) {- text -}
    ∷ (5 ∷ []) ∷ (21 ∷ []) ∷ (37 ∷ []) ∷ (53 ∷ []) {- reference -}
    ∷ (6 ∷ []) ∷ (22 ∷ []) ∷ (38 ∷ []) ∷ (54 ∷ []) {- box -}
    ∷ []

-- ---- a cell "A": in turn with both, flags, a plex number, both of 0, flags, both, a plex number, and neither

unfoldable pub sample : List Row
unfolding kinds
sample =
    row polygon (both 1 0xfffffffe (negsuc 1))
    ∷ row path (flagged 3)
    ∷ row text (plexed 0x7fffffff (pos 2147483647))
    ∷ row node (both 0 0 (pos 0))
    ∷ row single (flagged 2)
    ∷ row array (both 3 0x80000000 (negsuc 2147483647))
    ∷ row box (plexed 0x01000000 (pos 16777216))
    ∷ row node neither
    ∷ []

abbrev pub head : List ℕ
head = x 27 0x000141000000000000000000000000000000000000000000000000

unfoldable pub sheet : List ℕ
unfolding kinds
sheet =
    sheet_of
    (head
    ∷ (x 7 0x310001fffffffe ++ polygon.form)
    ∷ (x 3 0x120003 ++ path.form)
    ∷ (x 5 0x237fffffff ++ text.form)
    ∷ (x 7 0x34000000000000 ++ node.form)
    ∷ (x 3 0x150002 ++ single.form)
    ∷ (x 7 0x35000380000000 ++ array.form)
    ∷ (x 5 0x2601000000 ++ box.form)
    ∷ (x 1 0x04 ++ node.form)
    ∷ [])

abbrev zeros : List ℕ
zeros = 0 ∷ 0 ∷ 0 ∷ 0 ∷ 0 ∷ 0 ∷ 0 ∷ 0 ∷ 0 ∷ 0 ∷ 0 ∷ 0 ∷ []

abbrev elements_of : List Row → List S.Element
elements_of [] = []
elements_of (r ∷ rs) = element_with r.kind r.options ∷ elements_of rs

unfoldable pub cell : Cell
unfolding sample
cell = record { head = record { name = 65 ∷ []; stamps = zeros }; elements = elements_of sample }

-- ---- structures: BGNSTR and STRNAME "A", the elements' records, ENDSTR

abbrev element_records : List Row → List (List ℕ)
element_records [] = x 4 0x00040700 ∷ []
element_records (r ∷ rs) = records_with r.kind r.options ++ element_records rs

abbrev pub structure_records : List Row → List (List ℕ)
structure_records rs = x 28 0x001c0502000000000000000000000000000000000000000000000000 ∷ x 6 0x000606064100 ∷ element_records rs

abbrev saids_of : List Row → List D.Said
saids_of [] = []
saids_of (r ∷ rs) = said_with r.kind r.options ∷ saids_of rs

abbrev worths_of : List Row → List Worth
worths_of [] = []
worths_of (r ∷ rs) = worth_with r.kind r.options ∷ worths_of rs

-- what they say and are worth
abbrev pub structure : List Row → D.Structure
structure rs = record { stamps = zeros; name = 65 ∷ 0 ∷ []; elements = saids_of rs }

abbrev pub drawn : List Row → Drawn
drawn rs = record { name = 65 ∷ []; elements = worths_of rs }

-- Of the cell: 0 BGNSTR, 1 STRNAME; 2 BOUNDARY, 3 ELFLAGS, 4 PLEX; 9 PATH, 10 ELFLAGS; 16 TEXT, 17 PLEX; 24 NODE, 25 ELFLAGS, 26 PLEX; 31 SREF, 32 ELFLAGS; 36 AREF, 37 ELFLAGS, 38 PLEX; 43 BOX, 44 PLEX; 49 NODE; 54 ENDSTR.
unfoldable pub records : List (List ℕ)
unfolding sample
records = structure_records sample

-- and its report, from index i on, and by its bytes: index, kind, field, axis, point place, affected count; p is 2.25, q 2, the error -1/4
abbrev pub entries_from : ℕ → List Row → List Entry
entries_from i [] = []
entries_from i (r ∷ rs) = entry_at i r.kind ∷ entries_from (suc i) rs

abbrev reported : ℕ → List ℕ
reported n = x 13 n ++ x 20 0x400200000000000000000002bfd0000000000000

unfoldable pub report : List ℕ
report =
    reported 0x00000000010000000100000001
    ++ reported 0x00000001020102000000000001
    ++ reported 0x00000002030400000000000001
    ++ reported 0x00000003040001000000000001
    ++ reported 0x00000004050400000000000001
    ++ reported 0x00000005050400000000000003
    ++ reported 0x00000006060000000000000003
    ++ reported 0x00000007040001000000000001

-- ---- "absent alike, else equal": edits of the cell's structure, n records from record k on, and what stands in their place

unfoldable pub edit : ℕ → ℕ → List ℕ → List ℕ
edit k n b = replaced k n b records

unfoldable pub wrong : List (List ℕ)
wrong =
    edit 3 1 (elflags 0) {- flags: another number -}
    ∷ edit 3 1 (elflags 0x0101)
    ∷ edit 3 1 (elflags 0x0100) {- the same bytes, exchanged -}
    ∷ edit 10 1 (elflags 2)
    ∷ edit 25 1 (elflags 1)
    ∷ edit 32 1 (elflags 3)
    ∷ edit 37 1 (elflags 0x8003)
    ∷ edit 3 1 [] {- absent -}
    ∷ edit 10 1 []
    ∷ edit 25 1 [] {- 0 is not absent -}
    ∷ edit 32 1 []
    ∷ edit 37 1 []
    ∷ edit 17 0 (elflags 0) {- present, before a plex number -}
    ∷ edit 44 0 (elflags 0)
    ∷ edit 50 0 (elflags 0) {- present, where neither is -}
    ∷ edit 4 1 (plex 2) {- plex numbers: without the sign -}
    ∷ edit 4 1 (plex 0xffffffff) {- another number -}
    ∷ edit 4 1 (plex 0x00fffffe) {- its lower 24 bits -}
    ∷ edit 17 1 (plex 0x7ffffffe)
    ∷ edit 26 1 (plex 1)
    ∷ edit 38 1 (plex 0x7fffffff)
    ∷ edit 44 1 (plex 0) {- its lower 24 bits -}
    ∷ edit 4 1 [] {- absent -}
    ∷ edit 17 1 []
    ∷ edit 26 1 [] {- 0 is not absent -}
    ∷ edit 38 1 []
    ∷ edit 44 1 []
    ∷ edit 11 0 (plex 0) {- present, after flags -}
    ∷ edit 33 0 (plex 0)
    ∷ edit 50 0 (plex 0) {- present, where neither is -}
    ∷ edit 50 0 (elflags 0 ++ plex 0) {- both present -}
    ∷ []

-- the structure itself
unfoldable pub alike : List (List ℕ)
alike = edit 0 0 [] ∷ []

-- ---- a smaller structure, whose records are changed in turn: 2 NODE, 3 ELFLAGS, 4 PLEX, 5 LAYER; 9 AREF, 10 ELFLAGS, 11 PLEX, 12 SNAME; 16 ENDSTR

unfoldable pub few : List (List ℕ)
unfolding kinds
few = structure_records (row node (both 1 1 (pos 1)) ∷ row array (both 1 1 (pos 1)) ∷ [])

-- ---- "26 flags above 3, directly after the block's form check": sheets of these blocks, under this policy into buffers of these lengths; number and block, or 0 and the structure's length and entries

pub record Faulty : Type 0 where
  pub policy : ℕ
  pub blocks : List (List ℕ)
  pub out : ℕ
  pub report : ℕ
  pub number : ℕ
  pub block : ℕ
  pub length : ℕ
  pub entries : ℕ

abbrev refused_as : ℕ → ℕ → List (List ℕ) → ℕ → ℕ → Faulty
refused_as o e bs n k = record { policy = 0; blocks = bs; out = o; report = e; number = n; block = k; length = 0; entries = 0 }

abbrev stop : List (List ℕ) → ℕ → ℕ → Faulty
stop = refused_as 4096 4096

abbrev accepted_as : ℕ → ℕ → List (List ℕ) → Faulty
accepted_as o e bs = record { policy = 0; blocks = bs; out = o; report = e; number = 0; block = 0; length = o; entries = 1 }

-- a node with flags of 4; of layer 256, for 9; an ill-formed block, for 5
abbrev four : List ℕ
four = block_with node (flagged 4)

abbrev layered : List ℕ
layered = x 7 0x04010000020001 ++ int 3 ++ frac ++ x 2 0

abbrev ill_formed : List ℕ
ill_formed = x 1 0

unfoldable pub faulty : List Faulty
unfolding kinds
faulty =
    stop (head ∷ (four ++ 0 ∷ []) ∷ []) 5 1 {- 5, a byte more, then 26 -}
    ∷ stop (head ∷ (x 9 0x140004000100020001 ++ int 3 ++ frac ++ x 1 0) ∷ []) 5 1 {- a byte fewer -}
    ∷ stop (head ∷ (x 9 0x140004000100020001 ++ int 3 ++ frac ++ x 2 1) ∷ []) 5 1 {- a property that is missing -}
    ∷ stop (head ∷ (x 3 0x540004 ++ node.form) ∷ []) 5 1 {- an unknown kind byte: 64 more -}
    ∷ stop (head ∷ (x 3 0x100004 ++ node.form) ∷ []) 5 1 {- 16 and no kind -}
    ∷ stop (head ∷ four ∷ ill_formed ∷ []) 26 1 {- 26, then 5 of the next block -}
    ∷ stop (head ∷ ill_formed ∷ four ∷ []) 5 1 {- 5, then 26 of the next block -}
    ∷ stop (head ∷ layered ∷ four ∷ []) 9 1 {- 9, then 26 of the next block -}
    ∷ stop (head ∷ block_with node (flagged 3) ∷ four ∷ layered ∷ []) 26 2
    ∷ stop ((x 3 0x000141 ++ x 24 1) ∷ four ∷ []) 6 0 {- 6 and 7 of the head, then 26 -}
    ∷ stop (x 27 0x00012d000000000000000000000000000000000000000000000000 ∷ four ∷ []) 7 0
    ∷ refused_as 0 0 (head ∷ four ∷ []) 26 1 {- 26, then 21 and 22 -}
    {- 6 and 8 bytes more in the structure, and none in the report -}
    ∷ accepted_as 70 33 (head ∷ block_with node neither ∷ [])
    ∷ refused_as 75 33 (head ∷ block_with node (flagged 0) ∷ []) 21 0
    ∷ accepted_as 76 33 (head ∷ block_with node (flagged 0) ∷ [])
    ∷ accepted_as 78 33 (head ∷ block_with node (plexed 0 (pos 0)) ∷ [])
    ∷ refused_as 83 33 (head ∷ block_with node (both 3 0 (pos 0)) ∷ []) 21 0
    ∷ accepted_as 84 33 (head ∷ block_with node (both 3 0 (pos 0)) ∷ [])
    ∷ []
