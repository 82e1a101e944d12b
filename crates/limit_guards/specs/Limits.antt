-- Text types and properties by hand (document 02, request 6): one below, at and above each limit, in elements of every kind, with the bytes of what is written; and cells with two faults, of which one is a text type's 9, an attribute's
-- 27 or a value's 10. From the sheet's bytes on, under nearest and d = 1 where nothing else is said. Assumes nothing.
use Rattle.std.specs.Prelude.{List, [], ◌∷◌, ◌++◌, ℕ, suc, ◌-◌, length, take}
use Rattle.conversion.specs.declared.Entry.{Entry}
use Rattle.cases.specs.Limits.{repeated}
use Rattle.guards.specs.Question.{x}
use Rattle.guards.specs.Sample.{flat}
use Rattle.option_guards.specs.Options.{Kind, kinds, int, frac, gone, head, entry_at, Faulty}

-- n letters "a"; of a text or a value, "a 2-byte length and its bytes"
abbrev letters : ℕ → List ℕ
letters n = repeated n 97

abbrev string : ℕ → List ℕ
string n = x 2 n ++ letters n

-- ---- properties

-- "a 2-byte attribute and a string": attribute a and a value of n letters, as they stand on the sheet
abbrev held : ℕ → ℕ → List ℕ
held a n = x 2 a ++ string n

-- a block up to its properties, and these
abbrev with : List ℕ → List (List ℕ) → List ℕ
with b qs = b ++ x 2 (length qs) ++ flat qs

-- one on the sheet, and its PROPATTR and PROPVALUE
pub record Property : Type 0 where
  pub held : List ℕ
  pub said : List ℕ

abbrev property : ℕ → ℕ → List ℕ → Property
property a n v = record { held = held a n; said = x 4 0x00062b02 ++ x 2 a ++ v }

-- the PROPVALUE of 0, 1, 125 and 126 letters: "Odd strings gain one zero byte."
abbrev empty : List ℕ
empty = x 4 0x00042c06

abbrev one : List ℕ
one = x 6 0x00062c066100

abbrev odd : List ℕ
odd = x 4 0x00822c06 ++ letters 125 ++ 0 ∷ []

abbrev full : List ℕ
full = x 4 0x00822c06 ++ letters 126

-- 125 letters and a zero byte of its own: 126 bytes, and none is gained
abbrev ended : ℕ → Property
ended a = record { held = x 2 a ++ x 2 126 ++ letters 125 ++ 0 ∷ []; said = x 4 0x00062b02 ++ x 2 a ++ odd }

abbrev held_of : List Property → List (List ℕ)
held_of [] = []
held_of (q ∷ qs) = q.held ∷ held_of qs

abbrev said_of : List Property → List ℕ
said_of [] = []
said_of (q ∷ qs) = q.said ++ said_of qs

-- ---- cells that are written: the blocks after the head, the bytes between STRNAME and ENDSTR, and the report

pub record Good : Type 0 where
  pub blocks : List (List ℕ)
  pub bytes : List ℕ
  pub entries : List Entry

abbrev pub structure_of : List ℕ → List ℕ
structure_of b = x 28 0x001c0502000000000000000000000000000000000000000000000000 ++ x 6 0x000606064100 ++ b ++ x 4 0x00040700

-- Every kind of option_guards/specs/Options with these properties: there a block ends in a count of 0, and the records in ENDEL.
abbrev blocks_of : List Kind → List Property → List (List ℕ)
blocks_of [] qs = []
blocks_of (k ∷ ks) qs = with (k.number ∷ take (length k.form - 2) k.form) (held_of qs) ∷ blocks_of ks qs

abbrev bytes_of : List Kind → List Property → List ℕ
bytes_of [] qs = []
bytes_of (k ∷ ks) qs = k.first ++ flat (take (length k.others - 1) k.others) ++ said_of qs ++ x 4 0x00041100 ++ bytes_of ks qs

abbrev entries_of : ℕ → List Kind → List Entry
entries_of i [] = []
entries_of i (k ∷ ks) = entry_at i k ∷ entries_of (suc i) ks

abbrev of_kinds : List Kind → List Property → Good
of_kinds ks qs = record { blocks = blocks_of ks qs; bytes = bytes_of ks qs; entries = entries_of 0 ks }

-- ---- blocks of every kind up to their properties, on layer 1 and of type 2: the last coordinate that is converted, and zeros before it

abbrev pub Front : Type 0
Front = List ℕ → List ℕ

abbrev o : List ℕ
o = int 0

abbrev polygon : Front
polygon c = x 7 0x01000100020004 ++ o ++ o ++ o ++ o ++ o ++ o ++ o ++ c

abbrev path : Front
path c = x 6 0x0200010002ff ++ gone ++ gone ++ gone ++ x 2 2 ++ o ++ o ++ o ++ c

-- a text of n letters on layer l, of type t, with these bits of magnification and degrees
abbrev label : ℕ → ℕ → ℕ → ℕ → ℕ → Front
label l t m a n c = x 1 3 ++ x 2 l ++ x 2 t ++ x 3 0x010200 ++ x 8 m ++ x 8 a ++ o ++ c ++ string n

abbrev plain : ℕ → ℕ → ℕ → Front
plain l t n = label l t 0x3ff0000000000000 0 n

abbrev text : Front
text = plain 1 2 1

abbrev node : Front
node c = x 7 0x04000100020001 ++ o ++ c

-- of sine s: no reflection, magnification 1, degrees 0, cosine 1
abbrev turned : ℕ → List ℕ
turned s = x 17 0x003ff00000000000000000000000000000 ++ x 8 s ++ x 8 0x3ff0000000000000

abbrev single : Front
single c = x 12 0x050001420000000100000001 ++ turned 0 ++ o ++ c ++ gone ++ gone ++ gone ++ gone

abbrev array : Front
array c = x 12 0x050001430000000200000003 ++ turned 0 ++ o ++ o ++ o ++ o ++ o ++ c

abbrev box : Front
box c = x 5 0x0600010002 ++ o ++ o ++ o ++ c

abbrev pub fronts : List Front
fronts = polygon ∷ path ∷ text ∷ node ∷ single ∷ array ∷ box ∷ []

-- ---- what is written

-- a text's records up to its properties: of this TEXTTYPE and this STRING
abbrev lettered : List ℕ → List ℕ → List ℕ
lettered t s = x 10 0x00040c0000060d020001 ++ t ++ x 18 0x000617010006000c10030000000000000000 ++ s ++ x 4 0x00041100

abbrev of_text : ℕ → List ℕ → Good
of_text t b = record { blocks = with (plain 1 t 1 o) [] ∷ []; bytes = lettered b (x 6 0x000619066100); entries = [] }

abbrev of_node : List Property → Good
of_node qs = record { blocks = with (node o) (held_of qs) ∷ []; bytes = x 28 0x0004150000060d02000100062a020002000c10030000000000000000 ++ said_of qs ++ x 4 0x00041100; entries = [] }

unfoldable pub goods : List Good
unfolding kinds
goods =
    {- every kind, with attributes 1, 2, 126 and 127, and values of 0, 1, 125 and 126 bytes -}
    of_kinds kinds (property 1 0 empty ∷ property 2 1 one ∷ property 126 125 odd ∷ property 127 126 full ∷ [])
    {- the limits of one property at once, and each with the other's least -}
    ∷ of_node (property 127 126 full ∷ [])
    ∷ of_node (property 1 126 full ∷ [])
    ∷ of_node (property 127 0 empty ∷ [])
    ∷ of_node (property 1 0 empty ∷ [])
    ∷ of_node (ended 1 ∷ [])
    {- one attribute twice; and with one value -}
    ∷ of_node (property 7 0 empty ∷ property 7 1 one ∷ [])
    ∷ of_node (property 7 1 one ∷ property 7 1 one ∷ [])
    {- values of more than 128 bytes together; attributes in no order -}
    ∷ of_node (property 127 126 full ∷ property 1 126 full ∷ property 126 125 odd ∷ [])
    {- "text types above 255" alone -}
    ∷ of_text 0 (x 6 0x000616020000)
    ∷ of_text 254 (x 6 0x0006160200fe)
    ∷ of_text 255 (x 6 0x0006160200ff)
    ∷ record { blocks = with (plain 1 255 512 o) [] ∷ []; bytes = lettered (x 6 0x0006160200ff) (x 4 0x02041906 ++ letters 512); entries = [] } {- with the longest string -}
    ∷ []

-- ---- what is refused: policy, head and blocks, the lengths of output and report; number and block (option_guards/specs/Options)

abbrev by : ℕ → List ℕ → ℕ → ℕ → List (List ℕ) → ℕ → ℕ → Faulty
by p h u e bs n k = record { policy = p; blocks = h ∷ bs; out = u; report = e; number = n; block = k; length = 0; entries = 0 }

abbrev stop : List (List ℕ) → ℕ → ℕ → Faulty
stop = by 0 head 4096 4096

-- under strict
abbrev strictly : List (List ℕ) → ℕ → ℕ → Faulty
strictly = by 3 head 4096 4096

-- a cell of one block
abbrev lone : List ℕ → ℕ → Faulty
lone b n = stop (b ∷ []) n 1

-- each front with each attribute, and a value of one byte
abbrev with_each : Front → List ℕ → List Faulty
with_each f [] = []
with_each f (a ∷ s) = lone (with (f o) (held a 1 ∷ [])) 27 ∷ with_each f s

abbrev attributed : List Front → List ℕ → List Faulty
attributed [] s = []
attributed (f ∷ fs) s = with_each f s ++ attributed fs s

-- "27 attribute outside 1 to 127"
unfoldable pub attributes : List Faulty
attributes = attributed fronts (0 ∷ 128 ∷ 255 ∷ 256 ∷ 257 ∷ 65535 ∷ [])

-- each front with these properties
abbrev crossed : List Front → List (List ℕ) → ℕ → List Faulty
crossed [] qs n = []
crossed (f ∷ fs) qs n = lone (with (f o) qs) n ∷ crossed fs qs n

-- "A property value above 126 bytes gives 10": of the bytes of the string, also where the last is zero
unfoldable pub values : List Faulty
values =
    crossed fronts (held 1 127 ∷ []) 10
    ++ lone (with (node o) (held 127 128 ∷ [])) 10
    ∷ lone (with (node o) (held 1 256 ∷ [])) 10
    ∷ lone (with (node o) ((x 4 0x0001007f ++ letters 126 ++ 0 ∷ []) ∷ [])) 10
    ∷ []

-- "Such a text type now gives 9"
abbrev typed : List ℕ → List Faulty
typed [] = []
typed (t ∷ ts) = lone (with (plain 1 t 1 o) []) 9 ∷ typed ts

unfoldable pub types : List Faulty
types = typed (256 ∷ 257 ∷ 511 ∷ 32768 ∷ 65535 ∷ [])

-- ---- the order

-- coordinates: 16, a unit of 0; 17, no finite number; 18 under strict is `frac`; 19, 2 ^ 31; and one that is not 0
abbrev unitless : List ℕ
unitless = x 17 0x0000000000000000010000000000000000

abbrev huge : List ℕ
huge = x 17 0x017fefffffffffffff4000000000000000

abbrev far : List ℕ
far = x 17 0x0141e00000000000003ff0000000000000

abbrev other : List ℕ
other = int 1

-- properties with a fault: 27, 10, and both
abbrev outside : List ℕ
outside = held 0 1

abbrev long : List ℕ
long = held 1 127

abbrev bad : List ℕ
bad = held 128 127

-- "in an element its function's order", and "properties' strings last": a front with its last coordinate refused, and a property with both faults; and with one, where the coordinate is out of range
abbrev last : List Front → List Faulty
last [] = []
last (f ∷ fs) =
    lone (with (f unitless) (bad ∷ [])) 16
    ∷ lone (with (f huge) (bad ∷ [])) 17
    ∷ strictly (with (f frac) (bad ∷ []) ∷ []) 18 1
    ∷ lone (with (f far) (bad ∷ [])) 19
    ∷ lone (with (f far) (outside ∷ [])) 19
    ∷ lone (with (f far) (long ∷ [])) 19
    ∷ last fs

-- the same of another check: with each fault
abbrev before : List ℕ → ℕ → List Faulty
before b n = lone (with b (bad ∷ [])) n ∷ lone (with b (outside ∷ [])) n ∷ lone (with b (long ∷ [])) n ∷ []

unfoldable pub bodies : List Faulty
bodies =
    last fronts
    ++ before (polygon other) 20 {- the ends differ -}
    ++ before (x 7 0x01000100020003 ++ o ++ o ++ o ++ o ++ o ++ o) 8
    ++ before (x 7 0x04010000020001 ++ o ++ o) 9
    ++ before (array (x 17 0x0141d00000000000003ff0000000000000)) 19 {- an array's last endpoint: three times 2 ^ 30 -}
    ++ before (x 12 0x050001430000000200000003 ++ turned 0x4000000000000000 ++ o ++ o ++ o ++ o ++ o ++ o) 15
    ++ before (x 12 0x050001430000000200000003 ++ turned 0 ++ o ++ o ++ o ++ o ++ gone ++ gone) 12
    ++ before (x 12 0x050001420000000000000001 ++ turned 0 ++ o ++ o ++ gone ++ gone ++ gone ++ gone) 11
    ++ before (x 12 0x0500012d0000000100000001 ++ turned 0 ++ o ++ o ++ gone ++ gone ++ gone ++ gone) 7
    ++ before (plain 1 2 513 o) 10 {- of the text itself -}
    ++ before (plain 1 256 1 o) 9

-- "directly after the text's layer check"
unfoldable pub texts : List Faulty
texts =
    lone (with (plain 256 256 1 o) []) 9 {- layer and type have one number -}
    ∷ lone (with (plain 256 255 1 o) []) 9
    ∷ lone (with (plain 255 256 1 o) []) 9
    ∷ lone (with (plain 1 256 513 o) []) 9 {- type, then 10 -}
    ∷ lone (with (plain 255 255 513 o) []) 10
    ∷ lone (with (label 1 256 0 0 1 o) []) 9 {- then 13 -}
    ∷ lone (with (label 1 255 0 0 1 o) []) 13
    ∷ lone (with (label 1 256 0x7ff0000000000000 0 1 o) []) 9 {- then 14: magnification, degrees -}
    ∷ lone (with (label 1 255 0x7ff0000000000000 0 1 o) []) 14
    ∷ lone (with (label 1 256 0x3ff0000000000000 0x7ff0000000000000 1 o) []) 9
    ∷ lone (with (label 1 255 0x3ff0000000000000 0x7ff0000000000000 1 o) []) 14
    ∷ lone (with (plain 1 256 1 unitless) []) 9 {- then 16 to 19 -}
    ∷ lone (with (plain 1 255 1 unitless) []) 16
    ∷ lone (with (plain 1 256 1 huge) []) 9
    ∷ lone (with (plain 1 255 1 huge) []) 17
    ∷ strictly (with (plain 1 256 1 frac) [] ∷ []) 9 1
    ∷ strictly (with (plain 1 255 1 frac) [] ∷ []) 18 1
    ∷ lone (with (plain 1 256 1 far) []) 9
    ∷ lone (with (plain 1 255 1 far) []) 19
    ∷ lone (with (label 1 256 0 0x7ff0000000000000 513 far) (bad ∷ [])) 9 {- all of these -}
    ∷ []

-- "before the value of the same property": one property after the other, of a node
abbrev several : List (List ℕ) → ℕ → Faulty
several qs n = lone (with (node o) qs) n

unfoldable pub properties : List Faulty
properties =
    several (held 0 127 ∷ []) 27 {- both faults of one -}
    ∷ several (held 128 127 ∷ []) 27
    ∷ several (held 65535 256 ∷ []) 27
    ∷ several (long ∷ outside ∷ []) 10 {- 10 of the first, then 27 of the second -}
    ∷ several (long ∷ bad ∷ []) 10
    ∷ several (outside ∷ long ∷ []) 27 {- 27 of the first, then 10 of the second -}
    ∷ several (held 127 126 ∷ held 128 126 ∷ []) 27 {- a good one first -}
    ∷ several (held 127 126 ∷ held 127 127 ∷ []) 10
    ∷ several (held 1 0 ∷ held 127 126 ∷ held 0 0 ∷ long ∷ []) 27 {- two good ones first -}
    ∷ several (held 1 0 ∷ held 127 126 ∷ long ∷ outside ∷ []) 10
    ∷ several (held 1 0 ∷ held 2 0 ∷ held 3 0 ∷ held 4 0 ∷ outside ∷ []) 27 {- the last of several -}
    ∷ []

-- with 26, 5, 6, 7, 21 and 22, and with other blocks: "form first", "blocks in turn"
abbrev good : List ℕ
good = with (node o) []

-- a node with flags of 4, and a text; a byte more, for 5
abbrev flagged : List (List ℕ) → List ℕ
flagged qs = x 9 0x140004000100020001 ++ o ++ o ++ x 2 (length qs) ++ flat qs

abbrev ill : List ℕ → List ℕ
ill b = b ++ 0 ∷ []

-- a block with 27, one with 10 of a value and one with a text's 9
abbrev outside_block : List ℕ
outside_block = with (node o) (outside ∷ [])

abbrev long_block : List ℕ
long_block = with (node o) (long ∷ [])

abbrev type_block : List ℕ
type_block = with (plain 1 256 1 o) []

-- buffers of no bytes
abbrev nowhere : List ℕ → ℕ → Faulty
nowhere b n = by 0 head 0 0 (b ∷ []) n 1

-- into an output of n bytes: 21, or a structure of this length
abbrev short : ℕ → List (List ℕ) → Faulty
short n qs = by 0 head n 0 (with (node o) qs ∷ []) 21 0

abbrev fits : ℕ → List (List ℕ) → Faulty
fits n qs = record { policy = 0; blocks = head ∷ with (node o) qs ∷ []; out = n; report = 0; number = 0; block = 0; length = n; entries = 0 }

unfoldable pub cells : List Faulty
cells =
    lone (flagged (outside ∷ [])) 26 {- 26, then 27 and 10 -}
    ∷ lone (flagged (long ∷ [])) 26
    ∷ lone (flagged (bad ∷ [])) 26
    ∷ lone (x 3 0x130004 ++ x 7 0x00010100010200 ++ x 8 0x3ff0000000000000 ++ x 8 0 ++ o ++ o ++ string 1 ++ x 2 0) 26 {- 26, then a text type of 256 -}
    ∷ lone (ill outside_block) 5 {- 5, a byte more, then 27, 10 and 9 -}
    ∷ lone (ill long_block) 5
    ∷ lone (ill type_block) 5
    ∷ lone (node o ++ x 2 2 ++ outside) 5 {- a property that is missing -}
    ∷ lone (node o ++ x 2 1 ++ x 2 0 ++ x 2 2 ++ letters 1) 5 {- a value that is cut -}
    ∷ stop (outside_block ∷ ill good ∷ []) 27 1 {- 27, 10 and 9, then 5 of the next block -}
    ∷ stop (long_block ∷ ill good ∷ []) 10 1
    ∷ stop (type_block ∷ ill good ∷ []) 9 1
    ∷ stop (ill good ∷ outside_block ∷ []) 5 1 {- 5, then 27 of the next block -}
    ∷ stop (outside_block ∷ long_block ∷ type_block ∷ []) 27 1 {- blocks in turn -}
    ∷ stop (long_block ∷ type_block ∷ outside_block ∷ []) 10 1
    ∷ stop (type_block ∷ outside_block ∷ long_block ∷ []) 9 1
    ∷ stop (good ∷ outside_block ∷ long_block ∷ []) 27 2
    ∷ stop (with (text o) (held 127 126 ∷ []) ∷ good ∷ long_block ∷ []) 10 3
    ∷ by 0 (x 3 0x000141 ++ x 24 1) 4096 4096 (outside_block ∷ []) 6 0 {- 6 and 7 of the head, then 27 -}
    ∷ by 0 (x 3 0x00012d ++ x 24 0) 4096 4096 (outside_block ∷ []) 7 0
    ∷ nowhere outside_block 27 {- 27, 10 and 9, then 21 and 22 -}
    ∷ nowhere long_block 10
    ∷ nowhere type_block 9
    ∷ short 79 (held 1 0 ∷ []) {- a property's two records in the structure's length -}
    ∷ fits 80 (held 1 0 ∷ [])
    ∷ short 81 (held 127 1 ∷ [])
    ∷ fits 82 (held 127 1 ∷ [])
    ∷ short 205 (held 1 125 ∷ [])
    ∷ fits 206 (held 1 125 ∷ [])
    ∷ fits 206 (held 1 126 ∷ [])
    ∷ []
