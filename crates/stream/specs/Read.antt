-- Reading a structure by the manual's grammar (document 01, "What a structure draws"; document 02, requests 3 and 5): bytes to records, records to what they say. Assumes nothing.
-- The grammar is said once, for two readers. Reading for what is drawn asks the grammar alone (`unlimited`, `structure_of`). Reading to a sheet asks besides, of each record, what a sheet holds
-- (document 02, request 8; crate `reading`).
use Rattle.std.specs.Prelude.{Bool, true, false, ◌||◌, cond, List, [], ◌∷◌, ℕ, zero, suc, ◌/◌, ◌%◌, leb, eqb, length, take, drop, ℤ, pos, negsuc, neg_ℤ, ◌-ℤ◌}
use Rattle.std.proofs.Math.Option.{Option, none, some}
use Rattle.std.proofs.Common.{to_z}
use Rattle.std.specs.Int.{w32}
use Rattle.big_endian.specs.Big.{number}
use Rattle.refusal.specs.declared.Refusal.{Refusal}
use Rattle.refusal.specs.declared.Refusal.TheVariants as R
use Rattle.parsing.specs.Parse.{Part, ill, part, Parse, pure, fail, follow, when, map, present, Outcome, refused, given, accepted, ◌>>=◌}
use Rattle.units.specs.Point.{Point}
use Rattle.stream.specs.Record.{Rec, BGNSTR, STRNAME, ENDSTR, BOUNDARY, PATH, SREF, AREF, TEXT, LAYER, DATATYPE, WIDTH, XY, ENDEL, SNAME, COLROW, NODE, TEXTTYPE, PRESENTATION, STRING, STRANS, MAG, ANGLE, PATHTYPE, NODETYPE, PROPATTR, PROPVALUE, BOX, BOXTYPE, ELFLAGS, PLEX, BGNEXTN, ENDEXTN, run_of}
use Rattle.stream.specs.Structure.{Property, Strans, Shape, Path, Text, Sref, Aref, boundary, path, text, node, sref, aref, box, SaidBody, Said, Structure}

-- ---- faults

-- why bytes are no structure
pub data Fault : Type 0 where
  -- no well-formed record is there: the bytes end, or go on otherwise
  no_record : Fault
  -- a record that the grammar does not have there, or bytes after the structure
  not_of_grammar : Fault
  -- a record of the grammar whose data are refused
  beyond : Refusal → Fault

-- "28 not a structure of this grammar"
abbrev pub refusal_of : Fault → Refusal
refusal_of no_record = R.NotStructure
refusal_of not_of_grammar = R.NotStructure
refusal_of (beyond r) = r

-- a fault and its block
pub record Stop : Type 0 where
  pub fault : Fault
  pub block : ℕ

-- records read inside one block
abbrev pub Reader : Type 0 → Type 0
Reader A = Parse Fault Rec A

-- "The block is the element's from its well-formed first record to its ENDEL, else 0."
abbrev pub tagged : {A : Type 0} → ℕ → Part Fault Rec A → Part Stop Rec A
tagged block (ill f) = ill (record { fault = f; block = block })
tagged block (part a t) = part a t

abbrev pub in_block : {A : Type 0} → ℕ → Reader A → Parse Stop Rec A
in_block block p rs = tagged block (p rs)

-- ---- what a reader asks beyond the grammar

-- `admit kind i r` is the refusal of the record r, if it is refused. `kind` is the code of the element's first record, and 0 outside elements; i counts the elements before, at an element's
-- first record, and the properties before, at PROPATTR, PROPVALUE and ENDEL. `step z` is the refusal of an array's step on one axis.
pub record Limits : Type 0 where
  pub admit : ℕ → ℕ → Rec → Option Refusal
  pub step : ℤ → Option Refusal

-- nothing: "The manual's limits on points, string lengths and values are no part of reading."
abbrev pub unlimited : Limits
unlimited = record { admit = λ kind i r. none; step = λ z. none }

-- go on unless refused
abbrev pub unless : {A : Type 0} → Option Refusal → Reader A → Reader A
unless none p = p
unless (some r) p = fail (beyond r)

-- ---- data: "2-byte numbers are unsigned, 4-byte signed"

abbrev pub long : List ℕ → ℤ
long b = to_z w32 (number b)

abbrev pub map_option : {A B : Type 0} → (A → B) → Option A → Option B
map_option f none = none
map_option f (some a) = some (f a)

-- n parts of k bytes, each read by f
unfoldable pub each : {A : Type 0} → (List ℕ → A) → ℕ → ℕ → List ℕ → List A
each f k zero b = []
each f k (suc n) b = f (take k b) ∷ each f k n (drop k b)

-- BGNSTR's twelve numbers
abbrev pub stamps_of : List ℕ → List ℕ
stamps_of b = each number 2 12 b

abbrev pub point_of : List ℕ → Point ℤ
point_of b = record { x = long (take 4 b); y = long (drop 4 b) }

abbrev pub points_of : List ℕ → List (Point ℤ)
points_of b = each point_of 8 (length b / 8) b

-- "XY has one point in TEXT and SREF"
unfoldable pub one_point : List (Point ℤ) → Option (Point ℤ)
one_point [] = none
one_point (p ∷ []) = some p
one_point (p ∷ q ∷ ps) = none

-- "three in AREF"
pub record Corners : Type 0 where
  pub origin : Point ℤ
  pub column_end : Point ℤ
  pub row_end : Point ℤ

unfoldable pub three_points : List (Point ℤ) → Option Corners
three_points [] = none
three_points (o ∷ []) = none
three_points (o ∷ p ∷ []) = none
three_points (o ∷ p ∷ q ∷ []) = some (record { origin = o; column_end = p; row_end = q })
three_points (o ∷ p ∷ q ∷ r ∷ ps) = none

-- "A STRANS is 0x8000, reflection, or 0, none."
unfoldable pub reflection_from : ℕ → Reader Bool
reflection_from n = cond (eqb n 0x8000) (pure true) (when not_of_grammar (eqb n 0) (pure false))

-- "1 or more columns and rows"
unfoldable pub some_of : ℕ → Reader ℕ
some_of n = when (beyond R.ColumnsOrRows) (leb 1 n) (pure n)

-- a difference divided by a count, where that is whole
unfoldable pub step_of : ℕ → ℤ → Option ℤ
step_of n (pos k) = cond (eqb (k % n) 0) (some (pos (k / n))) none
step_of n (negsuc k) = cond (eqb (suc k % n) 0) (some (neg_ℤ (pos (suc k / n)))) none

-- the records that an element begins with
abbrev pub begins : ℕ → Bool
begins c = eqb c BOUNDARY || eqb c PATH || eqb c TEXT || eqb c NODE || eqb c SREF || eqb c AREF || eqb c BOX

-- ".. then no byte": neither a record nor, after the records, any byte is left
abbrev pub closed : {A : Type 0} → List ℕ → Part Stop Rec A → Outcome Stop A
closed rest (ill c) = refused c
closed [] (part a []) = given a
closed [] (part a (r ∷ rs)) = refused (record { fault = not_of_grammar; block = 0 })
closed (b ∷ s) (part a rs) = refused (record { fault = not_of_grammar; block = 0 })

module _ (limits : Limits) where
  -- ---- one record: its code first, then what its data are refused for

  -- the next record's data; its code must be c
  unfoldable pub item : ℕ → ℕ → ℕ → Reader (List ℕ)
  item kind i c [] = ill no_record
  item kind i c (r ∷ rs) = cond (eqb r.code c) (unless (limits.admit kind i r) (pure r.content) rs) (ill not_of_grammar)

  -- the next record's data where its code is c; else it is missing, and another record stands there
  unfoldable pub optional : ℕ → ℕ → ℕ → Reader (Option (List ℕ))
  optional kind i c [] = ill no_record
  optional kind i c (r ∷ rs) = cond (eqb r.code c) (unless (limits.admit kind i r) (pure (some r.content)) rs) (part none (r ∷ rs))

  -- ---- transforms

  -- "only after a STRANS, MAG .. and ANGLE"
  unfoldable pub after_strans : ℕ → Option (List ℕ) → Reader (Option Strans)
  after_strans kind none = pure none
  after_strans kind (some b) = do
    r ← reflection_from (number b)
    m ← optional kind 0 MAG
    a ← optional kind 0 ANGLE
    pure (some (record { reflection = r; magnification = m; angle = a }))

  unfoldable pub strans : ℕ → Reader (Option Strans)
  strans kind = optional kind 0 STRANS >>= after_strans kind

  -- ---- arrays

  -- on one axis, "second point less first, divided by columns, .. whole"
  unfoldable pub axis_step : ℕ → ℤ → ℤ → Reader ℤ
  axis_step n p o = do
    a ← present (beyond R.ArrayCorners) (step_of n (p -ℤ o))
    unless (limits.step a) (pure a)

  unfoldable pub point_step : ℕ → Point ℤ → Point ℤ → Reader (Point ℤ)
  point_step n p o = do
    x ← axis_step n p.x o.x
    y ← axis_step n p.y o.y
    pure (record { x = x; y = y })

  -- ---- bodies, each after its first record

  -- BOUNDARY with DATATYPE, NODE with NODETYPE, BOX with BOXTYPE
  unfoldable pub shape_body : ℕ → ℕ → Reader Shape
  shape_body kind t = do
    l ← item kind 0 LAYER
    d ← item kind 0 t
    ps ← item kind 0 XY
    pure (record { layer = number l; datatype = number d; points = points_of ps })

  unfoldable pub path_body : ℕ → Reader Path
  path_body kind = do
    l ← item kind 0 LAYER
    d ← item kind 0 DATATYPE
    t ← optional kind 0 PATHTYPE
    w ← optional kind 0 WIDTH
    b ← optional kind 0 BGNEXTN
    e ← optional kind 0 ENDEXTN
    ps ← item kind 0 XY
    pure (record { layer = number l; datatype = number d; path_type = map_option number t; width = map_option long w; begin = map_option long b; end = map_option long e; points = points_of ps })

  unfoldable pub text_body : ℕ → Reader (Text (Option ℕ) (Option Strans))
  text_body kind = do
    l ← item kind 0 LAYER
    t ← item kind 0 TEXTTYPE
    p ← optional kind 0 PRESENTATION
    u ← strans kind
    ps ← item kind 0 XY
    o ← present not_of_grammar (one_point (points_of ps))
    s ← item kind 0 STRING
    pure (record { layer = number l; texttype = number t; presentation = map_option number p; transform = u; origin = o; string = s })

  unfoldable pub sref_body : ℕ → Reader (Sref (Option Strans))
  sref_body kind = do
    n ← item kind 0 SNAME
    u ← strans kind
    ps ← item kind 0 XY
    o ← present not_of_grammar (one_point (points_of ps))
    pure (record { name = n; transform = u; origin = o })

  unfoldable pub aref_body : ℕ → Reader (Aref (Option Strans))
  aref_body kind = do
    n ← item kind 0 SNAME
    u ← strans kind
    m ← item kind 0 COLROW
    c ← some_of (number (take 2 m))
    w ← some_of (number (drop 2 m))
    ps ← item kind 0 XY
    k ← present not_of_grammar (three_points (points_of ps))
    a ← point_step c k.column_end k.origin
    b ← point_step w k.row_end k.origin
    pure (record { name = n; transform = u; columns = c; rows = w; origin = k.origin; column_step = a; row_step = b })

  -- by the code of the first record
  unfoldable pub body_after : ℕ → Reader SaidBody
  body_after kind =
      cond (eqb kind BOUNDARY) (map boundary (shape_body kind DATATYPE))
      (cond (eqb kind PATH) (map path (path_body kind))
      (cond (eqb kind TEXT) (map text (text_body kind))
      (cond (eqb kind NODE) (map node (shape_body kind NODETYPE))
      (cond (eqb kind SREF) (map sref (sref_body kind))
      (cond (eqb kind AREF) (map aref (aref_body kind))
      (cond (eqb kind BOX) (map box (shape_body kind BOXTYPE))
      (fail not_of_grammar)))))))

  -- ---- elements

  -- "PROPATTR and PROPVALUE per property, ENDEL": after i properties ENDEL was there, or one more property is, and then `others`
  unfoldable pub property_or_end : ℕ → ℕ → Reader (List Property) → Option (List ℕ) → Reader (List Property)
  property_or_end kind i others (some b) = pure []
  property_or_end kind i others none = do
    a ← item kind i PROPATTR
    v ← item kind i PROPVALUE
    qs ← others
    pure (record { attribute = number a; value = v } ∷ qs)

  -- f bounds how many there are
  unfoldable pub properties_f : ℕ → ℕ → ℕ → Reader (List Property)
  properties_f zero kind i = fail no_record
  properties_f (suc f) kind i = optional kind i ENDEL >>= property_or_end kind i (properties_f f kind (suc i))

  -- a property has at least one record
  unfoldable pub properties : ℕ → Reader (List Property)
  properties kind rs = properties_f (length rs) kind 0 rs

  -- ELFLAGS and PLEX ("Reading takes them there, each may be missing"), its kind's records, then its properties
  unfoldable pub element_after : ℕ → Reader Said
  element_after kind = do
    f ← optional kind 0 ELFLAGS
    p ← optional kind 0 PLEX
    b ← body_after kind
    qs ← properties kind
    pure (record { flags = map_option number f; plex = map_option long p; body = b; properties = qs })

  -- the element of index i, whose first record is r: "block k is element index k − 1"
  unfoldable pub element_from : ℕ → Rec → Parse Stop Rec Said
  element_from i r = in_block (suc i) (unless (limits.admit r.code i r) (element_after r.code))

  -- Elements up to ENDSTR, after i of them; f bounds how many there are.
  unfoldable pub elements_f : ℕ → ℕ → Parse Stop Rec (List Said)
  elements_f zero i rs = ill (record { fault = no_record; block = 0 })
  elements_f (suc f) i [] = ill (record { fault = no_record; block = 0 })
  elements_f (suc f) i (r ∷ rs) =
      cond (eqb r.code ENDSTR) (part [] rs)
      (cond (begins r.code) (follow (element_from i r rs) (λ e s. follow (elements_f f (suc i) s) (λ es. pure (e ∷ es))))
      (ill (record { fault = not_of_grammar; block = 0 })))

  -- an element has at least one record
  unfoldable pub elements : Parse Stop Rec (List Said)
  elements rs = elements_f (length rs) 0 rs

  -- ---- a structure

  -- "BGNSTR, STRNAME, elements, ENDSTR"
  unfoldable pub structure : Parse Stop Rec Structure
  structure = do
    t ← in_block 0 (item 0 0 BGNSTR)
    n ← in_block 0 (item 0 0 STRNAME)
    es ← elements
    pure (record { stamps = stamps_of t; name = n; elements = es })

  -- the structure that the bytes are, or the first fault in byte order
  unfoldable pub read_structure : List ℕ → Outcome Stop Structure
  read_structure s = closed (run_of s).rest (structure (run_of s).records)

-- the structure that the bytes are by the grammar alone, if they are one
unfoldable pub structure_of : List ℕ → Option Structure
structure_of s = accepted (read_structure unlimited s)
