-- What the form of a block ensures of what it holds: numbers fit their bytes, strings are bytes, and a count fits two. What is so has a block (EncodeLaws). Assumes nothing.
use mathlib.Core.Path.{◌≡◌}
use mathlib.Core.List.{List}
use Prim.Native.Nat.{ℕ, ◌^◌, ◌≤◌, ◌<◌}
use lib.Dec.{T}
use lib.IntN.{ℤ}
use lib.ListN.{length}
use lib.Ieee.{Float, fits, binary64}
use mir.Val.{SFits}
use mir.Syntax.{w32}
use Rattle.big_endian.specs.Big.{Bytes}
use Rattle.parsing.specs.All.{All, Opt}
use Rattle.units.specs.declared.Unit.{Unit}
use Rattle.units.specs.declared.Unit.TheVariants as U
use Rattle.units.specs.Point.{Point}
use Rattle.sheet.specs.Element.{Property, Head, Shape, Path, Text, Reference, Box, Body, Element, max_path_type}
use Rattle.sheet.specs.Element as S
use Rattle.sheet.specs.Library.{LibraryHead}

-- a number of two bytes
abbrev pub Word : ℕ → Type 0
Word n = n < 65536

abbrev pub Double : Float → Type 0
Double x = T (fits binary64 x)

pub record FineString (s : List ℕ) : Type 0 where
  pub bytes : Bytes s
  pub short : Word (length s)

-- parts whose number is two bytes
pub record Counted {A : Type 0} (Q : A → Type 0) (s : List A) : Type 0 where
  pub each : All Q s
  pub count : Word (length s)

-- an integer coordinate is a signed 32-bit number
pub data FineUnit : Unit → Type 0 where
  integer : {v : ℤ} {u : Float} → SFits w32 v → Double u → FineUnit (U.Integer v u)
  float : {v u : Float} → Double v → Double u → FineUnit (U.Float v u)

pub record FinePoint (p : Point Unit) : Type 0 where
  pub x : FineUnit p.x
  pub y : FineUnit p.y

pub record FineProperty (q : Property) : Type 0 where
  pub attribute : Word q.attribute
  pub value : FineString q.value

pub record FineHead (h : Head) : Type 0 where
  pub name : FineString h.name
  pub stamps : All Word h.stamps
  pub twelve : length h.stamps ≡ 12

pub record FineLibraryHead (h : LibraryHead) : Type 0 where
  pub name : FineString h.name
  pub user_unit : Double h.user_unit
  pub stamps : All Word h.stamps
  pub twelve : length h.stamps ≡ 12

pub record FineShape (e : Shape) : Type 0 where
  pub layer : Word e.layer
  pub datatype : Word e.datatype
  pub points : Counted FinePoint e.points

pub record FinePath (e : Path) : Type 0 where
  pub layer : Word e.layer
  pub datatype : Word e.datatype
  pub path_type : Opt (λ n. n ≤ max_path_type) e.path_type
  pub width : Opt FineUnit e.width
  pub begin : Opt FineUnit e.begin
  pub end : Opt FineUnit e.end
  pub points : Counted FinePoint e.points

pub record FineText (e : Text) : Type 0 where
  pub layer : Word e.layer
  pub texttype : Word e.texttype
  pub vertical : e.vertical ≤ 2
  pub horizontal : e.horizontal ≤ 2
  pub magnification : Double e.magnification
  pub degrees : Double e.degrees
  pub origin : FinePoint e.origin
  pub string : FineString e.string

pub record FineReference (e : Reference) : Type 0 where
  pub name : FineString e.name
  pub columns : e.columns < 256 ^ 4
  pub rows : e.rows < 256 ^ 4
  pub magnification : Double e.magnification
  pub degrees : Double e.degrees
  pub sine : Double e.sine
  pub cosine : Double e.cosine
  pub origin : FinePoint e.origin
  pub column_spacing : Opt FinePoint e.column_spacing
  pub row_spacing : Opt FinePoint e.row_spacing

pub record FineBox (e : Box) : Type 0 where
  pub layer : Word e.layer
  pub boxtype : Word e.boxtype
  pub first : FinePoint e.first
  pub second : FinePoint e.second

pub data FineBody : Body → Type 0 where
  polygon : {e : Shape} → FineShape e → FineBody (S.polygon e)
  path : {e : Path} → FinePath e → FineBody (S.path e)
  text : {e : Text} → FineText e → FineBody (S.text e)
  node : {e : Shape} → FineShape e → FineBody (S.node e)
  reference : {e : Reference} → FineReference e → FineBody (S.reference e)
  box : {e : Box} → FineBox e → FineBody (S.box e)

pub record FineElement (e : Element) : Type 0 where
  pub flags : Opt Word e.flags
  pub plex : Opt (SFits w32) e.plex
  pub body : FineBody e.body
  pub properties : Counted FineProperty e.properties
