-- What fits its records: numbers of two bytes, signed numbers of four, reals of eight, even strings, points and records that are not too long. Assumes nothing.
use mathlib.Core.Path.{◌≡◌}
use mathlib.Core.List.{List}
use mathlib.Core.Option.{Option}
use Prim.Native.Nat.{ℕ, ◌%◌, ◌≤◌, ◌<◌}
use lib.Dec.{T, eqb}
use lib.ListN.{length}
use lib.IntN.{ℤ}
use mir.Val.{SFits}
use mir.Syntax.{w32}
pub use Rattle.parsing.specs.All.{All, done, more, Opt, absent, present}
use Rattle.big_endian.specs.Big.{Bytes}
use Rattle.units.specs.Point.{Point}
use Rattle.stream.specs.Records.{endpoint_of}
use Rattle.stream.specs.Structure.{Property, Strans, Shape, Path, Text, Sref, Aref, SaidBody, Said, Structure}
use Rattle.stream.specs.Structure as S

-- a 2-byte number
abbrev pub Word : ℕ → Type 0
Word n = n < 65536

-- a signed 4-byte number
abbrev pub Long : ℤ → Type 0
Long = SFits w32

-- an even string of bytes that a record holds
pub record Even (s : List ℕ) : Type 0 where
  pub even : T (eqb (length s % 2) 0)
  pub short : length s < 65532
  pub bytes : Bytes s

pub record Real (b : List ℕ) : Type 0 where
  pub count : length b ≡ 8
  pub bytes : Bytes b

pub record FitPoint (p : Point ℤ) : Type 0 where
  pub x : Long p.x
  pub y : Long p.y

pub record FitProperty (q : Property) : Type 0 where
  pub attribute : Word q.attribute
  pub value : Even q.value

pub record FitStrans (t : Strans) : Type 0 where
  pub magnification : Opt Real t.magnification
  pub angle : Opt Real t.angle

-- points that one XY holds
pub record FitPoints (ps : List (Point ℤ)) : Type 0 where
  pub each : All FitPoint ps
  pub count : length ps ≤ 8191

pub record FitShape (e : Shape) : Type 0 where
  pub layer : Word e.layer
  pub datatype : Word e.datatype
  pub points : FitPoints e.points

pub record FitPath (e : Path) : Type 0 where
  pub layer : Word e.layer
  pub datatype : Word e.datatype
  pub path_type : Opt Word e.path_type
  pub width : Opt Long e.width
  pub begin : Opt Long e.begin
  pub end : Opt Long e.end
  pub points : FitPoints e.points

pub record FitText (e : Text (Option ℕ) (Option Strans)) : Type 0 where
  pub layer : Word e.layer
  pub texttype : Word e.texttype
  pub presentation : Opt Word e.presentation
  pub transform : Opt FitStrans e.transform
  pub origin : FitPoint e.origin
  pub string : Even e.string

pub record FitSref (e : Sref (Option Strans)) : Type 0 where
  pub name : Even e.name
  pub transform : Opt FitStrans e.transform
  pub origin : FitPoint e.origin

pub record FitAref (e : Aref (Option Strans)) : Type 0 where
  pub name : Even e.name
  pub transform : Opt FitStrans e.transform
  pub columns : Word e.columns
  pub rows : Word e.rows
  pub some_column : 1 ≤ e.columns
  pub some_row : 1 ≤ e.rows
  pub origin : FitPoint e.origin
  pub column_end : FitPoint (endpoint_of e.origin e.column_step e.columns)
  pub row_end : FitPoint (endpoint_of e.origin e.row_step e.rows)

pub data FitBody : SaidBody → Type 0 where
  boundary : {e : Shape} → FitShape e → FitBody (S.boundary e)
  path : {e : Path} → FitPath e → FitBody (S.path e)
  text : {e : Text (Option ℕ) (Option Strans)} → FitText e → FitBody (S.text e)
  node : {e : Shape} → FitShape e → FitBody (S.node e)
  sref : {e : Sref (Option Strans)} → FitSref e → FitBody (S.sref e)
  aref : {e : Aref (Option Strans)} → FitAref e → FitBody (S.aref e)
  box : {e : Shape} → FitShape e → FitBody (S.box e)

pub record FitElement (e : Said) : Type 0 where
  pub flags : Opt Word e.flags
  pub plex : Opt Long e.plex
  pub body : FitBody e.body
  pub properties : All FitProperty e.properties

pub record FitStructure (s : Structure) : Type 0 where
  pub stamps : All Word s.stamps
  pub twelve : length s.stamps ≡ 12
  pub name : Even s.name
  pub elements : All FitElement s.elements
