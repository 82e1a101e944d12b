-- What a structure keeps to, where it was read within the sheet's limits. Assumes nothing.
use mathlib.Core.Path.{◌≡◌}
use mathlib.Core.Option.{Option, none, some}
use mathlib.Core.List.{List}
use Prim.Native.Nat.{ℕ, ◌≤◌, ◌<◌}
use lib.Dec.{T}
use lib.ListN.{length}
use lib.Ieee.{Float}
use Rattle.parsing.specs.All.{All, Opt}
use Rattle.gds_format.specs.Decode.{double_of}
use Rattle.conversion.specs.Made.{Made}
use Rattle.conversion.proofs.WholeLaws.{InRange}
use Rattle.sheet.specs.Blocks.{max_pairs}
use Rattle.sheet.specs.Element.{max_path_type}
use Rattle.stream.specs.Record.{BOUNDARY, NODE, BOX}
use Rattle.stream.specs.Records.{endpoint_of}
use Rattle.stream.specs.Strings.{unpadded}
use Rattle.stream.specs.Structure.{Property, Strans, Shape, Path, Text, Sref, Aref, SaidBody, Said, Structure}
use Rattle.stream.specs.Structure as D
use Rattle.stream.proofs.Fit.{Even, Real, Word, Long, FitPoint}
use Rattle.cell.specs.Limits.{within, min_path_points, max_points, max_layer, max_data_type, max_string_length, min_attribute, max_attribute, max_value_length, max_col_row, max_flags}
use Rattle.cell.specs.Names.{is_name}
use Rattle.cell.specs.Stamps.{stamps_fit}
use Rattle.cell.specs.Write.{write_magnification, write_angle}
use Rattle.reading.specs.Limits.{points_limit, is_presentation, max_properties, refusal_in}

-- a 2-byte number of at most m
pub record Limited (m n : ℕ) : Type 0 where
  pub word : Word n
  pub most : n ≤ m

-- a name in an even string
pub record Named (s : List ℕ) : Type 0 where
  pub even : Even s
  pub name : T (is_name (unpadded s))

-- an even string of at most m bytes, its one final zero byte dropped
pub record Short (m : ℕ) (s : List ℕ) : Type 0 where
  pub even : Even s
  pub short : length (unpadded s) ≤ m

-- eight bytes that a double equals, which `write` does not refuse
pub record Written {A : Type 0} (write : Float → Made A) (b : List ℕ) : Type 0 where
  pub real : Real b
  pub value : Float
  pub reads : double_of b ≡ some value
  pub passes : refusal_in (write value) ≡ none

pub record KeptStrans (t : Strans) : Type 0 where
  pub magnification : Opt (Written write_magnification) t.magnification
  pub angle : Opt (Written write_angle) t.angle

pub record KeptShape (kind : ℕ) (e : Shape) : Type 0 where
  pub layer : Limited max_layer e.layer
  pub datatype : Limited max_data_type e.datatype
  pub points : All FitPoint e.points
  pub limit : refusal_in (points_limit kind e.points) ≡ none

pub record KeptPath (e : Path) : Type 0 where
  pub layer : Limited max_layer e.layer
  pub datatype : Limited max_data_type e.datatype
  pub path_type : Opt (λ n. n ≤ max_path_type) e.path_type
  pub width : Opt Long e.width
  pub begin : Opt Long e.begin
  pub end : Opt Long e.end
  pub points : All FitPoint e.points
  pub count : T (within min_path_points (length e.points) max_points)

pub record KeptText (e : Text (Option ℕ) (Option Strans)) : Type 0 where
  pub layer : Limited max_layer e.layer
  pub texttype : Limited max_data_type e.texttype
  pub presentation : Opt (λ n. T (is_presentation n)) e.presentation
  pub transform : Opt KeptStrans e.transform
  pub origin : FitPoint e.origin
  pub string : Short max_string_length e.string

pub record KeptSref (e : Sref (Option Strans)) : Type 0 where
  pub name : Named e.name
  pub transform : Opt KeptStrans e.transform
  pub origin : FitPoint e.origin

-- columns or rows
abbrev pub Several : ℕ → Type 0
Several n = T (within 1 n max_col_row)

pub record KeptAref (e : Aref (Option Strans)) : Type 0 where
  pub name : Named e.name
  pub transform : Opt KeptStrans e.transform
  pub columns : Several e.columns
  pub rows : Several e.rows
  pub origin : FitPoint e.origin
  pub column_step : InRange e.column_step
  pub row_step : InRange e.row_step
  pub column_end : FitPoint (endpoint_of e.origin e.column_step e.columns)
  pub row_end : FitPoint (endpoint_of e.origin e.row_step e.rows)

pub data KeptBody : SaidBody → Type 0 where
  boundary : {e : Shape} → KeptShape BOUNDARY e → KeptBody (D.boundary e)
  path : {e : Path} → KeptPath e → KeptBody (D.path e)
  text : {e : Text (Option ℕ) (Option Strans)} → KeptText e → KeptBody (D.text e)
  node : {e : Shape} → KeptShape NODE e → KeptBody (D.node e)
  sref : {e : Sref (Option Strans)} → KeptSref e → KeptBody (D.sref e)
  aref : {e : Aref (Option Strans)} → KeptAref e → KeptBody (D.aref e)
  box : {e : Shape} → KeptShape BOX e → KeptBody (D.box e)

-- a property's attribute
abbrev pub Attribute : ℕ → Type 0
Attribute n = T (within min_attribute n max_attribute)

pub record KeptProperty (q : Property) : Type 0 where
  pub attribute : Attribute q.attribute
  pub value : Short max_value_length q.value

pub record KeptElement (e : Said) : Type 0 where
  pub flags : Opt (Limited max_flags) e.flags
  pub plex : Opt Long e.plex
  pub body : KeptBody e.body
  pub properties : All KeptProperty e.properties
  pub count : length e.properties ≤ max_properties

-- BGNSTR's twelve numbers
pub record Stamped (ts : List ℕ) : Type 0 where
  pub words : All Word ts
  pub twelve : length ts ≡ 12
  pub dated : T (stamps_fit ts)

pub record KeptStructure (s : Structure) : Type 0 where
  pub stamps : Stamped s.stamps
  pub name : Named s.name
  pub elements : All KeptElement s.elements
  pub count : length s.elements < max_pairs
