-- What the records of a structure say (document 01, "Result one" and "What a structure draws"; document 02, requests 3 and 5). Assumes nothing.
-- A body is over the type P of a presentation and T of a transform: records say each or leave it out, and Drawn.antt has what that is worth.
use Rattle.std.specs.Prelude.{Bool, List, ℕ, ℤ}
use Rattle.std.proofs.Math.Option.{Option}
use Rattle.units.specs.Point.{Point}

-- PROPATTR and PROPVALUE
pub record Property : Type 0 where
  pub attribute : ℕ
  pub value : List ℕ

-- a STRANS with the MAG and the ANGLE that follow it, each of eight bytes
pub record Strans : Type 0 where
  pub reflection : Bool
  pub magnification : Option (List ℕ)
  pub angle : Option (List ℕ)

-- a BOUNDARY, a NODE or a BOX; its type is of DATATYPE, NODETYPE or BOXTYPE
pub record Shape : Type 0 where
  pub layer : ℕ
  pub datatype : ℕ
  pub points : List (Point ℤ)

pub record Path : Type 0 where
  pub layer : ℕ
  pub datatype : ℕ
  pub path_type : Option ℕ
  pub width : Option ℤ
  pub begin : Option ℤ
  pub end : Option ℤ
  pub points : List (Point ℤ)

pub record Text (P T : Type 0) : Type 0 where
  pub layer : ℕ
  pub texttype : ℕ
  pub presentation : P
  pub transform : T
  pub origin : Point ℤ
  pub string : List ℕ

pub record Sref (T : Type 0) : Type 0 where
  pub name : List ℕ
  pub transform : T
  pub origin : Point ℤ

-- an array: its first point, and its column and row step
pub record Aref (T : Type 0) : Type 0 where
  pub name : List ℕ
  pub transform : T
  pub columns : ℕ
  pub rows : ℕ
  pub origin : Point ℤ
  pub column_step : Point ℤ
  pub row_step : Point ℤ

pub data Body (P T : Type 0) : Type 0 where
  boundary : Shape → Body P T
  path : Path → Body P T
  text : Text P T → Body P T
  node : Shape → Body P T
  sref : Sref T → Body P T
  aref : Aref T → Body P T
  box : Shape → Body P T

-- with the numbers of ELFLAGS and PLEX, each of which may be missing
pub record Element (P T : Type 0) : Type 0 where
  pub flags : Option ℕ
  pub plex : Option ℤ
  pub body : Body P T
  pub properties : List Property

-- what the records of an element say: PRESENTATION and STRANS may be missing
abbrev pub SaidBody : Type 0
SaidBody = Body (Option ℕ) (Option Strans)

abbrev pub Said : Type 0
Said = Element (Option ℕ) (Option Strans)

-- with BGNSTR's twelve numbers
pub record Structure : Type 0 where
  pub stamps : List ℕ
  pub name : List ℕ
  pub elements : List Said
