-- What it is that bytes draw a sheet's cell, read by the manual's grammar (document 01, "What a structure draws"; boxes: document 02, request 3; flags and plex numbers: its request 5; the bounds are demand 3's own). It knows nothing of a writer.
-- `scaled x` is the whole number x * 2 ^ 1074 of a double. Bounds are stated over these, multiplied out by d and 2 ^ 22. Assumes nothing.
use Rattle.std.specs.Prelude.{◌≡◌, Bool, List, [], ◌∷◌, ℕ, ◌+◌, ◌*◌, ◌<◌, T, ℤ, pos, ◌+ℤ◌, ◌*ℤ◌, Float}
use Rattle.std.proofs.Math.Option.{Option, none, some}
use Rattle.std.specs.Float.Ieee.Scale.{finite}
use Rattle.big_endian.specs.Big.{Bytes}
use Rattle.binary64.specs.Value.{scaled}
use Rattle.units.specs.declared.Unit.{Unit}
use Rattle.units.specs.Point.{Point}
use Rattle.units.specs.Physical.{physical, passed}
use Rattle.conversion.specs.declared.GdsRoundingPolicy.{GdsRoundingPolicy}
use Rattle.conversion.specs.Array.{spacing_at, turned}
use Rattle.conversion.specs.Close.{allowance, Close}
use Rattle.conversion.specs.Policy.{policy_of}
use Rattle.sheet.specs.Element as S
use Rattle.sheet.specs.Cell.{Cell, cell_of}
use Rattle.stream.specs.Strings.{trimmed}
use Rattle.stream.specs.Structure as D
use Rattle.stream.specs.Drawn.{Transform, Worth, Drawn, drawn_of, instance_at}
use Rattle.stream.specs.Read.{structure_of}

-- ---- "as many and in the same order"; "absent alike"

pub data Each {A B : Type 0} (R : A → B → Type 0) : List A → List B → Type 0 where
  done : Each R [] []
  more : {a : A} {b : B} {s : List A} {t : List B} → R a b → Each R s t → Each R (a ∷ s) (b ∷ t)

pub data Both {A B : Type 0} (R : A → B → Type 0) : Option A → Option B → Type 0 where
  absent : Both R none none
  present : {a : A} {b : B} → R a b → Both R (some a) (some b)

-- "Demand 3 compares strings with trailing zero bytes dropped from each": the drawn string t has none.
abbrev pub SameString : List ℕ → List ℕ → Type 0
SameString s t = trimmed s ≡ t

-- ---- coordinates and path lengths, outside arrays

module _ (policy : GdsRoundingPolicy) (d : Float) where
  -- "an integer whose unit equals d passes unchanged"; any other coordinate is close to its finite physical value p
  abbrev pub AlikeBy : Option ℤ → Float → ℤ → Type 0
  AlikeBy none p q = T (finite p) × Close (allowance policy) d (scaled p) q
  AlikeBy (some v) p q = q ≡ v

  abbrev pub AlikeCoordinate : Unit → ℤ → Type 0
  AlikeCoordinate u q = AlikeBy (passed d u) (physical u) q

  pub record AlikePoint (p : Point Unit) (q : Point ℤ) : Type 0 where
    pub x : AlikeCoordinate p.x q.x
    pub y : AlikeCoordinate p.y q.y

-- ---- properties and transforms

pub record AlikeProperty (p : S.Property) (q : D.Property) : Type 0 where
  pub attribute : p.attribute ≡ q.attribute
  pub value : SameString p.value q.value

-- reflection equal; magnification and degrees finite, and numerically equal
pub record AlikeTransform (reflection : Bool) (magnification degrees : Float) (t : Transform) : Type 0 where
  pub reflected : reflection ≡ t.reflection
  pub magnification_finite : T (finite magnification)
  pub degrees_finite : T (finite degrees)
  pub magnified : scaled magnification ≡ t.magnification
  pub rotated : scaled degrees ≡ t.degrees

-- ---- arrays

-- "its physical values are the p of origin and turned spacings"
abbrev pub turned_at : S.Reference → Option (Point Unit) → Point Float
turned_at e s = turned e.sine e.cosine (spacing_at s)

-- On one axis, with the physical values po, pa and pb of origin and turned spacings: every instance is close to po + i * pa + j * pb.
-- Instance (0, 0) is the origin, and the bound there is that of one conversion.
pub record AlikeInstances (policy : GdsRoundingPolicy) (d : Float) (columns rows : ℕ) (po pa pb : Float) (o a b : ℤ) : Type 0 where
  pub origin_finite : T (finite po)
  pub column_finite : T (finite pa)
  pub row_finite : T (finite pb)
  pub instances : (i j : ℕ) → i < columns → j < rows
      → Close ((1 + i + j) * allowance policy) d (scaled po +ℤ pos i *ℤ scaled pa +ℤ pos j *ℤ scaled pb) (instance_at o a b i j)

-- ---- boxes

-- "those of `GdsBox::points`", coordinate by coordinate: of the corners (x1, y1) and (x2, y2), the points (x1, y1) (x2, y1) (x2, y2) (x1, y2) (x1, y1)
abbrev pub outline : Point ℤ → Point ℤ → List (Point ℤ)
outline p q =
    record { x = p.x; y = p.y }
    ∷ record { x = q.x; y = p.y }
    ∷ record { x = q.x; y = q.y }
    ∷ record { x = p.x; y = q.y }
    ∷ record { x = p.x; y = p.y }
    ∷ []

-- ---- elements

module _ (policy : GdsRoundingPolicy) (d : Float) where
  pub record AlikeShape (e : S.Shape) (w : D.Shape) : Type 0 where
    pub layer : e.layer ≡ w.layer
    pub datatype : e.datatype ≡ w.datatype
    pub points : Each (AlikePoint policy d) e.points w.points

  pub record AlikePath (e : S.Path) (w : D.Path) : Type 0 where
    pub layer : e.layer ≡ w.layer
    pub datatype : e.datatype ≡ w.datatype
    pub path_type : e.path_type ≡ w.path_type
    pub width : Both (AlikeCoordinate policy d) e.width w.width
    pub begin : Both (AlikeCoordinate policy d) e.begin w.begin
    pub end : Both (AlikeCoordinate policy d) e.end w.end
    pub points : Each (AlikePoint policy d) e.points w.points

  -- vertical and horizontal are at most 2, so 4 * vertical + horizontal fixes both
  pub record AlikeText (e : S.Text) (w : D.Text ℕ Transform) : Type 0 where
    pub layer : e.layer ≡ w.layer
    pub texttype : e.texttype ≡ w.texttype
    pub presentation : 4 * e.vertical + e.horizontal ≡ w.presentation
    pub transform : AlikeTransform e.reflection e.magnification e.degrees w.transform
    pub origin : AlikePoint policy d e.origin w.origin
    pub string : SameString e.string w.string

  -- "An SREF is 1 × 1, its instance at its point."
  pub record AlikeSref (e : S.Reference) (w : D.Sref Transform) : Type 0 where
    pub columns : e.columns ≡ 1
    pub rows : e.rows ≡ 1
    pub name : SameString e.name w.name
    pub transform : AlikeTransform e.reflection e.magnification e.degrees w.transform
    pub origin : AlikePoint policy d e.origin w.origin

  -- "On the sheet a reference not 1 × 1 is an array."
  pub record AlikeAref (e : S.Reference) (w : D.Aref Transform) : Type 0 where
    pub array : (e.columns ≡ 1) × (e.rows ≡ 1) → ⊥
    pub name : SameString e.name w.name
    pub transform : AlikeTransform e.reflection e.magnification e.degrees w.transform
    pub columns : e.columns ≡ w.columns
    pub rows : e.rows ≡ w.rows
    pub x : AlikeInstances policy d e.columns e.rows (physical e.origin.x) (turned_at e e.column_spacing).x (turned_at e e.row_spacing).x
        w.origin.x w.column_step.x w.row_step.x
    pub y : AlikeInstances policy d e.columns e.rows (physical e.origin.y) (turned_at e e.column_spacing).y (turned_at e e.row_spacing).y
        w.origin.y w.column_step.y w.row_step.y

  -- "What is promised of a drawn cell includes its boxes": the five points are those of two corners, and these are close to the sheet's
  pub record AlikeBox (e : S.Box) (w : D.Shape) : Type 0 where
    pub layer : e.layer ≡ w.layer
    pub boxtype : e.boxtype ≡ w.datatype
    pub corner : Point ℤ
    pub opposite : Point ℤ
    pub points : w.points ≡ outline corner opposite
    pub first : AlikePoint policy d e.first corner
    pub second : AlikePoint policy d e.second opposite

  -- of the same kind
  pub data AlikeBody : S.Body → D.Body ℕ Transform → Type 0 where
    polygon : {e : S.Shape} {w : D.Shape} → AlikeShape e w → AlikeBody (S.polygon e) (D.boundary w)
    path : {e : S.Path} {w : D.Path} → AlikePath e w → AlikeBody (S.path e) (D.path w)
    text : {e : S.Text} {w : D.Text ℕ Transform} → AlikeText e w → AlikeBody (S.text e) (D.text w)
    node : {e : S.Shape} {w : D.Shape} → AlikeShape e w → AlikeBody (S.node e) (D.node w)
    sref : {e : S.Reference} {w : D.Sref Transform} → AlikeSref e w → AlikeBody (S.reference e) (D.sref w)
    aref : {e : S.Reference} {w : D.Aref Transform} → AlikeAref e w → AlikeBody (S.reference e) (D.aref w)
    box : {e : S.Box} {w : D.Shape} → AlikeBox e w → AlikeBody (S.box e) (D.box w)

  -- "what is promised of a drawn cell includes both: absent alike, else equal"
  pub record AlikeElement (e : S.Element) (w : Worth) : Type 0 where
    pub flags : e.flags ≡ w.flags
    pub plex : e.plex ≡ w.plex
    pub body : AlikeBody e.body w.body
    pub properties : Each AlikeProperty e.properties w.properties

  -- ---- the cell: "Stamps, sine, cosine and a 1 × 1 reference's spacings are not drawn. All else is drawn, block by block"

  pub record Alike (c : Cell) (s : Drawn) : Type 0 where
    pub name : SameString c.head.name s.name
    pub elements : Each AlikeElement c.elements s.elements

-- ---- bytes and a sheet

-- The bytes, read alone, are a structure that draws the sheet's cell under the policy.
pub record Draws (policy : ℕ) (d : Float) (sheet bytes : List ℕ) : Type 0 where
  pub rounding : GdsRoundingPolicy
  pub named : policy_of policy ≡ some rounding
  pub cell : Cell
  pub held : cell_of sheet ≡ some cell
  pub bytewise : Bytes bytes
  pub structure : D.Structure
  pub reads : structure_of bytes ≡ some structure
  pub alike : Alike rounding d cell (drawn_of structure)
