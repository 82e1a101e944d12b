-- Demand 3's comparison told a second time, as tests that compute (document 01, "What a structure draws", its last paragraph; boxes: document 02, request 3; flags and plex numbers: its request 5; the bounds are the demand's). Bounds and formulas stand
-- written out: nothing is taken from cell/specs/Draws or conversion/specs/Close. A structure draws a cell exactly where it passes (proofs/ToldLaws, AlikeLaws, DecidedLaws), so a clause
-- that is weakened or added on one side alone is refused. Assumes nothing.
use Rattle.std.specs.Prelude.{Bool, true, false, not, ◌&&◌, List, [], ◌∷◌, ℕ, zero, suc, ◌+◌, ◌*◌, leb, ltb, eqb, ℤ, pos, nat_abs, ◌+ℤ◌, ◌-ℤ◌, ◌*ℤ◌, Float}
use Rattle.std.proofs.Math.Option.{Option, none, some}
use Rattle.std.specs.Float.Ieee.Scale.{finite}
use Rattle.binary64.specs.Value.{scaled, same_int}
use Rattle.units.specs.declared.Unit.{Unit}
use Rattle.units.specs.Point.{Point}
use Rattle.units.specs.Physical.{physical, passed}
use Rattle.conversion.specs.declared.GdsRoundingPolicy.{GdsRoundingPolicy}
use Rattle.conversion.specs.declared.GdsRoundingPolicy.TheVariants.{Nearest, Floor, Ceil, ErrorIfOffGrid}
use Rattle.conversion.specs.Array.{spacing_at, turned}
use Rattle.conversion.specs.Policy.{policy_of}
use Rattle.sheet.specs.Element as S
use Rattle.sheet.specs.Cell.{Cell, cell_of}
use Rattle.stream.specs.Strings.{trimmed}
use Rattle.stream.specs.Structure as D
use Rattle.stream.specs.Drawn.{Transform, Worth, Drawn, drawn_of}
use Rattle.stream.specs.Read.{structure_of}
use Rattle.cases.specs.Case.{same_bytes}

-- ---- tests, and what all of them say

abbrev pub Tests : Type 0
Tests = List Bool

abbrev pub all : Tests → Bool
all [] = true
all (t ∷ ts) = t && all ts

-- ---- lists, options, flags, and every number below n

abbrev pub each : {A B : Type 0} → (A → B → Tests) → List A → List B → Bool
each t [] [] = true
each t [] (b ∷ bs) = false
each t (a ∷ s) [] = false
each t (a ∷ s) (b ∷ bs) = all (t a b) && each t s bs

abbrev pub both : {A B : Type 0} → (A → B → Tests) → Option A → Option B → Bool
both t none none = true
both t none (some b) = false
both t (some a) none = false
both t (some a) (some b) = all (t a b)

abbrev pub same : Bool → Bool → Bool
same true b = b
same false b = not b

abbrev pub below : ℕ → (ℕ → Bool) → Bool
below zero t = true
below (suc n) t = below n t && t n

-- ---- how near: in 2 ^ -22 of the database unit, half of it or all of it, and 1; strict 4

abbrev pub allowed : GdsRoundingPolicy → ℕ
allowed Nearest = 2097153
allowed Floor = 4194305
allowed Ceil = 4194305
allowed ErrorIfOffGrid = 4

abbrev pub near : ℕ → Float → ℤ → ℤ → Bool
near n d P q = leb (nat_abs (q *ℤ scaled d -ℤ P) * 4194304) (n * nat_abs (scaled d))

-- ---- properties and transforms

abbrev pub property : S.Property → D.Property → Tests
property p q = eqb p.attribute q.attribute ∷ same_bytes (trimmed p.value) q.value ∷ []

abbrev pub transform : Bool → Float → Float → Transform → Tests
transform r m a t =
    same r t.reflection
    ∷ finite m
    ∷ finite a
    ∷ same_int (scaled m) t.magnification
    ∷ same_int (scaled a) t.degrees
    ∷ []

-- ---- elements

-- what is drawn, by its kind
abbrev pub by_kind : (D.Shape → Tests) → (D.Path → Tests) → (D.Text ℕ Transform → Tests) → (D.Shape → Tests) → (D.Sref Transform → Tests) → (D.Aref Transform → Tests) → (D.Shape → Tests) → D.Body ℕ Transform → Tests
by_kind b p t n s a q (D.boundary w) = b w
by_kind b p t n s a q (D.path w) = p w
by_kind b p t n s a q (D.text w) = t w
by_kind b p t n s a q (D.node w) = n w
by_kind b p t n s a q (D.sref w) = s w
by_kind b p t n s a q (D.aref w) = a w
by_kind b p t n s a q (D.box w) = q w

abbrev pub never : {A : Type 0} → A → Tests
never a = false ∷ []

-- path types and flags; plex numbers
abbrev pub number : ℕ → ℕ → Tests
number m n = eqb m n ∷ []

abbrev pub integer : ℤ → ℤ → Tests
integer y z = same_int y z ∷ []

abbrev turned_by : S.Reference → Option (Point Unit) → Point Float
turned_by e s = turned e.sine e.cosine (spacing_at s)

-- five points, and tests of them
abbrev pub five : (Point ℤ → Point ℤ → Point ℤ → Point ℤ → Point ℤ → Tests) → List (Point ℤ) → Bool
five t [] = false
five t (p0 ∷ []) = false
five t (p0 ∷ p1 ∷ []) = false
five t (p0 ∷ p1 ∷ p2 ∷ []) = false
five t (p0 ∷ p1 ∷ p2 ∷ p3 ∷ []) = false
five t (p0 ∷ p1 ∷ p2 ∷ p3 ∷ p4 ∷ []) = all (t p0 p1 p2 p3 p4)
five t (p0 ∷ p1 ∷ p2 ∷ p3 ∷ p4 ∷ p5 ∷ ps) = false

module _ (r : GdsRoundingPolicy) (d : Float) where
  abbrev pub coordinate_by : Option ℤ → Float → ℤ → Tests
  coordinate_by none p q = finite p ∷ near (allowed r) d (scaled p) q ∷ []
  coordinate_by (some v) p q = same_int q v ∷ []

  abbrev pub coordinate : Unit → ℤ → Tests
  coordinate u q = coordinate_by (passed d u) (physical u) q

  abbrev pub point : Point Unit → Point ℤ → Tests
  point p q = all (coordinate p.x q.x) ∷ all (coordinate p.y q.y) ∷ []

  -- instance (i, j) of an array, and all of them, on one axis
  abbrev pub instance : Float → Float → Float → ℤ → ℤ → ℤ → ℕ → ℕ → Bool
  instance po pa pb o a b i j =
      near ((1 + i + j) * allowed r) d (scaled po +ℤ pos i *ℤ scaled pa +ℤ pos j *ℤ scaled pb) (o +ℤ pos i *ℤ a +ℤ pos j *ℤ b)

  abbrev pub instances : ℕ → ℕ → Float → Float → Float → ℤ → ℤ → ℤ → Tests
  instances columns rows po pa pb o a b =
      finite po
      ∷ finite pa
      ∷ finite pb
      ∷ below columns (λ i. below rows (λ j. instance po pa pb o a b i j))
      ∷ []

  abbrev pub shape : S.Shape → D.Shape → Tests
  shape e w = eqb e.layer w.layer ∷ eqb e.datatype w.datatype ∷ each point e.points w.points ∷ []

  abbrev pub path : S.Path → D.Path → Tests
  path e w =
      eqb e.layer w.layer
      ∷ eqb e.datatype w.datatype
      ∷ both number e.path_type w.path_type
      ∷ both coordinate e.width w.width
      ∷ both coordinate e.begin w.begin
      ∷ both coordinate e.end w.end
      ∷ each point e.points w.points
      ∷ []

  abbrev pub text : S.Text → D.Text ℕ Transform → Tests
  text e w =
      eqb e.layer w.layer
      ∷ eqb e.texttype w.texttype
      ∷ eqb (4 * e.vertical + e.horizontal) w.presentation
      ∷ all (transform e.reflection e.magnification e.degrees w.transform)
      ∷ all (point e.origin w.origin)
      ∷ same_bytes (trimmed e.string) w.string
      ∷ []

  abbrev pub sref : S.Reference → D.Sref Transform → Tests
  sref e w =
      eqb e.columns 1
      ∷ eqb e.rows 1
      ∷ same_bytes (trimmed e.name) w.name
      ∷ all (transform e.reflection e.magnification e.degrees w.transform)
      ∷ all (point e.origin w.origin)
      ∷ []

  abbrev pub aref : S.Reference → D.Aref Transform → Tests
  aref e w =
      not (eqb e.columns 1 && eqb e.rows 1)
      ∷ same_bytes (trimmed e.name) w.name
      ∷ all (transform e.reflection e.magnification e.degrees w.transform)
      ∷ eqb e.columns w.columns
      ∷ eqb e.rows w.rows
      ∷ all (instances e.columns e.rows (physical e.origin.x) (turned_by e e.column_spacing).x (turned_by e e.row_spacing).x w.origin.x w.column_step.x w.row_step.x)
      ∷ all (instances e.columns e.rows (physical e.origin.y) (turned_by e e.column_spacing).y (turned_by e e.row_spacing).y w.origin.y w.column_step.y w.row_step.y)
      ∷ []

  -- the first point near the first corner, the third near the second; from the one along x to the other's x, along y to it, and back: each leg leaves one coordinate as it was
  abbrev pub corners : S.Box → Point ℤ → Point ℤ → Point ℤ → Point ℤ → Point ℤ → Tests
  corners e p0 p1 p2 p3 p4 =
      all (point e.first p0)
      ∷ all (point e.second p2)
      ∷ same_int p1.y p0.y
      ∷ same_int p1.x p2.x
      ∷ same_int p3.y p2.y
      ∷ same_int p3.x p0.x
      ∷ same_int p4.x p0.x
      ∷ same_int p4.y p0.y
      ∷ []

  abbrev pub box : S.Box → D.Shape → Tests
  box e w = eqb e.layer w.layer ∷ eqb e.boxtype w.datatype ∷ five (corners e) w.points ∷ []

  -- of the same kind
  abbrev pub body : S.Body → D.Body ℕ Transform → Tests
  body (S.polygon e) = by_kind (shape e) never never never never never never
  body (S.path e) = by_kind never (path e) never never never never never
  body (S.text e) = by_kind never never (text e) never never never never
  body (S.node e) = by_kind never never never (shape e) never never never
  body (S.reference e) = by_kind never never never never (sref e) (aref e) never
  body (S.box e) = by_kind never never never never never never (box e)

  -- "absent alike, else equal"
  abbrev pub element : S.Element → Worth → Tests
  element e w =
      both number e.flags w.flags
      ∷ both integer e.plex w.plex
      ∷ all (body e.body w.body)
      ∷ each property e.properties w.properties
      ∷ []

  -- ---- the cell

  abbrev pub told : Cell → Drawn → Tests
  told c s = same_bytes (trimmed c.head.name) s.name ∷ each element c.elements s.elements ∷ []

-- ---- the whole: a policy, the cell that a sheet holds, bytes that are read alone

abbrev pub all_bytes : List ℕ → Bool
all_bytes [] = true
all_bytes (b ∷ s) = ltb b 256 && all_bytes s

abbrev pub told_of : Float → Option GdsRoundingPolicy → Option Cell → Option D.Structure → Bool
told_of d none c s = false
told_of d (some r) none s = false
told_of d (some r) (some c) none = false
told_of d (some r) (some c) (some s) = all (told r d c (drawn_of s))

abbrev pub draws : ℕ → Float → List ℕ → List ℕ → Bool
draws policy d sheet b = all_bytes b && told_of d (policy_of policy) (cell_of sheet) (structure_of b)
