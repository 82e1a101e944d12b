-- What a structure draws: what its records are worth (document 01, "What a structure draws"; document 02, requests 3 and 5). Stamps are not drawn, and strings have their trailing zero bytes dropped.
-- Two structures draw the same where these are equal. Assumes nothing.
use Rattle.std.specs.Prelude.{Bool, false, ◌&&◌, cond, List, [], ◌∷◌, ℕ, ◌^◌, eqb, ℤ, pos, ◌+ℤ◌, ◌*ℤ◌}
use Rattle.std.proofs.Math.Option.{Option, none, some}
use Rattle.gds_format.specs.Real8.{real8_value}
use Rattle.stream.specs.Strings.{trimmed}
use Rattle.stream.specs.Structure.{Property, Strans, Text, Sref, Aref, Body, boundary, path, text, node, sref, aref, box, Element, SaidBody, Said, Structure}

-- magnification and degrees are whole numbers of 2 ^ -1074
pub record Transform : Type 0 where
  pub reflection : Bool
  pub magnification : ℤ
  pub degrees : ℤ

abbrev pub Worth : Type 0
Worth = Element ℕ Transform

pub record Drawn : Type 0 where
  pub name : List ℕ
  pub elements : List Worth

-- ---- what may be missing

-- "PRESENTATION (then 0)"
abbrev pub presentation_of : Option ℕ → ℕ
presentation_of none = 0
presentation_of (some n) = n

abbrev pub one : ℤ
one = pos (2 ^ 1074)

-- what a real is worth, and z where it is missing
abbrev pub real_of : ℤ → Option (List ℕ) → ℤ
real_of z none = z
real_of z (some b) = real8_value b

-- "STRANS (then no reflection) and, only after a STRANS, MAG (then 1) and ANGLE (then 0)"
abbrev pub transform_of : Option Strans → Transform
transform_of none = record { reflection = false; magnification = one; degrees = pos 0 }
transform_of (some t) = record { reflection = t.reflection; magnification = real_of one t.magnification; degrees = real_of (pos 0) t.angle }

-- ---- an element

abbrev pub properties_drawn : List Property → List Property
properties_drawn [] = []
properties_drawn (q ∷ qs) = record { attribute = q.attribute; value = trimmed q.value } ∷ properties_drawn qs

abbrev pub text_drawn : Text (Option ℕ) (Option Strans) → Text ℕ Transform
text_drawn e = record {
  layer = e.layer;
  texttype = e.texttype;
  presentation = presentation_of e.presentation;
  transform = transform_of e.transform;
  origin = e.origin;
  string = trimmed e.string;
}

abbrev pub sref_drawn : Sref (Option Strans) → Sref Transform
sref_drawn e = record { name = trimmed e.name; transform = transform_of e.transform; origin = e.origin }

abbrev pub aref_drawn : Aref (Option Strans) → Aref Transform
aref_drawn e = record {
  name = trimmed e.name;
  transform = transform_of e.transform;
  columns = e.columns;
  rows = e.rows;
  origin = e.origin;
  column_step = e.column_step;
  row_step = e.row_step;
}

-- an array's only instance, at its first point
abbrev pub only_instance : {T : Type 0} → Aref T → Sref T
only_instance e = record { name = e.name; transform = e.transform; origin = e.origin }

-- an AREF of 1 × 1 draws what an SREF at its first point does
unfoldable pub reference_drawn : Aref Transform → Body ℕ Transform
reference_drawn e = cond (eqb e.columns 1 && eqb e.rows 1) (sref (only_instance e)) (aref e)

abbrev pub body_drawn : SaidBody → Body ℕ Transform
body_drawn (boundary e) = boundary e
body_drawn (path e) = path e
body_drawn (text e) = text (text_drawn e)
body_drawn (node e) = node e
body_drawn (sref e) = sref (sref_drawn e)
body_drawn (aref e) = reference_drawn (aref_drawn e)
body_drawn (box e) = box e

abbrev pub element_drawn : Said → Worth
element_drawn e = record { flags = e.flags; plex = e.plex; body = body_drawn e.body; properties = properties_drawn e.properties }

abbrev pub elements_drawn : List Said → List Worth
elements_drawn [] = []
elements_drawn (e ∷ es) = element_drawn e ∷ elements_drawn es

-- ---- the structure

abbrev pub drawn_of : Structure → Drawn
drawn_of s = record { name = trimmed s.name; elements = elements_drawn s.elements }

-- ---- arrays

-- "Instance (i, j) lies at the first point plus i column and j row steps": on one axis, o the first point, a and b the steps
abbrev pub instance_at : ℤ → ℤ → ℤ → ℕ → ℕ → ℤ
instance_at o a b i j = o +ℤ pos i *ℤ a +ℤ pos j *ℤ b
