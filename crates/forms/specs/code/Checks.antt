-- What the checks of a form promise. A form is held to what stands in the block: it gives exactly that, or is ill-formed. Assumes nothing.
use Rattle.std.specs.Prelude.{◌≡◌, Bool, cond, ◌&&◌, List, ℕ, ◌+◌, ◌≤◌, leb, ltb, length, drop, IfSome}
use Rattle.std.specs.Prelude as Code
use Rattle.std.proofs.Math.Option.{Option}
use Rattle.big_endian.specs.Big.{number_at}
use Rattle.units.specs.declared.Unit as Coordinate
use Rattle.parsing.specs.Parse.{Part, ill, part, IllFormed, ill_formed, present, whole, ◌>>=◌}
use Rattle.sheet.specs.Form.{Form, counted, coordinate}
use Rattle.sheet.specs.Element.{Path, Body, Element, kind_limit, property, body_form, head_of, element_of}
use Rattle.block_places.specs.declared.HeadPlaces.{HeadPlaces}
use Rattle.block_places.specs.declared.PropertyPlaces.{PropertyPlaces}
use Rattle.block_places.specs.declared.ElementPlaces.{ElementPlaces}
use Rattle.forms.specs.declared.BodyForm.{BodyForm}
use Rattle.block_places.specs.code.Place.{coordinate_at}
use Rattle.block_places.specs.code.Places.{head_at, body_at, properties_at, option_as, flags_of, plex_of, shift_of, options_at, HeadIn, BodyIn, PropertiesIn, ElementIn}

-- a coordinate that is not absent
abbrev pub given : Form Coordinate.Unit
given = coordinate >>= present ill_formed

-- A check at a place that answers yes or no: the form p gives a and ends at `to`, or is ill-formed.
pub record Checked {A : Type 0} (p : Form A) (b : List ℕ) (at : ℕ) (a : A) (to : ℕ) (r : Bool) : Type 0 where
  pub is : p (drop at b) ≡ cond r (part a (drop to b)) (ill ill_formed)

-- The three lengths of a path, each of which may be absent, in front of whatever follows them.
pub record LengthsChecked (b : List ℕ) (r : Bool) : Type 0 where
  pub is : (f : Option Coordinate.Unit → Option Coordinate.Unit → Option Coordinate.Unit → Form Path)
      → (coordinate >>= λ w. coordinate >>= λ g. coordinate >>= λ e. f w g e) (drop 6 b) ≡ cond r (f (coordinate_at b 6) (coordinate_at b 23) (coordinate_at b 40) (drop 57 b)) (ill ill_formed)

-- ---- the properties, to the end of the block

pub record PropertiesRead (b : List ℕ) (at : ℕ) (r : Code.Option PropertyPlaces) : Type 0 where
  pub form : whole (counted property) (drop at b) ≡ option_as (properties_at b) r
  pub places : IfSome r (PropertiesIn b)

-- ---- the body of kind k, after the kind byte

abbrev pub body_form_at : List ℕ → Code.Option BodyForm → Part IllFormed ℕ Body
body_form_at b Code.None = ill ill_formed
body_form_at b (Code.Some s) = part (body_at b s.places) (drop s.end b)

pub record BodyEnds (b : List ℕ) (s : BodyForm) : Type 0 where
  pub body-in : BodyIn b s.places
  pub end-in : s.end ≤ length b

pub record BodyRead (k : ℕ) (b : List ℕ) (r : Code.Option BodyForm) : Type 0 where
  pub form : body_form k (drop 1 b) ≡ body_form_at b r
  pub places : IfSome r (BodyEnds b)

-- ---- whole blocks: what the places tell; nothing where the block is ill-formed

pub record HeadRead (b : List ℕ) (r : Code.Option HeadPlaces) : Type 0 where
  pub form : head_of b ≡ option_as (head_at b) r
  pub places : IfSome r (HeadIn b)

-- a kind byte that is raised by no more than both options, and what it is raised for
unfoldable pub options_in : List ℕ → Bool
options_in b = leb 1 (length b) && ltb (number_at 1 b 0) kind_limit && leb (1 + shift_of (number_at 1 b 0)) (length b)

-- body and properties in the block that is left without the options
abbrev pub element_at : List ℕ → ElementPlaces → Element
element_at b e =
    let rest = drop e.options.shift b in
    record { flags = flags_of e.options; plex = plex_of e.options; body = body_at rest e.body; properties = properties_at rest e.properties }

-- the options are the block's, and body and properties lie in what is left without them
pub record OptionsRead (b : List ℕ) (e : ElementPlaces) : Type 0 where
  pub options : e.options ≡ options_at b
  pub shift_in : e.options.shift ≤ length b
  pub parts_in : ElementIn (drop e.options.shift b) e.body e.properties

pub record ElementRead (b : List ℕ) (r : Code.Option ElementPlaces) : Type 0 where
  pub form : element_of b ≡ option_as (element_at b) r
  pub places : IfSome r (OptionsRead b)
