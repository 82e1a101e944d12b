-- One block of the sheet measured and written, by the definition of writing an element (cell/specs/Write). Assumes nothing.
use Rattle.std.specs.Prelude.{◌≡◌, true, List, ◌++◌, ℕ, ◌+◌, ◌*◌, ◌≤◌, T, length, take, drop, Float, Result, Ok, Err}
use Rattle.std.specs.Option.{is_some}
use Rattle.refusal.specs.declared.Refusal.{Refusal}
use Rattle.std.proofs.Math.Option.{Option, none, some}
use Rattle.refusal.specs.declared.Refusal.TheVariants as R
use Rattle.conversion.specs.declared.GdsRoundingPolicy.{GdsRoundingPolicy}
use Rattle.conversion.specs.code.Fold.{blank_entry, run}
use Rattle.conversion.specs.Made.{Made, pure, ◌>>=◌}
use Rattle.sheet.specs.Element.{Body, Element, kind_of, element_of}
use Rattle.sheet.specs.Element as S
use Rattle.stream.specs.Structure.{Property, SaidBody}
use Rattle.stream.specs.Record.{ELFLAGS, PLEX}
use Rattle.stream.specs.Records.{bits_record, long_record, element_bytes}
use Rattle.cell.specs.Write.{write_body, write_properties, write_element}
use Rattle.cell.specs.Order.{Accepted}
use Rattle.steps.specs.declared.Measured.{Measured}
use Rattle.steps.specs.declared.Written.{Written}
use Rattle.steps.specs.code.Steps.{through, sizing, Writes}
use Rattle.records.specs.code.Bytes.{record_head, word_record_length, long_record_length, Placed, opt_bytes}
use Rattle.block_places.specs.declared.Options.{Options}
use Rattle.block_places.specs.code.Places.{flags_of, plex_of, size_if}
use Rattle.properties.specs.code.Tail.{tail_bytes}
use Rattle.bodies.specs.code.Body.{body_bytes}

-- ---- body and properties: an element that has no options

pub record Parts : Type 0 where
  pub body : SaidBody
  pub properties : List Property

unfoldable pub write_parts : GdsRoundingPolicy → Float → Body → List S.Property → Made Parts
write_parts policy d e qs = do
  w ← write_body policy d e
  rs ← write_properties qs
  pure (record { body = w; properties = rs })

unfoldable pub parts_bytes : Parts → List ℕ
parts_bytes p = body_bytes p.body ++ tail_bytes p.properties

-- ---- the options: the bytes of ELFLAGS and PLEX

abbrev pub options_length : Options → ℕ
options_length o = size_if (is_some o.flags) word_record_length + size_if (is_some o.plex) long_record_length

-- of both
abbrev pub max_options_length : ℕ
max_options_length = 14

unfoldable pub options_bytes : Options → List ℕ
options_bytes o = opt_bytes (bits_record ELFLAGS) (flags_of o) ++ opt_bytes (long_record PLEX) (plex_of o)

-- what is measured of the parts, with n bytes more
abbrev pub longer : ℕ → Result Measured Refusal → Result Measured Refusal
longer n (Err r) = Err r
longer n (Ok m) = through (m.length + n) m.entry

-- the first record, which stands at `from`, put at the start, with the options after it
abbrev pub PutsOptions : Options → List ℕ → List ℕ → ℕ → Type 0
PutsOptions o before after to = Placed (take record_head (drop (options_length o) before) ++ options_bytes o) (record_head + options_length o) before after 0 to

-- ---- the element of index i that a block holds: "form first", then its own refusals

-- the length of its bytes and its entry
unfoldable pub measured_block : GdsRoundingPolicy → Float → ℕ → Option Element → Result Measured Refusal
measured_block policy d i none = Err R.Form
measured_block policy d i (some e) = run Err (blank_entry i (kind_of e.body)) (write_element policy d e) (sizing element_bytes)

-- what is measured is short: the lengths of a sheet's blocks have a sum that a word holds
abbrev pub Short : ℕ → Result Measured Refusal → Type 0
Short n (Err r) = T true
Short n (Ok m) = m.length ≤ 84 + 4 * n

-- no check refuses the block's element, and n bytes hold its own
pub record Fits (policy : GdsRoundingPolicy) (d : Float) (b : List ℕ) (n : ℕ) : Type 0 where
  pub accepted : Accepted policy d b
  pub room : length (element_bytes accepted.said) ≤ n

-- then its bytes are written at the start of the part of the output that it is lent, and its entry is answered
pub record WritesBlock (policy : GdsRoundingPolicy) (d : Float) (i : ℕ) (b before after : List ℕ) (r : Written) : Type 0 where
  pub element : Element
  pub held : element_of b ≡ some element
  pub writes : Writes element_bytes (blank_entry i (kind_of element.body)) (write_element policy d element) 0 before after r
