-- Flags and plex numbers are held, said, written and reported as by hand, on elements of every kind; no other kind bytes are known; 26 is above 3 and comes directly after 5; and each clause of cell/specs/Draws on them bites.
-- Computed, and for every element by law. Assumes nothing.
use mathlib.Core.Path.{◌≡◌, refl, sym, ap, ◌∙◌}
use mathlib.Core.Bool.{Bool, true, false, cond}
use mathlib.Core.Option.{Option, none, some}
use mathlib.Core.List.{List, [], ◌∷◌, ◌++◌, append-nil}
use Prim.Native.Nat.{ℕ, zero, suc, ◌≤◌, ◌<◌}
use borrow.Author.Tests.{le-leb, lt-leb}
use lib.Dec.{T}
use lib.ListN.{length, take}
use lib.IntN.{ℤ}
use lib.Ieee.{Float}
use Rattle.refusal.specs.declared.Refusal.TheVariants as R
use Rattle.parsing.specs.All.{All}
use Rattle.parsing.specs.Parse.{given}
use Rattle.conversion.specs.declared.GdsRoundingPolicy.{GdsRoundingPolicy}
use Rattle.conversion.specs.declared.GdsRoundingPolicy.TheVariants.{Nearest}
use Rattle.conversion.specs.Entry.{report_bytes}
use Rattle.conversion.specs.Made as Made
use Rattle.conversion.specs.Made.{Made, made, pure, ◌>>=◌}
use Rattle.conversion.proofs.MadeLaws.{need-on, need-off}
use Rattle.sheet.specs.Element as S
use Rattle.sheet.specs.Element.{element_of}
use Rattle.sheet.specs.Encode.{element_block}
use Rattle.sheet.specs.Cell.{cell_of}
use Rattle.stream.specs.Structure as D
use Rattle.stream.specs.Records.{element_bytes}
use Rattle.stream.specs.Drawn.{drawn_of}
use Rattle.stream.specs.Read.{unlimited, read_structure}
use Rattle.cell.specs.Write.{flags_fit, write_body, write_properties, write_element}
use Rattle.cell.specs.Cell.{Result, stopped, written, write_block, structure_bytes, write_cell}
use Rattle.cell.specs.Answer.{Values, answer_of, values_of}
use Rattle.cell.specs.Draws.{Draws}
use Rattle.cases.specs.Case.{halved}
use Rattle.cases.proofs.Open.{opened}
use Rattle.guards.specs.Sample.{flat, sheet_of}
use Rattle.guards.specs.Values.{one}
use Rattle.guards.specs.Edits.{asked}
use Rattle.guards.specs.Faults.{in_turn, grown, retyped, left_out, doubled, exchanged}
use Rattle.guards.proofs.ReadingLaws.{read, still}
use Rattle.option_guards.specs.Options as O
use Rattle.option_guards.specs.Options.{Row, rows, above, Block, blocks, fronts, full_lengths, tails, kind_bytes, sample, sheet, cell, records, few, report, edit, wrong, alike, Faulty, faulty}
use Rattle.guards.proofs.DecidedLaws.{all_draw, all_differ, drawn, refused}
use Rattle.guards.proofs.Bites.{quick, same}

-- ---- blocks

pub held : List Row → List (Option S.Element)
held [] = []
held (r ∷ rs) = element_of (O.block_with r.kind r.options) ∷ held rs

pub known_elements : List Row → List (Option S.Element)
known_elements [] = []
known_elements (r ∷ rs) = some (O.element_with r.kind r.options) ∷ known_elements rs

pub rows-held : held (rows ++ above) ≡ known_elements (rows ++ above)
unfolding opened halved rows above held known_elements
rows-held = refl

-- ---- blocks by their bytes

pub held_by : List Block → List (Option S.Element)
held_by [] = []
held_by (b ∷ bs) = element_of b.bytes ∷ held_by bs

pub known_by : List Block → List (Option S.Element)
known_by [] = []
known_by (b ∷ bs) = b.held ∷ known_by bs

pub blocks-hold : held_by blocks ≡ known_by blocks
unfolding opened halved blocks held_by known_by
blocks-hold = refl

-- and what a block holds is a sheet's block again
block_for : List ℕ → Option S.Element → List ℕ
block_for b none = b
block_for b (some e) = element_block e

pub encoded : List Block → List (List ℕ)
unfolding block_for
encoded [] = []
encoded (b ∷ bs) = block_for b.bytes b.held ∷ encoded bs

pub known_bytes : List Block → List (List ℕ)
known_bytes [] = []
known_bytes (b ∷ bs) = b.bytes ∷ known_bytes bs

pub blocks-encoded : encoded blocks ≡ known_bytes blocks
unfolding opened halved blocks encoded known_bytes block_for
blocks-encoded = refl

-- the numbers below n for which a block is well-formed, in front of others
pub is_held : Option S.Element → Bool
is_held none = false
is_held (some e) = true

pub which : (ℕ → List ℕ) → ℕ → List ℕ → List ℕ
unfolding is_held
which block zero found = found
which block (suc n) found = which block n (cond (is_held (element_of (block n))) (n ∷ found) found)

pub lengths_of : List (List ℕ) → List (List ℕ)
lengths_of [] = []
lengths_of (b ∷ bs) = which (λ n. take n b) (suc (length b)) [] ∷ lengths_of bs

pub fronts-ill : lengths_of fronts ≡ full_lengths
unfolding opened halved fronts full_lengths is_held which lengths_of
fronts-ill = refl

pub kinds_of : List (List ℕ) → List (List ℕ)
kinds_of [] = []
kinds_of (b ∷ bs) = which (λ k. k ∷ b) 256 [] ∷ kinds_of bs

pub kinds-known : kinds_of tails ≡ kind_bytes
unfolding opened halved tails kind_bytes is_held which kinds_of
kinds-known = refl

-- ---- reading: any flags

pub rows-read : read_structure unlimited (flat (O.structure_records (rows ++ above))) ≡ given (O.structure (rows ++ above))
unfolding opened halved rows above
rows-read = refl

pub rows-worth : drawn_of (O.structure (rows ++ above)) ≡ O.drawn (rows ++ above)
unfolding opened rows above
rows-worth = refl

-- ---- writing, from the block to the records and the entry

pub answers : List Row → List (Result (List D.Said))
answers [] = []
answers (r ∷ rs) = write_block Nearest one 4 (element_of (O.block_with r.kind r.options)) (written [] []) ∷ answers rs

pub expected : List Row → List (Result (List D.Said))
expected [] = []
expected (r ∷ rs) = written (O.said_with r.kind r.options ∷ []) (O.entry_at 4 r.kind ∷ []) ∷ expected rs

pub rows_written : answers rows ≡ expected rows
unfolding opened halved rows answers expected
rows_written = refl

pub streams : List Row → List (List ℕ)
streams [] = []
streams (r ∷ rs) = element_bytes (O.said_with r.kind r.options) ∷ streams rs

pub known_streams : List Row → List (List ℕ)
known_streams [] = []
known_streams (r ∷ rs) = flat (O.records_with r.kind r.options) ∷ known_streams rs

pub rows-streamed : streams (rows ++ above) ≡ known_streams (rows ++ above)
unfolding opened halved rows above streams known_streams
rows-streamed = refl

-- element index 4 is block 5
pub refused_all : List Row → List (Result (List D.Said))
refused_all [] = []
refused_all (r ∷ rs) = stopped R.Flags 5 ∷ refused_all rs

pub above-refused : answers above ≡ refused_all above
unfolding opened halved above answers refused_all
above-refused = refl

-- ---- two faults at once

unfoldable pub numbers : Values → List ℕ
numbers v = v.number ∷ v.block ∷ v.length ∷ v.entries ∷ []

unfoldable pub stops : List Faulty → List (List ℕ)
unfolding numbers
stops [] = []
stops (f ∷ fs) = numbers (values_of (answer_of (write_cell f.policy one (sheet_of f.blocks) f.out f.report))) ∷ stops fs

unfoldable pub known_stops : List Faulty → List (List ℕ)
known_stops [] = []
known_stops (f ∷ fs) = (f.number ∷ f.block ∷ f.length ∷ f.entries ∷ []) ∷ known_stops fs

pub faulty-hold : stops faulty ≡ known_stops faulty
unfolding opened halved faulty stops known_stops numbers
faulty-hold = refl

-- ---- the cell: its structure, its report, and what draws it

pub sheet-holds : cell_of sheet ≡ some cell
unfolding opened halved sheet cell
sheet-holds = refl

-- 460 bytes and eight entries
pub sample-written : write_cell 0 one sheet 460 264 ≡ written (O.structure sample) (O.entries_from 0 sample)
unfolding opened halved sheet sample
sample-written = refl

pub sample-streamed : structure_bytes (O.structure sample) ≡ flat records
unfolding opened halved sample records
sample-streamed = refl

-- "The report shows the kind without these additions.", 1 to 6, where the kind bytes are 49, 18, 35, 52, 21, 53, 38 and 4
pub sample-reported : report_bytes (O.entries_from 0 sample) ≡ report
unfolding opened halved sample report
sample-reported = refl

wrong-differ : T (all_differ (asked sheet) (quick cell) wrong)
unfolding opened halved cell records edit wrong quick all_differ
wrong-differ = tt

pub wrong-refused : All (λ b. Draws 0 one sheet b → ⊥) wrong
wrong-refused = refused (asked sheet) (quick cell) (same sheet cell sheet-holds) wrong wrong-differ

alike-draw : T (all_draw (quick cell) alike)
unfolding opened halved cell records edit alike quick all_draw
alike-draw = tt

pub alike-drawn : All (λ b. Draws 0 one sheet b) alike
alike-drawn = drawn (asked sheet) (quick cell) (same sheet cell sheet-holds) alike alike-draw

-- ---- of every element

-- an element of these flags and this plex number, from what its body and its properties give
said : Option ℕ → Option ℤ → Made D.SaidBody → Made (List D.Property) → Made D.Said
said f p b qs = b >>= λ w. qs >>= λ us. pure (record { flags = f; plex = p; body = w; properties = us })

-- the same with others
abbrev pub with : Option ℕ → Option ℤ → Made D.Said → Made D.Said
with f p m = m >>= λ w. pure (record { flags = f; plex = p; body = w.body; properties = w.properties })

said-with : (f : Option ℕ) (p : Option ℤ) (b : Made D.SaidBody) (qs : Made (List D.Property)) → said f p b qs ≡ with f p (said none none b qs)
unfolding said ◌>>=◌
said-with f p (made w ds) (made us es) = ap (made (record { flags = f; plex = p; body = w; properties = us })) (sym (append-nil (ds ++ (es ++ []))))
said-with f p (made w ds) (Made.refused r) = refl
said-with f p (Made.refused r) qs = refl

module _ (r : GdsRoundingPolicy) (d : Float) (e : S.Element) where
  -- "26 flags above 3", whatever else is wrong with the element
  pub above-first : (n : ℕ) → e.flags ≡ some n → 3 < n → write_element r d e ≡ Made.refused R.Flags
  unfolding write_element
  above-first n h l = need-off (flags_fit e.flags) R.Flags _ (ap flags_fit h ∙ lt-leb n 3 l)

  -- else the element is refused, or written and reported, as it is without its options
  abbrev bare : S.Element
  bare = record { flags = none; plex = none; body = e.body; properties = e.properties }

  fitting : flags_fit e.flags ≡ true → write_element r d e ≡ with e.flags e.plex (write_element r d bare)
  unfolding write_element said
  fitting h =
      need-on (flags_fit e.flags) R.Flags (said e.flags e.plex (write_body r d e.body) (write_properties e.properties)) h
      ∙ said-with e.flags e.plex (write_body r d e.body) (write_properties e.properties)
      ∙ ap (with e.flags e.plex) (sym (need-on true R.Flags (said none none (write_body r d e.body) (write_properties e.properties)) refl))

  pub within-carried : (n : ℕ) → e.flags ≡ some n → n ≤ 3 → write_element r d e ≡ with e.flags e.plex (write_element r d bare)
  within-carried n h l = fitting (ap flags_fit h ∙ le-leb n 3 l)

  pub none-carried : e.flags ≡ none → write_element r d e ≡ with e.flags e.plex (write_element r d bare)
  none-carried h = fitting (ap flags_fit h)

-- ---- the records of a node and an array with ELFLAGS and PLEX changed in turn: what is still read

-- STRNAME and SNAME
pub option-sizes : still grown few ≡ 1 ∷ 12 ∷ []
unfolding opened halved few in_turn read still
option-sizes = refl

pub option-data-types : still retyped few ≡ []
unfolding opened halved few in_turn read still
option-data-types = refl

-- "each may be missing"
pub options-missing : still left_out few ≡ 3 ∷ 4 ∷ 10 ∷ 11 ∷ []
unfolding opened halved few in_turn read still
options-missing = refl

pub options-twice : still doubled few ≡ []
unfolding opened halved few in_turn read still
options-twice = refl

pub options-order : still exchanged few ≡ []
unfolding opened halved few in_turn read still
options-order = refl
