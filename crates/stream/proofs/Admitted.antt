-- What a reader's limits admit: every record of a structure, each at its place, and its arrays' steps. Assumes nothing.
use mathlib.Core.Path.{◌≡◌, refl}
use mathlib.Core.Bool.{true}
use mathlib.Core.Option.{none}
use mathlib.Core.List.{List, [], ◌∷◌}
use Prim.Native.Nat.{ℕ, suc}
use lib.Dec.{T}
use lib.ListN.{drop}
use lib.IntN.{ℤ}
use Rattle.units.specs.Point.{Point}
use Rattle.stream.specs.Record.{Rec, STRNAME, PROPATTR, PROPVALUE, ENDEL}
use Rattle.stream.specs.Structure.{Property, SaidBody, Said, Structure}
use Rattle.stream.specs.Structure as S
use Rattle.stream.specs.Records.{empty_record, word_record, string_record, stamps_record, body_records, option_records}
use Rattle.stream.specs.Read.{Limits, unlimited}
use Rattle.stream.proofs.AppendLaws.{code_of}
use Rattle.stream.proofs.Fit.{All, done, more}

abbrev pub Admitted : Limits → ℕ → ℕ → Rec → Type 0
Admitted limits kind i r = limits.admit kind i r ≡ none

-- the records of an element after its first, but for its properties
abbrev pub body_rest : SaidBody → List Rec
body_rest w = drop 1 (body_records w [])

pub record AdmittedPoint (limits : Limits) (p : Point ℤ) : Type 0 where
  pub x : limits.step p.x ≡ none
  pub y : limits.step p.y ≡ none

-- an array's steps
abbrev pub AdmittedSteps : Limits → SaidBody → Type 0
AdmittedSteps limits (S.boundary e) = T true
AdmittedSteps limits (S.path e) = T true
AdmittedSteps limits (S.text e) = T true
AdmittedSteps limits (S.node e) = T true
AdmittedSteps limits (S.sref e) = T true
AdmittedSteps limits (S.aref e) = AdmittedPoint limits e.column_step × AdmittedPoint limits e.row_step
AdmittedSteps limits (S.box e) = T true

-- properties after i others, and ENDEL
pub data AdmittedTail (limits : Limits) (kind : ℕ) : ℕ → List Property → Type 0 where
  end : {i : ℕ} → Admitted limits kind i (empty_record ENDEL) → AdmittedTail limits kind i []
  next : {i : ℕ} {q : Property} {qs : List Property} → Admitted limits kind i (word_record PROPATTR q.attribute) → Admitted limits kind i (string_record PROPVALUE q.value)
      → AdmittedTail limits kind (suc i) qs → AdmittedTail limits kind i (q ∷ qs)

-- the element of index i
pub record AdmittedElement (limits : Limits) (i : ℕ) (w : Said) : Type 0 where
  pub first : Admitted limits (code_of w.body) i (empty_record (code_of w.body))
  pub options : All (Admitted limits (code_of w.body) 0) (option_records w.flags w.plex [])
  pub body : All (Admitted limits (code_of w.body) 0) (body_rest w.body)
  pub steps : AdmittedSteps limits w.body
  pub tail : AdmittedTail limits (code_of w.body) 0 w.properties

-- elements from index i on
pub data AdmittedElements (limits : Limits) : ℕ → List Said → Type 0 where
  no_element : {i : ℕ} → AdmittedElements limits i []
  one_element : {i : ℕ} {w : Said} {ws : List Said} → AdmittedElement limits i w → AdmittedElements limits (suc i) ws → AdmittedElements limits i (w ∷ ws)

pub record AdmittedStructure (limits : Limits) (s : Structure) : Type 0 where
  pub stamps : Admitted limits 0 0 (stamps_record s.stamps)
  pub name : Admitted limits 0 0 (string_record STRNAME s.name)
  pub elements : AdmittedElements limits 0 s.elements

-- ---- the grammar alone admits all

all-free : (kind : ℕ) (rs : List Rec) → All (Admitted unlimited kind 0) rs
all-free kind [] = done
all-free kind (r ∷ rs) = more refl (all-free kind rs)

steps-free : (w : SaidBody) → AdmittedSteps unlimited w
steps-free (S.boundary e) = tt
steps-free (S.path e) = tt
steps-free (S.text e) = tt
steps-free (S.node e) = tt
steps-free (S.sref e) = tt
steps-free (S.aref e) = (record { x = refl; y = refl }, record { x = refl; y = refl })
steps-free (S.box e) = tt

tail-free : (kind i : ℕ) (qs : List Property) → AdmittedTail unlimited kind i qs
tail-free kind i [] = end refl
tail-free kind i (q ∷ qs) = next refl refl (tail-free kind (suc i) qs)

element-free : (i : ℕ) (w : Said) → AdmittedElement unlimited i w
element-free i w = record {
  first = refl;
  options = all-free (code_of w.body) (option_records w.flags w.plex []);
  body = all-free (code_of w.body) (body_rest w.body);
  steps = steps-free w.body;
  tail = tail-free (code_of w.body) 0 w.properties;
}

elements-free : (i : ℕ) (ws : List Said) → AdmittedElements unlimited i ws
elements-free i [] = no_element
elements-free i (w ∷ ws) = one_element (element-free i w) (elements-free (suc i) ws)

pub structure-free : (s : Structure) → AdmittedStructure unlimited s
structure-free s = record { stamps = refl; name = refl; elements = elements-free 0 s.elements }
