-- Each part of an element puts its own records in front of the rest, and an element has at least one. Assumes nothing.
use mathlib.Core.Path.{◌≡◌, refl, sym, ap, ◌∙◌}
use mathlib.Core.Option.{Option, none, some}
use mathlib.Core.List.{List, [], ◌∷◌, ◌++◌}
use Prim.Native.Nat.{ℕ, ◌+◌, ◌<◌}
use native.Mathlib.Omega.{arith}
use lib.ListN.{length, drop, length-append}
use lib.IntN.{ℤ}
use Rattle.stream.specs.Record.{Rec, BOUNDARY, PATH, SREF, AREF, TEXT, NODE, BOX}
use Rattle.stream.specs.Structure.{Property, Strans, SaidBody, Said}
use Rattle.stream.specs.Structure as S
use Rattle.stream.specs.Records.{empty_record, opt, strans_records, shape_records, path_records, text_records, sref_records, aref_records, body_records, tail_records, option_records, with_options, element_records}

opt-append : {A : Type 0} (f : A → Rec) (x : Option A) (a b : List Rec) → opt f x a ++ b ≡ opt f x (a ++ b)
unfolding opt
opt-append f none a b = refl
opt-append f (some v) a b = refl

pub strans-append : (t : Option Strans) (a b : List Rec) → strans_records t a ++ b ≡ strans_records t (a ++ b)
unfolding strans_records
strans-append none a b = refl
strans-append (some t) a b = simp opt-append

tail-append : (qs : List Property) (a b : List Rec) → tail_records qs a ++ b ≡ tail_records qs (a ++ b)
unfolding tail_records
tail-append [] a b = refl
tail-append (q ∷ qs) a b = simp (tail-append qs)

pub body-append : (w : SaidBody) (a b : List Rec) → body_records w a ++ b ≡ body_records w (a ++ b)
unfolding shape_records path_records text_records sref_records aref_records
body-append (S.boundary e) a b = refl
body-append (S.path e) a b = simp opt-append
body-append (S.text e) a b = simp (opt-append, strans-append)
body-append (S.node e) a b = refl
body-append (S.sref e) a b = simp strans-append
body-append (S.aref e) a b = simp strans-append
body-append (S.box e) a b = refl

-- ---- the first record

-- the code of a body's first record
abbrev pub code_of : SaidBody → ℕ
code_of (S.boundary e) = BOUNDARY
code_of (S.path e) = PATH
code_of (S.text e) = TEXT
code_of (S.node e) = NODE
code_of (S.sref e) = SREF
code_of (S.aref e) = AREF
code_of (S.box e) = BOX

pub first-is : (w : SaidBody) (rest : List Rec) → body_records w rest ≡ empty_record (code_of w) ∷ drop 1 (body_records w rest)
unfolding shape_records path_records text_records sref_records aref_records
first-is (S.boundary e) rest = refl
first-is (S.path e) rest = refl
first-is (S.text e) rest = refl
first-is (S.node e) rest = refl
first-is (S.sref e) rest = refl
first-is (S.aref e) rest = refl
first-is (S.box e) rest = refl

options-append : (f : Option ℕ) (p : Option ℤ) (r : Rec) (a b : List Rec) → with_options f p (r ∷ a) ++ b ≡ with_options f p (r ∷ a ++ b)
unfolding with_options
options-append f p r a b = simp opt-append

-- the first record, the options, and what the body has after its first
pub element-first : (w : Said) (rest : List Rec) → element_records w rest ≡ empty_record (code_of w.body) ∷ option_records w.flags w.plex (drop 1 (body_records w.body (tail_records w.properties rest)))
unfolding with_options
element-first w rest = ap (with_options w.flags w.plex) (first-is w.body (tail_records w.properties rest))

pub element-append : (w : Said) (a b : List Rec) → element_records w a ++ b ≡ element_records w (a ++ b)
element-append w a b =
    ap (λ (l : List Rec). with_options w.flags w.plex l ++ b) (first-is w.body (tail_records w.properties a))
    ∙ options-append w.flags w.plex _ _ b
    ∙ ap (λ (l : List Rec). with_options w.flags w.plex (l ++ b)) (sym (first-is w.body (tail_records w.properties a)))
    ∙ ap (with_options w.flags w.plex) (body-append w.body (tail_records w.properties a) b ∙ ap (body_records w.body) (tail-append w.properties a b))

pub element-longer : (w : Said) (rest : List Rec) → length rest < length (element_records w rest)
element-longer w rest =
    let e = ap length (element-append w [] rest) in
    let f = ap length (element-first w []) in
    omega (arith, length-append (element_records w []) rest)
