-- The head measured: one law for each way out of the code. Assumes nothing.
use Rattle.std.specs.Prelude.{Result, Ok, Err, Option as CodeOption}
use Rattle.std.specs.Prelude as Code
use mathlib.Core.Path.{◌≡◌, refl, sym, ap, ◌∙◌}
use mathlib.Core.Bool.{Bool, true, false, ◌&&◌}
use mathlib.Core.Option.{some}
use mathlib.Core.List.{List, [], ◌∷◌}
use Prim.Native.Nat.{ℕ, zero, suc, ◌+◌, ◌*◌, ◌%◌, ◌≤◌}
use native.Mathlib.Omega.{arith}
use lib.Dec.{T, leb, leb→le}
use lib.ListN.{length, length-append}
use lib.Ieee.Fits.{and_r}
use Rattle.refusal.specs.declared.Refusal.TheVariants as R
use Rattle.big_endian.proofs.BigLaws.{length-bytes_of}
use Rattle.sheet.specs.Element.{Head, head_of}
use Rattle.stream.specs.Strings.{padded}
use Rattle.stream.specs.Record.{STRNAME}
use Rattle.stream.specs.Records.{words_bytes, stamps_record, string_record}
use Rattle.cell.specs.Limits.{within, max_name_length}
use Rattle.cell.specs.Stamps.{stamps_fit}
use Rattle.cell.specs.Names.{name_bytes, is_name}
use Rattle.records.proofs.RecordLaws.{length-record, length-padded}
use Rattle.block_places.specs.declared.HeadPlaces.{HeadPlaces}
use Rattle.block_places.specs.code.Place.{values_from, words_from, string_at}
use Rattle.block_places.specs.code.Places.{head_at}
use Rattle.forms.specs.code.Checks.{HeadRead}
use Rattle.walk.specs.code.Walk.{head_bytes, head_measured}

-- ---- lengths

pub length-words : (n : ℕ) (b : List ℕ) (at : ℕ) → length (words_from n b at) ≡ n
unfolding values_from
length-words zero b at = refl
length-words (suc n) b at = ap suc (length-words n b (at + 2))

pub words-bytes : (vs : List ℕ) → length (words_bytes vs) ≡ 2 * length vs
words-bytes [] = refl
words-bytes (v ∷ vs) =
    let h = words-bytes vs in
    let l = length-bytes_of 2 v in
    simp length-append (omega arith)

-- BGNSTR of 28 bytes, STRNAME of 4 and the name, made even
pub head-length : (h : Head) → length h.stamps ≡ 12 → length (head_bytes h) ≡ 32 + length h.name + length h.name % 2
unfolding head_bytes
head-length h e =
    let a = length-record (stamps_record h.stamps) in
    let b = length-record (string_record STRNAME (padded h.name)) in
    let w = words-bytes h.stamps in
    let p = length-padded h.name in
    simp length-append (omega arith)

pub name-short : (s : List ℕ) → is_name s ≡ true → length s ≤ max_name_length
unfolding is_name
name-short s e = go (within 1 (length s) max_name_length) (name_bytes s) e (λ t. leb→le (length s) max_name_length (and_r (leb 1 (length s)) (leb (length s) max_name_length) t))
  where
    go : (a b : Bool) → (a && b) ≡ true → (T a → length s ≤ max_name_length) → length s ≤ max_name_length
    go true b e k = k tt
    go false b e k = let z : ◌≡◌ {A = ℕ} 0 1 = cc in absurd (omega arith)

-- u is the answer on the name n
pub head_small : (n : List ℕ) (u : Bool) → u ≡ is_name n → u ≡ true → 32 + length n + length n % 2 ≤ 64
head_small n u i g = let l = name-short n (sym i ∙ g) in omega arith

-- ---- the order of its checks

stamps-off : (h : Head) → stamps_fit h.stamps ≡ false → head_measured (some h) ≡ Err R.Stamp
stamps-off h e = rw e

name-off : (h : Head) → stamps_fit h.stamps ≡ true → is_name h.name ≡ false → head_measured (some h) ≡ Err R.Name
name-off h e f = rw (e, f)

head-on : (h : Head) → stamps_fit h.stamps ≡ true → is_name h.name ≡ true → head_measured (some h) ≡ Ok (length (head_bytes h))
head-on h e f = rw (e, f)

-- ---- the ways out

module _ {b : List ℕ} {s : HeadPlaces} (w : HeadRead b (Code.Some s)) {t : Bool} (f : t ≡ stamps_fit (words_from 12 b s.stamps)) where
  pub stamps-stop : t ≡ false → Err R.Stamp ≡ head_measured (head_of b)
  unfolding head_at
  stamps-stop g = sym (ap head_measured w.form ∙ stamps-off (head_at b s) (sym f ∙ g))

  -- u is the answer on the name n
  module _ (passed : t ≡ true) {n : List ℕ} (k : n ≡ string_at b s.name) {u : Bool} (i : u ≡ is_name n) where
    named : is_name (string_at b s.name) ≡ u
    named = sym (i ∙ ap is_name k)

    pub name-stop : u ≡ false → Err R.Name ≡ head_measured (head_of b)
    unfolding head_at
    name-stop g = sym (ap head_measured w.form ∙ name-off (head_at b s) (sym f ∙ passed) (named ∙ g))

    pub head-through : u ≡ true → Ok (32 + length n + length n % 2) ≡ head_measured (head_of b)
    unfolding head_at
    head-through g =
        let l : length (head_bytes (head_at b s)) ≡ 32 + length n + length n % 2
        = head-length (head_at b s) (length-words 12 b s.stamps) ∙ ap (λ (z : List ℕ). 32 + length z + length z % 2) (sym k) in
        sym (ap head_measured w.form ∙ head-on (head_at b s) (sym f ∙ passed) (named ∙ g) ∙ ap Ok l)
