-- Block 0 checked: 23, 6, 24, 25, one law for each way out of the code; and how long its records are. Assumes nothing.
use mathlib.Core.Path.{◌≡◌, refl, sym, ap, ◌∙◌, subst}
use mathlib.Core.Bool.{Bool, true, false, not}
use mathlib.Core.Option.{Option, some}
use mathlib.Core.List.{List, [], ◌∷◌}
use Prim.Native.Nat.{ℕ, ◌+◌, ◌%◌, ◌≤◌, ◌<◌}
use native.Mathlib.Omega.{arith}
use lib.Dec.{leb}
use lib.ListN.{length, length-append}
use lib.Ieee.{Float}
use borrow.Author.Tests.{le-leb, lt-leb, not-true, not-false}
use Rattle.refusal.specs.declared.Refusal.TheVariants as R
use Rattle.big_endian.proofs.BigLaws.{length-bytes_of}
use Rattle.conversion.proofs.MadeLaws.{need-on, need-off}
use Rattle.sheet.specs.Library.{LibraryHead, library_head_of}
use Rattle.stream.specs.Record.{stream_bytes}
use Rattle.stream.specs.Records.{word_record, string_record}
use Rattle.stream.specs.Library.{HEADER, LIBNAME, version, begin_record, units_record, file_head_records, file_head_bytes}
use Rattle.cell.specs.Stamps.{stamps_fit}
use Rattle.library.specs.Library.{max_library_name_length, file_head_of}
use Rattle.records.proofs.RecordLaws.{length-first, length-padded}
use Rattle.block_places.specs.code.Place.{words_from, string_at, double_at}
use Rattle.walk.proofs.HeadLaws.{length-words, words-bytes}
use Rattle.std.specs.Prelude as Code
use Rattle.std.specs.Prelude.{Result, Ok, Err, Some, None, IsErrAnd}
use Rattle.std.specs.Option.{ok_or}
use Rattle.std.proofs.lemmas.Result.{err_from_is_err_and}
use Rattle.refusal.specs.declared.Refusal.{Refusal}
use Rattle.library_head.specs.declared.Units.{Units}
use Rattle.library_head.specs.declared.HeadParts.{HeadParts}
use Rattle.library_head.specs.declared.HeadChecked.{HeadChecked}
use Rattle.library_head.specs.code.Head.{library_head_at, PartsIn, FormRead, head_encoded, UnitsRead, units_step, head_step, file_head_at, HeadRead}

-- HEADER of 6 bytes, BGNLIB of 28, LIBNAME of 4 and the name, made even, UNITS of 20
pub head-length : (b : List ℕ) (p : HeadParts) → length (file_head_bytes (file_head_at b p)) ≡ 58 + length (string_at b 0) + length (string_at b 0) % 2
unfolding file_head_at file_head_records stream_bytes
head-length b p =
    let f = file_head_at b p in
    let units = units_record f.user_unit f.database_unit in
    let named = string_record LIBNAME f.name in
    let dated = begin_record f.stamps in
    let w = length-first (word_record HEADER version) (dated ∷ named ∷ units ∷ []) in
    let v = length-bytes_of 2 version in
    let s = length-first dated (named ∷ units ∷ []) in
    let t = words-bytes f.stamps in
    let l = length-words 12 b p.stamps in
    let n = length-first named (units ∷ []) in
    let m = length-padded (string_at b 0) in
    let u = length-first units [] in
    let a = length-append f.user_unit f.database_unit in
    let x = length-bytes_of 8 p.user in
    let y = length-bytes_of 8 p.database in
    omega arith

-- what `ok_or(e)?` hands on
pub handed-out : {A B : Type 0} (e r : Refusal) (o : Code.Option A) (w : Result B Refusal) → IsErrAnd w (λ y. y ≡ r) → Err r ≡ ok_or o e → w ≡ Err e
handed-out {A} {B} e r o w m h = let p = err_from_is_err_and w m in p.1 ∙ ap refuse (p.2 ∙ ap error h ∙ by o)
  where
    refuse : Refusal → Result B Refusal
    refuse y = Err y

    error : Result A Refusal → Refusal
    error (Err y) = y
    error (Ok x) = e

    by : (o : Code.Option A) → error (ok_or o e) ≡ e
    by Code.None = refl
    by (Code.Some x) = refl

module _ (d : Float) (b : List ℕ) where
  pub form-stop : {r : Code.Option ℕ} → FormRead b r → r ≡ None → HeadRead d b (library_head_of b) (Err R.LibraryForm)
  form-stop w e = record { step = sym (ap (head_step d) (subst (FormRead b) e w).form); places = tt }

  module _ {p : ℕ} {r : Code.Option ℕ} (w : FormRead b r) (e : r ≡ Some p) where
    pub parts_in : PartsIn b p
    parts_in = (subst (FormRead b) e w).places

    pub parts-checked : {s : Result HeadChecked Refusal} → HeadRead d b (some (library_head_at b p)) s → HeadRead d b (library_head_of b) s
    parts-checked {s} v = subst (λ (x : Option LibraryHead). HeadRead d b x s) (sym (subst (FormRead b) e w).form) v

  -- the user unit stands at p; t is the answer on the stamps
  module _ (p : ℕ) (t : Bool) (f : t ≡ stamps_fit (words_from 12 b (p + 8))) where
    abbrev head : LibraryHead
    head = library_head_at b p

    pub stamps-stop : not t ≡ true → HeadRead d b (some head) (Err R.Stamp)
    stamps-stop g = record { step = sym (need-off (stamps_fit head.stamps) R.Stamp (units_step head (file_head_of d head)) (sym f ∙ not-true t g)); places = tt }

    -- x is the user unit, and u the answer on the reals
    module _ (g : not t ≡ false) {x : Float} (i : x ≡ double_at b p) (u : Code.Option Units) (w : UnitsRead x d u) where
      by_units : head_step d (some head) ≡ units_step head (head_encoded head u)
      by_units =
          need-on (stamps_fit head.stamps) R.Stamp (units_step head (file_head_of d head)) (sym f ∙ not-false t g)
          ∙ ap (units_step head) (w.reals head (sym i))

      pub units-stop : u ≡ None → HeadRead d b (some head) (Err R.LibraryUnits)
      units-stop e = record { step = sym (by_units ∙ ap (λ (v : Code.Option Units). units_step head (head_encoded head v)) e); places = tt }

      -- n is the name
      module _ (v : Units) (e : u ≡ Some v) (n : List ℕ) (k : n ≡ string_at b 0) where
        abbrev parts : HeadParts
        parts = record { stamps = p + 8; user = v.user; database = v.database }

        by_parts : head_step d (some head) ≡ units_step head (head_encoded head (Some v))
        by_parts = by_units ∙ ap (λ (v : Code.Option Units). units_step head (head_encoded head v)) e

        pub name-stop : max_library_name_length < length n → HeadRead d b (some head) (Err R.LibraryName)
        name-stop l =
            let m : max_library_name_length < length (string_at b 0) = omega (arith, ap length k) in
            record { step = sym (by_parts ∙ need-off (leb (length (string_at b 0)) max_library_name_length) R.LibraryName _ (lt-leb (length (string_at b 0)) max_library_name_length m)); places = tt }

        pub head_passed : PartsIn b p → length n ≤ max_library_name_length → HeadRead d b (some head) (Ok (record { parts = parts; length = 58 + length n + length n % 2 }))
        unfolding file_head_at
        head_passed q l =
            let j = ap length k in
            let m : length (string_at b 0) ≤ max_library_name_length = omega arith in
            let z = head-length b parts in
            record {
              step = sym (by_parts ∙ need-on (leb (length (string_at b 0)) max_library_name_length) R.LibraryName _ (le-leb (length (string_at b 0)) max_library_name_length m));
              places = record {
                places = record { name_in = q.name_in; name-short = m; stamps-in = q.stamps-in };
                count = ap (λ (c : ℕ). 58 + c + c % 2) j ∙ sym z;
                small = omega arith;
              };
            }
