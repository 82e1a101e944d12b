-- The file's own records and its report: what they are made of, and how long they are. Assumes nothing.
use mathlib.Core.Path.{◌≡◌, refl, ap, ◌∙◌, subst}
use mathlib.Core.Bool.{Bool, true, false, cond}
use mathlib.Core.Option.{Option, none, some}
use mathlib.Core.List.{List, [], ◌∷◌}
use Prim.Native.Nat.{ℕ, suc, ◌+◌, ◌*◌, ◌≤◌}
use native.Mathlib.Omega.{arith}
use lib.Dec.{T}
use lib.ListN.{length, length-append}
use lib.Ieee.{Float}
use lib.Ieee.Positive.{positive}
use Rattle.big_endian.specs.Big.{Bytes, bytes_of}
use Rattle.big_endian.proofs.BigLaws.{length-bytes_of}
use Rattle.big_endian.proofs.BytesLaws.{bytes-nil, bytes-append, bytes-bytes_of, bytes-joined}
use Rattle.gds_format.specs.Real8.{real8}
use Rattle.conversion.specs.Entry.{report_with}
use Rattle.conversion.proofs.EntryLaws.{length-report}
use Rattle.sheet.specs.Library.{LibraryHead}
use Rattle.sheet.proofs.Fine.{FineLibraryHead}
use Rattle.stream.specs.Record.{record_bytes, stream_bytes}
use Rattle.stream.specs.Records.{empty_record, word_record, string_record}
use Rattle.stream.specs.Strings.{padded}
use Rattle.stream.specs.Library.{HEADER, LIBNAME, ENDLIB, version, FileHead, begin_record, units_record, file_head_records, file_head_bytes, file_end_bytes}
use Rattle.stream.proofs.RecordLaws.{bytes-record}
use Rattle.stream.proofs.StringLaws.{padded-even}
use Rattle.cell.proofs.PartLaws.{real8-bytes}
use Rattle.library.specs.Library.{WrittenCell, file_head_for, head_with, file_head_of, report_from, library_entry_length, entries_in, max_library_name_length}
use Rattle.library.specs.Order.{Encodable, UnitsRefused, user_not_positive, user_not_encodable, database_not_encodable}

-- ---- 24 or the file's own records

module _ (d : Float) (h : LibraryHead) where
  pub data Encoding : Option FileHead → Type 0 where
    refusing : UnitsRefused h.user_unit d → Encoding none
    encoding : (e : Encodable h.user_unit d) → Encoding (some (file_head_for h e.user e.database))

  pub encodes : Encoding (file_head_of d h)
  unfolding file_head_of
  encodes = by_sign (positive h.user_unit) (λ n. n) (λ t. t)
    where
      by-database : T (positive h.user_unit) → (u : List ℕ) → real8 h.user_unit ≡ some u → (y : Option (List ℕ)) → real8 d ≡ y → Encoding (head_with h (some u) y)
      by-database p u e none f = refusing (database_not_encodable f)
      by-database p u e (some b) f = encoding (record { positive-user = p; user = u; user-is = e; database = b; database-is = f })

      by-user : T (positive h.user_unit) → (x : Option (List ℕ)) → real8 h.user_unit ≡ x → Encoding (head_with h x (real8 d))
      by-user p none e = refusing (user_not_encodable e)
      by-user p (some u) e = by-database p u e (real8 d) refl

      by_sign : (t : Bool) → ((T t → ⊥) → T (positive h.user_unit) → ⊥) → (T t → T (positive h.user_unit)) → Encoding (cond t (head_with h (real8 h.user_unit) (real8 d)) none)
      by_sign true f g = by-user (g tt) (real8 h.user_unit) refl
      by_sign false f g = refusing (user_not_positive (f (λ z. z)))

-- ---- bytes

-- the file's own records are bytes
pub head_bytes : (d : Float) (h : LibraryHead) (f : FileHead) → FineLibraryHead h → length h.name ≤ max_library_name_length → file_head_of d h ≡ some f → Bytes (file_head_bytes f)
unfolding file_head_records stream_bytes
head_bytes d h f fine n e = go (file_head_of d h) (encodes d h) e
  where
    front : (e : Encodable h.user_unit d) → Bytes (file_head_bytes (file_head_for h e.user e.database))
    front e =
        bytes-append (record_bytes (word_record HEADER version)) _ (bytes-record (word_record HEADER version) (omega arith) (omega arith) (bytes-bytes_of 2 version))
        (bytes-append (record_bytes (begin_record h.stamps)) _ (bytes-record (begin_record h.stamps) (omega arith) (omega arith) (bytes-joined (bytes_of 2) (bytes-bytes_of 2) h.stamps))
        (bytes-append (record_bytes (string_record LIBNAME (padded h.name))) _ (bytes-record (string_record LIBNAME (padded h.name)) (omega arith) (omega arith) (padded-even h.name 65530 n (omega arith) fine.name.bytes).bytes)
        (bytes-append (record_bytes (units_record e.user e.database)) [] (bytes-record (units_record e.user e.database) (omega arith) (omega arith) (bytes-append e.user e.database (real8-bytes h.user_unit e.user e.user-is) (real8-bytes d e.database e.database-is))) bytes-nil)))

    go : (x : Option FileHead) → Encoding d h x → x ≡ some f → Bytes (file_head_bytes f)
    go x (refusing u) e = let z : ◌≡◌ {A = ℕ} 0 1 = cc in absurd (omega arith)
    go x (encoding u) e = let z : file_head_for h u.user u.database ≡ f = cc in subst (λ (y : FileHead). Bytes (file_head_bytes y)) z (front u)

pub end-bytes : Bytes file_end_bytes
unfolding stream_bytes
end-bytes = bytes-append (record_bytes (empty_record ENDLIB)) [] (bytes-record (empty_record ENDLIB) (omega arith) (omega arith) bytes-nil) bytes-nil

-- ---- the report

-- as long as its entries are many
pub report-length : (c : ℕ) (ws : List WrittenCell) → length (report_from c ws) ≡ library_entry_length * entries_in ws
unfolding report_from entries_in
report-length c [] = refl
report-length c (w ∷ ws) =
    let a : length (report_with (bytes_of 4 c) w.entries) ≡ length w.entries * 37
    = length-report (bytes_of 4 c) w.entries ∙ ap (λ (n : ℕ). length w.entries * (n + 33)) (length-bytes_of 4 c) in
    let b = report-length (suc c) ws in
    simp length-append (omega arith)
