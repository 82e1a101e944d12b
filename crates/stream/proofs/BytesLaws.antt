-- A structure's bytes, element by element: "each element is written into the part of the output that starts where the last ended" (document 01, "Result one"). Their length is the sum of the records'. Assumes nothing.
use mathlib.Core.Path.{◌≡◌, refl, sym, ap, ◌∙◌}
use mathlib.Core.List.{List, [], ◌∷◌, ◌++◌, append_assoc}
use Prim.Native.Nat.{ℕ, ◌+◌}
use lib.ListN.{length, length-append}
use Rattle.stream.specs.Record.{Rec, STRNAME, ENDSTR, record_bytes, stream_bytes}
use Rattle.stream.specs.Structure.{Said, Structure}
use Rattle.stream.specs.Records.{empty_record, string_record, stamps_record, element_records, elements_records, element_bytes, elements_bytes, structure_records}
use Rattle.stream.proofs.AppendLaws.{element-append}

-- ---- records in a row

pub stream-append : (a b : List Rec) → stream_bytes (a ++ b) ≡ stream_bytes a ++ stream_bytes b
unfolding stream_bytes
stream-append [] b = refl
stream-append (r ∷ a) b = ap (λ (s : List ℕ). record_bytes r ++ s) (stream-append a b) ∙ sym (append_assoc (record_bytes r) (stream_bytes a) (stream_bytes b))

-- the sum of the records' lengths
abbrev pub lengths : List Rec → ℕ
lengths [] = 0
lengths (r ∷ rs) = length (record_bytes r) + lengths rs

-- the length of a stream is the sum of its records'
pub stream-length : (rs : List Rec) → length (stream_bytes rs) ≡ lengths rs
unfolding stream_bytes
stream-length [] = refl
stream-length (r ∷ rs) = length-append (record_bytes r) (stream_bytes rs) ∙ ap (λ (n : ℕ). length (record_bytes r) + n) (stream-length rs)

-- ---- a structure

-- BGNSTR and STRNAME, and ENDSTR
unfoldable pub head_bytes : List ℕ → List ℕ → List ℕ
head_bytes stamps name = record_bytes (stamps_record stamps) ++ record_bytes (string_record STRNAME name)

abbrev pub end_bytes : List ℕ
end_bytes = record_bytes (empty_record ENDSTR)

elements-bytes : (ws : List Said) (rest : List Rec) → stream_bytes (elements_records ws rest) ≡ elements_bytes ws ++ stream_bytes rest
unfolding elements_bytes element_bytes
elements-bytes [] rest = refl
elements-bytes (w ∷ ws) rest =
    ap stream_bytes (sym (element-append w [] (elements_records ws rest)))
    ∙ stream-append (element_records w []) (elements_records ws rest)
    ∙ ap (λ (s : List ℕ). stream_bytes (element_records w []) ++ s) (elements-bytes ws rest)
    ∙ sym (append_assoc (stream_bytes (element_records w [])) (elements_bytes ws) (stream_bytes rest))

end-bytes : stream_bytes (empty_record ENDSTR ∷ []) ≡ end_bytes
unfolding stream_bytes record_bytes
end-bytes = refl

-- A structure's bytes: the head's, each element's in turn, the end's.
pub structure-bytes : (s : Structure) → stream_bytes (structure_records s) ≡ head_bytes s.stamps s.name ++ (elements_bytes s.elements ++ end_bytes)
unfolding structure_records head_bytes stream_bytes
structure-bytes s =
    let a = record_bytes (stamps_record s.stamps) in
    let b = record_bytes (string_record STRNAME s.name) in
    ap (λ (t : List ℕ). a ++ (b ++ t)) (elements-bytes s.elements (empty_record ENDSTR ∷ []) ∙ ap (λ (t : List ℕ). elements_bytes s.elements ++ t) end-bytes)
    ∙ sym (append_assoc a b (elements_bytes s.elements ++ end_bytes))
