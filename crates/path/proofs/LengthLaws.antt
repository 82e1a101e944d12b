-- The bytes of a path: those before the points, then the points; and how many there are. Assumes nothing.
use mathlib.Core.Path.{◌≡◌, refl, sym, ap, ap₂, ◌∙◌, subst}
use mathlib.Core.Bool.{Bool, cond}
use mathlib.Core.Option.{Option, none, some}
use mathlib.Core.List.{List, [], ◌∷◌, ◌++◌, append-nil, append_assoc}
use Prim.Native.Nat.{ℕ, ◌+◌, ◌*◌, ◌≤◌}
use native.Mathlib.Omega.{arith}
use lib.ListN.{length, length-append}
use lib.IntN.{ℤ}
use Rattle.std.specs.Prelude as Code
use Rattle.std.specs.Prelude.{Option as CodeOption}
use Rattle.units.specs.Point.{Point}
use Rattle.conversion.specs.declared.Entry.{Entry}
use Rattle.sheet.specs.Element as S
use Rattle.stream.specs.Record.{Rec, PATH, LAYER, DATATYPE, PATHTYPE, WIDTH, BGNEXTN, ENDEXTN, XY, four_byte, record_bytes, stream_bytes}
use Rattle.stream.specs.Records.{empty_record, word_record, long_record, xy_record, points_bytes, opt, path_records}
use Rattle.big_endian.proofs.BufferLaws.{nothing-at}
use Rattle.records.specs.code.Bytes.{head_bytes, Placed, opt_bytes, opt_length, option_of}
use Rattle.records.proofs.RecordLaws.{placed, then-placed, length-record, then-rest, then-opt}
use Rattle.cell.specs.Write.{is_some}
use Rattle.points.proofs.WalkLaws.{length-bytes}
use Rattle.path.specs.declared.Extent.{Extent}
use Rattle.path.specs.code.Front.{OptExtent, opt_extent, Fits}
use Rattle.path.specs.code.Length.{path_bytes, extent_records, head_records, path_head, extent_length, flags_length, head_length, path_length}

-- ---- a part that may be missing

-- its length by the code's option, and by that of the definitions
pub length_there : {A : Type 0} (n : ℕ) (o : CodeOption A) → opt_length n o ≡ cond (is_some (option_of o)) n 0
length_there n Code.None = refl
length_there n (Code.Some a) = refl

-- ---- rows of records: what comes after does not change those before

module _ (t : List ℕ) where
  cons-split : (r : Rec) (rs ss : List Rec) → stream_bytes rs ≡ stream_bytes ss ++ t → stream_bytes (r ∷ rs) ≡ stream_bytes (r ∷ ss) ++ t
  unfolding stream_bytes
  cons-split r rs ss h = ap (λ (l : List ℕ). record_bytes r ++ l) h ∙ sym (append_assoc (record_bytes r) (stream_bytes ss) t)

  opt-split : {A : Type 0} (f : A → Rec) (x : Option A) (rs ss : List Rec) → stream_bytes rs ≡ stream_bytes ss ++ t → stream_bytes (opt f x rs) ≡ stream_bytes (opt f x ss) ++ t
  unfolding opt
  opt-split f none rs ss h = h
  opt-split f (some a) rs ss h = cons-split (f a) rs ss h

  nil-split : (rs : List Rec) → stream_bytes rs ≡ t → stream_bytes rs ≡ stream_bytes [] ++ t
  unfolding stream_bytes
  nil-split rs h = h

  head-split : (layer datatype : ℕ) (k : Option ℕ) (l : OptExtent) (rs : List Rec) → stream_bytes rs ≡ t
      → stream_bytes (head_records layer datatype k l rs) ≡ stream_bytes (head_records layer datatype k l []) ++ t
  head-split layer datatype k l rs h =
      cons-split (empty_record PATH) _ _ (cons-split (word_record LAYER layer) _ _ (cons-split (word_record DATATYPE datatype) _ _
      (opt-split (word_record PATHTYPE) k _ _ (opt-split (long_record WIDTH) l.width _ _ (opt-split (long_record BGNEXTN) l.begin _ _ (opt-split (long_record ENDEXTN) l.end _ _ (nil-split rs h)))))))

-- the XY: its head, then the points
xy-is : (ps : List (Point ℤ)) (n : ℕ) → length ps ≡ n → stream_bytes (xy_record ps ∷ []) ≡ head_bytes (4 + 8 * n) XY four_byte ++ points_bytes ps
unfolding stream_bytes record_bytes
xy-is ps n h =
    append-nil (record_bytes (xy_record ps))
    ∙ ap (λ (k : ℕ). head_bytes (4 + k) XY four_byte ++ points_bytes ps) (length-bytes ps ∙ ap (λ (k : ℕ). 8 * k) h)

-- the bytes before the points, then the points
pub path-split : (layer datatype : ℕ) (k : Option ℕ) (l : OptExtent) (ps : List (Point ℤ)) (n : ℕ) → length ps ≡ n
    → path_bytes (record { layer = layer; datatype = datatype; path_type = k; width = l.width; begin = l.begin; end = l.end; points = ps }) ≡ path_head layer datatype k l n ++ points_bytes ps
unfolding path_bytes path_records path_head
path-split layer datatype k l ps n h =
    head-split (head_bytes (4 + 8 * n) XY four_byte ++ points_bytes ps) layer datatype k l (xy_record ps ∷ []) (xy-is ps n h)
    ∙ sym (append_assoc (stream_bytes (head_records layer datatype k l [])) (head_bytes (4 + 8 * n) XY four_byte) (points_bytes ps))

-- ---- how many bytes

length-opt : {A : Type 0} (f : A → Rec) (n : ℕ) → ((a : A) → length (record_bytes (f a)) ≡ n) → (x : Option A) (rs : List Rec)
    → length (stream_bytes (opt f x rs)) ≡ cond (is_some x) n 0 + length (stream_bytes rs)
unfolding opt stream_bytes
length-opt f n h none rs = go (length (stream_bytes rs))
  where
    go : (n : ℕ) → n ≡ 0 + n
    go n = omega arith
length-opt f n h (some a) rs = length-append (record_bytes (f a)) (stream_bytes rs) ∙ ap (λ (k : ℕ). k + length (stream_bytes rs)) (h a)

length-cons : (r : Rec) (rs : List Rec) → length (stream_bytes (r ∷ rs)) ≡ 4 + length r.content + length (stream_bytes rs)
unfolding stream_bytes
length-cons r rs = length-append (record_bytes r) (stream_bytes rs) ∙ ap (λ (k : ℕ). k + length (stream_bytes rs)) (length-record r)

length_none : length (stream_bytes []) ≡ 0
unfolding stream_bytes
length_none = refl

pub length-head : (layer datatype : ℕ) (k : Option ℕ) (l : OptExtent) (n : ℕ)
    → length (path_head layer datatype k l n) ≡ flags_length (is_some k) (is_some l.width) (is_some l.begin) (is_some l.end)
unfolding path_head
length-head layer datatype k l n =
    let w4 = opt (long_record ENDEXTN) l.end [] in
    let w3 = opt (long_record BGNEXTN) l.begin w4 in
    let w2 = opt (long_record WIDTH) l.width w3 in
    let w1 = opt (word_record PATHTYPE) k w2 in
    length-append (stream_bytes (head_records layer datatype k l [])) (head_bytes (4 + 8 * n) XY four_byte)
    ∙ go _ _ _ _ _ _ _ _ _ _ _ _ (length-cons (empty_record PATH) (word_record LAYER layer ∷ word_record DATATYPE datatype ∷ w1))
    (length-cons (word_record LAYER layer) (word_record DATATYPE datatype ∷ w1)) (length-cons (word_record DATATYPE datatype) w1)
    (length-opt (word_record PATHTYPE) 6 (λ a. length-record (word_record PATHTYPE a)) k w2)
    (length-opt (long_record WIDTH) 8 (λ a. length-record (long_record WIDTH a)) l.width w3)
    (length-opt (long_record BGNEXTN) 8 (λ a. length-record (long_record BGNEXTN a)) l.begin w4)
    (length-opt (long_record ENDEXTN) 8 (λ a. length-record (long_record ENDEXTN a)) l.end [])
    length_none
  where
    go : (s1 s2 s3 s4 s5 s6 s7 s8 a b c d : ℕ) → s1 ≡ 4 + 0 + s2 → s2 ≡ 4 + 2 + s3 → s3 ≡ 4 + 2 + s4 → s4 ≡ a + s5 → s5 ≡ b + s6 → s6 ≡ c + s7 → s7 ≡ d + s8 → s8 ≡ 0
        → s1 + 4 ≡ 20 + (a + (b + (c + d)))
    go s1 s2 s3 s4 s5 s6 s7 s8 a b c d h1 h2 h3 h4 h5 h6 h7 h8 = omega arith

pub length-path : (layer datatype : ℕ) (k : Option ℕ) (l : OptExtent) (ps : List (Point ℤ)) (n : ℕ) → length ps ≡ n
    → length (path_bytes (record { layer = layer; datatype = datatype; path_type = k; width = l.width; begin = l.begin; end = l.end; points = ps }))
    ≡ flags_length (is_some k) (is_some l.width) (is_some l.begin) (is_some l.end) + 8 * n
length-path layer datatype k l ps n h =
    ap length (path-split layer datatype k l ps n h) ∙ length-append (path_head layer datatype k l n) (points_bytes ps)
    ∙ ap₂ ◌+◌ (length-head layer datatype k l n) (length-bytes ps ∙ ap (λ (k : ℕ). 8 * k) h)

-- ---- written one after the other

resized : {bs d cur : List ℕ} {n m at to : ℕ} → n ≡ m → Placed bs n d cur at to → Placed bs m d cur at to
resized {bs} {d} {cur} {at = at} {to = to} e w = subst (λ (k : ℕ). Placed bs k d cur at to) e w

-- no record
none-at : (d : List ℕ) (at : ℕ) → at ≤ length d → Placed (stream_bytes []) 0 d d at at
unfolding stream_bytes
none-at d at h = placed (nothing-at d at h) refl

pub extent_at : (x : Extent) {d d1 d2 d3 : List ℕ} {at a1 a2 a3 : ℕ}
    → Placed (opt_bytes (long_record WIDTH) (option_of x.width)) (opt_length 8 x.width) d d1 at a1
    → Placed (opt_bytes (long_record BGNEXTN) (option_of x.begin)) (opt_length 8 x.begin) d1 d2 a1 a2
    → Placed (opt_bytes (long_record ENDEXTN) (option_of x.end)) (opt_length 8 x.end) d2 d3 a2 a3
    → Placed (stream_bytes (extent_records (opt_extent x) [])) (extent_length x) d d3 at a3
extent_at x {d3 = d3} {a3 = a3} u v w =
    let c = w.wrote.count in
    let f = w.wrote.fits in
    let s = w.long in
    let k : a3 ≤ length d3 = omega arith in
    resized (go (length_there 8 x.width) (length_there 8 x.begin) (length_there 8 x.end))
    (then-opt (long_record WIDTH) (option_of x.width) _ u (then-opt (long_record BGNEXTN) (option_of x.begin) _ v
    (then-opt (long_record ENDEXTN) (option_of x.end) [] w (none-at d3 a3 k))))
  where
    go : {a b c a' b' c' : ℕ} → a ≡ a' → b ≡ b' → c ≡ c' → a + (b + (c + 0)) ≡ a' + (b' + c')
    go h i j = omega arith

pub head_at : (layer datatype : ℕ) (k : CodeOption ℕ) (x : Extent) (n : ℕ) {d d1 d2 d3 d4 d5 d6 : List ℕ} {at a1 a2 a3 a4 a5 a6 : ℕ}
    → Placed (record_bytes (empty_record PATH)) 4 d d1 at a1 → Placed (record_bytes (word_record LAYER layer)) 6 d1 d2 a1 a2
    → Placed (record_bytes (word_record DATATYPE datatype)) 6 d2 d3 a2 a3 → Placed (opt_bytes (word_record PATHTYPE) (option_of k)) (opt_length 6 k) d3 d4 a3 a4
    → Placed (stream_bytes (extent_records (opt_extent x) [])) (extent_length x) d4 d5 a4 a5 → Placed (head_bytes (4 + 8 * n) XY four_byte) 4 d5 d6 a5 a6
    → Placed (path_head layer datatype (option_of k) (opt_extent x) n) (head_length (is_some (option_of k)) x) d d6 at a6
unfolding path_head
head_at layer datatype k x n p q r s t u =
    resized (go (extent_length x) (length_there 6 k))
    (then-placed (then-rest (empty_record PATH) _ p (then-rest (word_record LAYER layer) _ q (then-rest (word_record DATATYPE datatype) _ r (then-opt (word_record PATHTYPE) (option_of k) _ s t)))) u)
  where
    go : {a a' : ℕ} (b : ℕ) → a ≡ a' → 4 + (6 + (6 + (a + b))) + 4 ≡ 20 + (a' + b)
    go b h = omega arith

-- ---- the room that the sheet asks for is the room that the code counts on

pub path_room : (p : S.Path) (n : ℕ) (x : Extent) (e : Entry) → Fits p n x e → path_length p ≡ head_length (is_some p.path_type) x + 8 * length p.points
unfolding path_length
path_room p n x e f =
    sym (ap (λ (t : Bool). flags_length (is_some p.path_type) t (is_some (option_of x.begin)) (is_some (option_of x.end)) + 8 * length p.points) f.wide_is
    ∙ ap₂ (λ (t u : Bool). flags_length (is_some p.path_type) (is_some p.width) t u + 8 * length p.points) f.begun-is f.ended_is)
