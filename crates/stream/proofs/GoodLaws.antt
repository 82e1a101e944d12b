-- The records of what fits are of the manual, even and short enough: their bytes hold them. Assumes nothing.
use mathlib.Core.Path.{◌≡◌, refl, ap, ◌∙◌, subst⁻¹}
use mathlib.Core.Option.{Option, none, some}
use mathlib.Core.List.{List, [], ◌∷◌}
use Prim.Native.Nat.{ℕ, ◌*◌, ◌%◌, ◌≤◌, ◌<◌}
use native.Mathlib.Nat.{mul-mod_left}
use native.Mathlib.Omega.{arith}
use lib.Dec.{T, eqb, lit<, lit≤}
use lib.ListN.{length}
use lib.IntN.{ℤ}
use lib.Ieee.Fits.{eq→eqb}
use mir.Val.{of_z}
use mir.Syntax.{w32}
use Rattle.big_endian.specs.Big.{Bytes, bytes_of}
use Rattle.big_endian.proofs.BigLaws.{length-bytes_of}
use Rattle.big_endian.proofs.BytesLaws.{bytes-append, bytes-bytes_of, bytes-joined, length-joined}
use Rattle.units.specs.Point.{Point}
use Rattle.stream.specs.Record.{Rec, BOUNDARY, NODE, DATATYPE, NODETYPE, BOX, no_data, two_byte, eight_byte_real, ascii_string, listed, manual, of_manual}
use Rattle.stream.specs.Structure.{Property, Strans, Shape, SaidBody, Said, Structure}
use Rattle.stream.specs.Structure as S
use Rattle.stream.specs.Records.{long_bytes, real_record, string_record, words_bytes, point_bytes, xy_record, colrow_record, stamps_record, corners_of, opt, strans_records, shape_records, path_records, text_records, sref_records, aref_records, body_records, tail_records, with_options, elements_records, structure_records}
use Rattle.stream.proofs.RecordLaws.{Good}
use Rattle.stream.proofs.Fit.{All, done, more, Opt, present, Word, Long, Even, Real, FitProperty, FitStrans, FitShape, FitBody, FitElement, FitStructure}

-- ---- by the data

-- a number of n bytes, or no data
good-number : (n c k v : ℕ) → T (listed manual c k n) → T (eqb (n % 2) 0) → n < 65532 → Good (record { code = c; data_type = k; content = bytes_of n v })
unfolding of_manual
good-number n c k v t e l =
    let m = length-bytes_of n v in
    record {
      manual = subst⁻¹ (λ (x : ℕ). T (listed manual c k x)) m t;
      even = subst⁻¹ (λ (x : ℕ). T (eqb (x % 2) 0)) m e;
      short = omega arith;
      bytes = bytes-bytes_of n v;
    }

good-real : (c : ℕ) (b : List ℕ) → T (listed manual c eight_byte_real 8) → Real b → Good (real_record c b)
unfolding of_manual
good-real c b t h =
    record {
      manual = subst⁻¹ (λ (n : ℕ). T (listed manual c eight_byte_real n)) h.count t;
      even = subst⁻¹ (λ (n : ℕ). T (eqb (n % 2) 0)) h.count tt;
      short = omega arith;
      bytes = h.bytes;
    }

good-string : (c : ℕ) (s : List ℕ) → (T (eqb (length s % 2) 0) → T (listed manual c ascii_string (length s))) → Even s → Good (string_record c s)
unfolding of_manual
good-string c s t h = record { manual = t h.even; even = h.even; short = h.short; bytes = h.bytes }

bytes-point : (p : Point ℤ) → Bytes (point_bytes p)
bytes-point p = bytes-append (long_bytes p.x) (long_bytes p.y) (bytes-bytes_of 4 (of_z w32 p.x)) (bytes-bytes_of 4 (of_z w32 p.y))

good-points : (ps : List (Point ℤ)) → length ps ≤ 8191 → Good (xy_record ps)
unfolding of_manual manual
good-points ps h =
    let e = length-joined point_bytes 8 (λ p. refl) ps in
    record {
      manual = eq→eqb (ap (λ (n : ℕ). n % 8) e ∙ mul-mod_left (length ps) 8);
      even = eq→eqb (ap (λ (n : ℕ). n % 2) e ∙ go (length ps));
      short = omega arith;
      bytes = bytes-joined point_bytes bytes-point ps;
    }
  where
    go : (n : ℕ) → n * 8 % 2 ≡ 0
    go n = omega arith

good-colrow : (c r : ℕ) → Good (colrow_record c r)
unfolding of_manual manual
good-colrow c r = record { manual = tt; even = tt; short = lit< tt; bytes = bytes-append (bytes_of 2 c) (bytes_of 2 r) (bytes-bytes_of 2 c) (bytes-bytes_of 2 r) }

good-stamps : (vs : List ℕ) → length vs ≡ 12 → Good (stamps_record vs)
unfolding of_manual manual
good-stamps vs h =
    let e : length (words_bytes vs) ≡ 24 = length-joined (bytes_of 2) 2 (λ v. refl) vs ∙ ap (λ (n : ℕ). n * 2) h in
    record { manual = eq→eqb e; even = eq→eqb (ap (λ (n : ℕ). n % 2) e); short = omega arith; bytes = bytes-joined (bytes_of 2) (bytes-bytes_of 2) vs }

good-opt : {A : Type 0} (P : A → Type 0) (f : A → Rec) (x : Option A) (rs : List Rec) → ((a : A) → P a → Good (f a)) → Opt P x → All Good rs → All Good (opt f x rs)
unfolding opt
good-opt P f none rs g h k = k
good-opt P f (some a) rs g (present h) k = more (g a h) k

-- ---- parts of an element

good-strans : (t : Option Strans) (rs : List Rec) → Opt FitStrans t → All Good rs → All Good (strans_records t rs)
unfolding strans_records manual
good-strans none rs h k = k
good-strans (some t) rs (present h) k =
    more (good-number 2 _ _ _ tt tt (lit< tt))
    (good-opt Real _ _ _ (λ b r. good-real _ b tt r) h.magnification
    (good-opt Real _ _ _ (λ b r. good-real _ b tt r) h.angle k))

good-tail : (qs : List Property) (rs : List Rec) → All FitProperty qs → All Good rs → All Good (tail_records qs rs)
unfolding tail_records manual
good-tail [] rs h k = more (good-number 0 _ _ 0 tt tt (lit< tt)) k
good-tail (q ∷ qs) rs (more h hs) k = more (good-number 2 _ _ _ tt tt (lit< tt)) (more (good-string _ _ (λ t. t) h.value) (good-tail qs rs hs k))

-- ---- elements

good-shape : (c t : ℕ) (e : Shape) (rs : List Rec) → T (listed manual c no_data 0) → T (listed manual t two_byte 2) → FitShape e → All Good rs → All Good (shape_records c t e rs)
unfolding shape_records manual
good-shape c t e rs u v h k =
    more (good-number 0 c _ 0 u tt (lit< tt)) (more (good-number 2 _ _ _ tt tt (lit< tt)) (more (good-number 2 t _ _ v tt (lit< tt)) (more (good-points e.points h.points.count) k)))

good-body : (w : SaidBody) (rs : List Rec) → FitBody w → All Good rs → All Good (body_records w rs)
unfolding path_records text_records sref_records aref_records manual
good-body (S.boundary e) rs (FitBody.boundary h) k = good-shape BOUNDARY DATATYPE e rs tt tt h k
good-body (S.path e) rs (FitBody.path h) k =
    more (good-number 0 _ _ 0 tt tt (lit< tt)) (more (good-number 2 _ _ _ tt tt (lit< tt)) (more (good-number 2 _ _ _ tt tt (lit< tt))
    (good-opt _ _ _ _ (λ v r. good-number 2 _ _ v tt tt (lit< tt)) h.path_type
    (good-opt _ _ _ _ (λ q r. good-number 4 _ _ (of_z w32 q) tt tt (lit< tt)) h.width
    (good-opt _ _ _ _ (λ q r. good-number 4 _ _ (of_z w32 q) tt tt (lit< tt)) h.begin
    (good-opt _ _ _ _ (λ q r. good-number 4 _ _ (of_z w32 q) tt tt (lit< tt)) h.end
    (more (good-points e.points h.points.count) k)))))))
good-body (S.text e) rs (FitBody.text h) k =
    more (good-number 0 _ _ 0 tt tt (lit< tt)) (more (good-number 2 _ _ _ tt tt (lit< tt)) (more (good-number 2 _ _ _ tt tt (lit< tt))
    (good-opt _ _ _ _ (λ v r. good-number 2 _ _ v tt tt (lit< tt)) h.presentation
    (good-strans _ _ h.transform
    (more (good-points (e.origin ∷ []) (lit≤ tt)) (more (good-string _ _ (λ t. t) h.string) k))))))
good-body (S.node e) rs (FitBody.node h) k = good-shape NODE NODETYPE e rs tt tt h k
good-body (S.sref e) rs (FitBody.sref h) k =
    more (good-number 0 _ _ 0 tt tt (lit< tt)) (more (good-string _ _ (λ t. t) h.name) (good-strans _ _ h.transform (more (good-points (e.origin ∷ []) (lit≤ tt)) k)))
good-body (S.aref e) rs (FitBody.aref h) k =
    more (good-number 0 _ _ 0 tt tt (lit< tt)) (more (good-string _ _ (λ t. t) h.name)
    (good-strans _ _ h.transform (more (good-colrow _ _) (more (good-points (corners_of e) (lit≤ tt)) k))))
good-body (S.box e) rs (FitBody.box h) k = good-shape BOX _ e rs tt tt h k

good-options : (f : Option ℕ) (p : Option ℤ) (rs : List Rec) → Opt Word f → Opt Long p → All Good rs → All Good (with_options f p rs)
unfolding with_options manual
good-options f p [] h k done = done
good-options f p (r ∷ rs) h k (more g gs) =
    more g (good-opt _ _ _ _ (λ v r. good-number 2 _ _ v tt tt (lit< tt)) h (good-opt _ _ _ _ (λ q r. good-number 4 _ _ (of_z w32 q) tt tt (lit< tt)) k gs))

good-elements : (ws : List Said) (rs : List Rec) → All FitElement ws → All Good rs → All Good (elements_records ws rs)
good-elements [] rs h k = k
good-elements (w ∷ ws) rs (more h hs) k =
    good-options w.flags w.plex _ h.flags h.plex (good-body w.body _ h.body (good-tail w.properties _ h.properties (good-elements ws rs hs k)))

-- ---- the structure

pub good-structure : (s : Structure) → FitStructure s → All Good (structure_records s)
unfolding structure_records manual
good-structure s h =
    more (good-stamps s.stamps h.twelve) (more (good-string _ _ (λ t. t) h.name)
    (good-elements s.elements _ h.elements (more (good-number 0 _ _ 0 tt tt (lit< tt)) done)))
