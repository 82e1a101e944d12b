-- Records and the grammar: what fits its records, and whose records a reader's limits admit, is read back from them. Assumes nothing.
use mathlib.Core.Path.{◌≡◌, refl, sym, ap, ap₂, ◌∙◌, subst}
use mathlib.Core.Bool.{Bool, true, false}
use mathlib.Core.Option.{Option, none, some}
use mathlib.Core.List.{List, [], ◌∷◌}
use Prim.Native.Nat.{ℕ, zero, suc, ◌/◌, ◌≤◌, ◌<◌}
use native.Mathlib.Nat.{mul-div_cancel, zero-lt-suc, le_of_suc-le-suc, not-suc-le-zero}
use native.Mathlib.Omega.{arith}
use borrow.Author.Tests.{le-leb, eq-eqb}
use lib.Dec.{eqb, lit<}
use lib.ListN.{length, drop}
use lib.Seq.{take_at, drop_at}
use lib.IntN.{ℤ}
use mir.Val.{to_z, of_z}
use mir.ValLaws.{to_z-of_z, of_z_fits}
use mir.Syntax.{w32}
use Rattle.big_endian.specs.Big.{number, bytes_of, joined}
use Rattle.big_endian.proofs.BigLaws.{number-back}
use Rattle.big_endian.proofs.BytesLaws.{length-joined}
use Rattle.refusal.specs.declared.Refusal.{Refusal}
use Rattle.parsing.specs.Parse.{part, pure}
use Rattle.parsing.proofs.ParseLaws.{then}
use Rattle.units.specs.Point.{Point, endpoint}
use Rattle.stream.specs.Record.{Rec, LAYER, SNAME, ELFLAGS, PLEX, ENDSTR, BOUNDARY, PATH, SREF, AREF, TEXT, DATATYPE, NODE, PRESENTATION, STRING, STRANS, MAG, ANGLE, NODETYPE, BOX, BOXTYPE, ENDEL}
use Rattle.stream.specs.Structure.{Property, Strans, Shape, Path, Text, Sref, Aref, SaidBody, Said, Structure}
use Rattle.stream.specs.Structure as S
use Rattle.stream.specs.Records.{empty_record, bits_record, long_record, string_record, xy_record, colrow_record, long_bytes, words_bytes, point_bytes, points_bytes, opt, strans_bits, strans_records, endpoint_of, corners_of, shape_records, path_records, text_records, sref_records, aref_records, body_records, tail_records, option_records, elements_records, structure_records}
use Rattle.stream.specs.Read.{tagged, Reader, Limits, unless, item, optional, long, map_option, each, stamps_of, point_of, points_of, one_point, three_points, reflection_from, after_strans, strans, some_of, axis_step, point_step, shape_body, path_body, text_body, sref_body, aref_body, body_after, begins, property_or_end, properties_f, properties, element_after, element_from, elements_f, elements, structure}
use Rattle.stream.proofs.AppendLaws.{code_of, element-first, element-longer}
use Rattle.stream.proofs.Fit.{All, done, more, Opt, present, Word, Long, FitPoint, FitProperty, FitShape, FitPath, FitText, FitSref, FitAref, FitBody, FitElement, FitStructure}
use Rattle.stream.proofs.Admitted.{Admitted, body_rest, AdmittedPoint, AdmittedSteps, AdmittedTail, end, next, AdmittedElement, AdmittedElements, one_element, AdmittedStructure}
use Rattle.stream.proofs.StepLaws.{step_back}

-- ---- numbers

pub word_back : (n : ℕ) → Word n → number (bytes_of 2 n) ≡ n
word_back n h = number-back 2 n h

pub long-back : (q : ℤ) → Long q → long (long_bytes q) ≡ q
long-back q h = ap (to_z w32) (number-back 4 (of_z w32 q) (of_z_fits w32 q h).fits) ∙ to_z-of_z w32 q h

pub option_back : {A B : Type 0} (f : A → B) (g : B → A) (P : A → Type 0) (x : Option A) → ((a : A) → P a → g (f a) ≡ a) → Opt P x → map_option g (map_option f x) ≡ x
option_back f g P none h p = refl
option_back f g P (some a) h (present p) = ap some (h a p)

-- ---- parts of one length in a row

each_back : {A : Type 0} (f : A → List ℕ) (k : ℕ) → ((a : A) → length (f a) ≡ k) → (g : List ℕ → A) (P : A → Type 0) → ((a : A) → P a → g (f a) ≡ a) → (s : List A) → All P s
    → each g k (length s) (joined f s) ≡ s
unfolding each
each_back f k l g P b [] h = refl
each_back f k l g P b (a ∷ s) (more h hs) =
    rw (take_at (f a) (joined f s) k (l a)) (rw (drop_at (f a) (joined f s) k (l a)) (ap₂ (λ (x : _) (t : List _). x ∷ t) (b a h) (each_back f k l g P b s hs)))

point-back : (p : Point ℤ) → FitPoint p → point_of (point_bytes p) ≡ p
point-back p h = ap₂ (λ (a b : ℤ). record { x = a; y = b }) (long-back p.x h.x) (long-back p.y h.y)

pub points-back : (ps : List (Point ℤ)) → All FitPoint ps → points_of (points_bytes ps) ≡ ps
points-back ps h =
    ap (λ (n : ℕ). each point_of 8 n (points_bytes ps)) (ap (λ (n : ℕ). n / 8) (length-joined point_bytes 8 (λ p. refl) ps) ∙ mul-div_cancel (length ps) (lit< tt))
    ∙ each_back point_bytes 8 (λ p. refl) point_of FitPoint point-back ps h

-- ---- one record

-- a record that may be missing, in front of others
record OptAdmitted {A : Type 0} (P : Rec → Type 0) (f : A → Rec) (x : Option A) (rs : List Rec) : Type 0 where
  here : (a : A) → x ≡ some a → P (f a)
  others : All P rs

opt-admitted : {A : Type 0} (P : Rec → Type 0) (f : A → Rec) (x : Option A) (rs : List Rec) → All P (opt f x rs) → OptAdmitted P f x rs
unfolding opt
opt-admitted P f none rs h = record { here = λ a e. let z : ◌≡◌ {A = ℕ} 0 1 = cc in absurd (omega arith); others = h }
opt-admitted P f (some b) rs (more h hs) = record { here = λ a e. let q : b ≡ a = cc in subst (λ (c : _). P (f c)) q h; others = hs }

-- a record that is not limited
free : {A : Type 0} {o : Option Refusal} (p : Reader A) (rs : List Rec) → o ≡ none → unless o p rs ≡ p rs
free p rs e = ap (λ (o : Option Refusal). unless o p rs) e

module _ (limits : Limits) (kind : ℕ) where
  item-own : (i : ℕ) (r : Rec) (rs : List Rec) → Admitted limits kind i r → item limits kind i r.code (r ∷ rs) ≡ part r.content rs
  unfolding item
  item-own i r rs a = rw (eq-eqb r.code r.code refl) (free (pure r.content) rs a)

  -- the next record is not one of code c
  abbrev Absent : ℕ → ℕ → List Rec → Type 0
  Absent i c rs = optional limits kind i c rs ≡ part none rs

  absent-head : (i c : ℕ) (r : Rec) (rs : List Rec) → eqb r.code c ≡ false → Absent i c (r ∷ rs)
  unfolding optional
  absent-head i c r rs e = rw e

  absent-opt : {A : Type 0} (i c : ℕ) (f : A → Rec) (x : Option A) (rs : List Rec) → ((a : A) → eqb (f a).code c ≡ false) → Absent i c rs → Absent i c (opt f x rs)
  unfolding opt
  absent-opt i c f none rs e h = h
  absent-opt i c f (some a) rs e h = absent-head i c (f a) rs (e a)

  optional-own : (i c : ℕ) (r : Rec) (rs : List Rec) → eqb r.code c ≡ true → Admitted limits kind i r → optional limits kind i c (r ∷ rs) ≡ part (some r.content) rs
  unfolding optional
  optional-own i c r rs e a = rw e (free (pure (some r.content)) rs a)

  optional-opt : {A : Type 0} (i c : ℕ) (f : A → Rec) (x : Option A) (rs : List Rec) → ((a : A) → eqb (f a).code c ≡ true) → ((a : A) → x ≡ some a → Admitted limits kind i (f a)) → Absent i c rs
      → optional limits kind i c (opt f x rs) ≡ part (map_option (λ a. (f a).content) x) rs
  unfolding opt
  optional-opt i c f none rs e a h = h
  optional-opt i c f (some b) rs e a h = optional-own i c (f b) rs (e b) (a b refl)

  -- ---- transforms

  reflection-back : (r : Bool) (rs : List Rec) → reflection_from (number (bytes_of 2 (strans_bits r))) rs ≡ part r rs
  unfolding reflection_from
  reflection-back true rs = refl
  reflection-back false rs = refl

  same-option : (x : Option (List ℕ)) → map_option (λ a. a) x ≡ x
  same-option none = refl
  same-option (some a) = refl

  -- before others, of which none is the transform's
  strans-back : (t : Option Strans) (rs qs : List Rec) → All (Admitted limits kind 0) (strans_records t qs) → Absent 0 STRANS rs → Absent 0 MAG rs → Absent 0 ANGLE rs → strans limits kind (strans_records t rs) ≡ part t rs
  unfolding strans after_strans strans_records
  strans-back none rs qs a g h i = then _ g refl
  strans-back (some t) rs qs (more a bs) g h i =
      let m = opt-admitted _ _ _ _ bs in
      let n = opt-admitted _ _ _ _ m.others in
      then _ (optional-own 0 _ _ _ refl a) (then _ (reflection-back t.reflection _)
      (then _ (optional-opt 0 _ _ _ _ (λ b. refl) m.here (absent-opt 0 _ _ _ _ (λ b. refl) h)) (then _ (optional-opt 0 _ _ _ _ (λ b. refl) n.here i)
      (rw (same-option t.magnification) (rw (same-option t.angle))))))

  strans-then : (r : Rec) (rs qs : List Rec) → eqb r.code STRANS ≡ false → eqb r.code MAG ≡ false → eqb r.code ANGLE ≡ false → (t : Option Strans)
      → All (Admitted limits kind 0) (strans_records t qs) → strans limits kind (strans_records t (r ∷ rs)) ≡ part t (r ∷ rs)
  strans-then r rs qs s m a t h = strans-back t (r ∷ rs) qs h (absent-head 0 STRANS r rs s) (absent-head 0 MAG r rs m) (absent-head 0 ANGLE r rs a)

  -- what is admitted after a transform
  strans-others : (t : Option Strans) (rs : List Rec) → All (Admitted limits kind 0) (strans_records t rs) → All (Admitted limits kind 0) rs
  unfolding strans_records
  strans-others none rs h = h
  strans-others (some t) rs (more a bs) = (opt-admitted _ _ _ _ (opt-admitted _ _ _ _ bs).others).others

  -- the next record is not one of code c, which is not the transform's either
  absent-strans : (i c : ℕ) (t : Option Strans) (rs : List Rec) → eqb STRANS c ≡ false → Absent i c rs → Absent i c (strans_records t rs)
  unfolding strans_records
  absent-strans i c none rs e h = h
  absent-strans i c (some t) rs e h = absent-head i c _ _ e

  -- ---- bodies

  shape-back : (c t : ℕ) (e : Shape) (rest : List Rec) → All (Admitted limits kind 0) (drop 1 (shape_records c t e [])) → FitShape e → shape_body limits kind t (drop 1 (shape_records c t e rest)) ≡ part e rest
  unfolding shape_body shape_records
  shape-back c t e rest (more a (more b (more d done))) h =
      then _ (item-own 0 _ _ a) (then _ (item-own 0 _ _ b) (then _ (item-own 0 _ _ d)
      (rw (word_back e.layer h.layer) (rw (word_back e.datatype h.datatype) (rw (points-back e.points h.points.each))))))

  path-back : (e : Path) (rest : List Rec) → All (Admitted limits kind 0) (drop 1 (path_records e [])) → FitPath e → path_body limits kind (drop 1 (path_records e rest)) ≡ part e rest
  unfolding path_body path_records
  path-back e rest (more a (more b bs)) h =
      let o1 = opt-admitted _ _ _ _ bs in
      let o2 = opt-admitted _ _ _ _ o1.others in
      let o3 = opt-admitted _ _ _ _ o2.others in
      let o4 = opt-admitted _ _ _ _ o3.others in
      then _ (item-own 0 _ _ a) (then _ (item-own 0 _ _ b)
      (then _ (optional-opt 0 _ _ _ _ (λ a. refl) o1.here (absent-opt 0 _ _ _ _ (λ a. refl) (absent-opt 0 _ _ _ _ (λ a. refl) (absent-opt 0 _ _ _ _ (λ a. refl) (absent-head 0 _ _ _ refl)))))
      (then _ (optional-opt 0 _ _ _ _ (λ a. refl) o2.here (absent-opt 0 _ _ _ _ (λ a. refl) (absent-opt 0 _ _ _ _ (λ a. refl) (absent-head 0 _ _ _ refl))))
      (then _ (optional-opt 0 _ _ _ _ (λ a. refl) o3.here (absent-opt 0 _ _ _ _ (λ a. refl) (absent-head 0 _ _ _ refl)))
      (then _ (optional-opt 0 _ _ _ _ (λ a. refl) o4.here (absent-head 0 _ _ _ refl))
      (then _ (item-own 0 _ _ (only o4.others))
      (rw (word_back e.layer h.layer) (rw (word_back e.datatype h.datatype) (rw (points-back e.points h.points.each)
      (rw (option_back (bytes_of 2) number Word e.path_type word_back h.path_type)
      (rw (option_back long_bytes long Long e.width long-back h.width)
      (rw (option_back long_bytes long Long e.begin long-back h.begin)
      (rw (option_back long_bytes long Long e.end long-back h.end))))))))))))))
    where
      only : {r : Rec} → All (Admitted limits kind 0) (r ∷ []) → Admitted limits kind 0 r
      only (more h done) = h

  one-back : (p : Point ℤ) → FitPoint p → one_point (points_of (points_bytes (p ∷ []))) ≡ some p
  unfolding one_point
  one-back p h = rw (points-back (p ∷ []) (more h done))

  text-back : (e : Text (Option ℕ) (Option Strans)) (rest : List Rec) → All (Admitted limits kind 0) (drop 1 (text_records e [])) → FitText e → text_body limits kind (drop 1 (text_records e rest)) ≡ part e rest
  unfolding text_body text_records
  text-back e rest (more a (more b bs)) h = go o.others
    where
      o : OptAdmitted (Admitted limits kind 0) (bits_record PRESENTATION) e.presentation (strans_records e.transform (xy_record (e.origin ∷ []) ∷ string_record STRING e.string ∷ []))
      o = opt-admitted _ _ _ _ bs

      go : All (Admitted limits kind 0) (strans_records e.transform (xy_record (e.origin ∷ []) ∷ string_record STRING e.string ∷ [])) → text_body limits kind (drop 1 (text_records e rest)) ≡ part e rest
      go t = last (strans-others e.transform _ t)
        where
          last : All (Admitted limits kind 0) (xy_record (e.origin ∷ []) ∷ string_record STRING e.string ∷ []) → text_body limits kind (drop 1 (text_records e rest)) ≡ part e rest
          last (more c (more d done)) =
              then _ (item-own 0 _ _ a) (then _ (item-own 0 _ _ b)
              (then _ (optional-opt 0 _ _ _ _ (λ a. refl) o.here (absent-strans 0 _ _ _ refl (absent-head 0 _ _ _ refl)))
              (then _ (strans-then _ _ _ refl refl refl _ t)
              (then _ (item-own 0 _ _ c)
              (rw (one-back e.origin h.origin)
              (then _ (item-own 0 _ _ d)
              (rw (word_back e.layer h.layer) (rw (word_back e.texttype h.texttype)
              (rw (option_back (bytes_of 2) number Word e.presentation word_back h.presentation))))))))))

  sref-back : (e : Sref (Option Strans)) (rest : List Rec) → All (Admitted limits kind 0) (drop 1 (sref_records e [])) → FitSref e → sref_body limits kind (drop 1 (sref_records e rest)) ≡ part e rest
  unfolding sref_body sref_records
  sref-back e rest (more a t) h = last (strans-others e.transform _ t)
    where
      last : All (Admitted limits kind 0) (xy_record (e.origin ∷ []) ∷ []) → sref_body limits kind (drop 1 (sref_records e rest)) ≡ part e rest
      last (more c done) =
          then _ (item-own 0 _ _ a) (then _ (strans-then _ _ _ refl refl refl _ t) (then _ (item-own 0 _ _ c)
          (rw (one-back e.origin h.origin))))

  axis-back : (n : ℕ) (o a : ℤ) (rs : List Rec) → 1 ≤ n → limits.step a ≡ none → axis_step limits n (endpoint o a n) o rs ≡ part a rs
  unfolding axis_step
  axis-back n o a rs h s = rw (step_back n o a h) (free (pure a) rs s)

  point-step-back : (n : ℕ) (o a : Point ℤ) (rs : List Rec) → 1 ≤ n → AdmittedPoint limits a → point_step limits n (endpoint_of o a n) o rs ≡ part a rs
  unfolding point_step
  point-step-back n o a rs h s = then _ (axis-back n o.x a.x rs h s.x) (then _ (axis-back n o.y a.y rs h s.y) refl)

  some_back : (n : ℕ) (rs : List Rec) → 1 ≤ n → Word n → some_of (number (bytes_of 2 n)) rs ≡ part n rs
  unfolding some_of
  some_back n rs h w = rw (word_back n w) (rw (le-leb 1 n h))

  corners-back : (e : Aref (Option Strans)) → FitAref e
      → three_points (points_of (points_bytes (corners_of e)))
      ≡ some (record { origin = e.origin; column_end = endpoint_of e.origin e.column_step e.columns; row_end = endpoint_of e.origin e.row_step e.rows })
  unfolding three_points
  corners-back e h = rw (points-back (corners_of e) (more h.origin (more h.column_end (more h.row_end done))))

  aref-back : (e : Aref (Option Strans)) (rest : List Rec) → All (Admitted limits kind 0) (drop 1 (aref_records e [])) → AdmittedPoint limits e.column_step → AdmittedPoint limits e.row_step → FitAref e
      → aref_body limits kind (drop 1 (aref_records e rest)) ≡ part e rest
  unfolding aref_body aref_records
  aref-back e rest (more a t) sc sr h = last (strans-others e.transform _ t)
    where
      last : All (Admitted limits kind 0) (colrow_record e.columns e.rows ∷ xy_record (corners_of e) ∷ []) → aref_body limits kind (drop 1 (aref_records e rest)) ≡ part e rest
      last (more c (more d done)) =
          then _ (item-own 0 _ _ a) (then _ (strans-then _ _ _ refl refl refl _ t) (then _ (item-own 0 _ _ c)
          (then _ (some_back _ _ h.some_column h.columns) (then _ (some_back _ _ h.some_row h.rows)
          (then _ (item-own 0 _ _ d)
          (rw (corners-back e h)
          (then _ (point-step-back e.columns e.origin e.column_step _ h.some_column sc)
          (then _ (point-step-back e.rows e.origin e.row_step _ h.some_row sr) refl))))))))

-- ---- an element

module _ (limits : Limits) where
  body_back : (w : SaidBody) (rest : List Rec) → All (Admitted limits (code_of w) 0) (body_rest w) → AdmittedSteps limits w → FitBody w → body_after limits (code_of w) (drop 1 (body_records w rest)) ≡ part w rest
  unfolding body_after
  body_back (S.boundary e) rest a s (FitBody.boundary h) = then _ (shape-back limits BOUNDARY BOUNDARY DATATYPE e rest a h) refl
  body_back (S.path e) rest a s (FitBody.path h) = then _ (path-back limits PATH e rest a h) refl
  body_back (S.text e) rest a s (FitBody.text h) = then _ (text-back limits TEXT e rest a h) refl
  body_back (S.node e) rest a s (FitBody.node h) = then _ (shape-back limits NODE NODE NODETYPE e rest a h) refl
  body_back (S.sref e) rest a s (FitBody.sref h) = then _ (sref-back limits SREF e rest a h) refl
  body_back (S.aref e) rest a s (FitBody.aref h) = then _ (aref-back limits AREF e rest a s.0 s.1 h) refl
  body_back (S.box e) rest a s (FitBody.box h) = then _ (shape-back limits BOX BOX BOXTYPE e rest a h) refl

  tail_from : (f kind i : ℕ) (qs : List Property) (rest : List Rec) → AdmittedTail limits kind i qs → All FitProperty qs → length qs < f → properties_f limits f kind i (tail_records qs rest) ≡ part qs rest
  unfolding properties_f property_or_end tail_records
  tail_from zero kind i qs rest a h l = absurd (not-suc-le-zero l)
  tail_from (suc f) kind i [] rest (end a) h l = then _ (optional-own limits kind i ENDEL _ rest refl a) refl
  tail_from (suc f) kind i (q ∷ qs) rest (next a b cs) (more h hs) l =
      then _ (absent-head limits kind i ENDEL _ _ refl)
      (then _ (item-own limits kind i _ _ a) (then _ (item-own limits kind i _ _ b) (then _ (tail_from f kind (suc i) qs rest cs hs (le_of_suc-le-suc l)) (rw (word_back q.attribute h.attribute)))))

  tail-length : (qs : List Property) (rest : List Rec) → length qs < length (tail_records qs rest)
  unfolding tail_records
  tail-length [] rest = zero-lt-suc (length rest)
  tail-length (q ∷ qs) rest = omega (arith, tail-length qs rest)

  properties-back : (kind : ℕ) (qs : List Property) (rest : List Rec) → AdmittedTail limits kind 0 qs → All FitProperty qs → properties limits kind (tail_records qs rest) ≡ part qs rest
  unfolding properties
  properties-back kind qs rest a h = tail_from _ kind 0 qs rest a h (tail-length qs rest)

  -- after its first record a body has neither option: LAYER or SNAME stands there
  no-option : (kind c : ℕ) (w : SaidBody) (rest : List Rec) → eqb LAYER c ≡ false → eqb SNAME c ≡ false → Absent limits kind 0 c (drop 1 (body_records w rest))
  unfolding shape_records path_records text_records sref_records aref_records
  no-option kind c (S.boundary e) rest l s = absent-head limits kind 0 c _ _ l
  no-option kind c (S.path e) rest l s = absent-head limits kind 0 c _ _ l
  no-option kind c (S.text e) rest l s = absent-head limits kind 0 c _ _ l
  no-option kind c (S.node e) rest l s = absent-head limits kind 0 c _ _ l
  no-option kind c (S.sref e) rest l s = absent-head limits kind 0 c _ _ s
  no-option kind c (S.aref e) rest l s = absent-head limits kind 0 c _ _ s
  no-option kind c (S.box e) rest l s = absent-head limits kind 0 c _ _ l

  -- what an element has after its first record
  abbrev after_first : Said → List Rec → List Rec
  after_first w rest = option_records w.flags w.plex (drop 1 (body_records w.body (tail_records w.properties rest)))

  element-back : (w : Said) (rest : List Rec) (i : ℕ) → AdmittedElement limits i w → FitElement w → element_after limits (code_of w.body) (after_first w rest) ≡ part w rest
  unfolding element_after
  element-back w rest i a h =
      let kind = code_of w.body in
      let f = opt-admitted (Admitted limits kind 0) (bits_record ELFLAGS) w.flags _ a.options in
      let p = opt-admitted (Admitted limits kind 0) (long_record PLEX) w.plex _ f.others in
      then _ (optional-opt limits kind 0 _ _ _ _ (λ v. refl) f.here (absent-opt limits kind 0 _ _ _ _ (λ v. refl) (no-option kind ELFLAGS w.body _ refl refl)))
      (then _ (optional-opt limits kind 0 _ _ _ _ (λ v. refl) p.here (no-option kind PLEX w.body _ refl refl))
      (then _ (body_back w.body _ a.body a.steps h.body) (then _ (properties-back _ w.properties rest a.tail h.properties)
      (rw (option_back (bytes_of 2) number Word w.flags word_back h.flags) (rw (option_back long_bytes long Long w.plex long-back h.plex))))))

  -- ---- elements and the structure

  not_end : (w : SaidBody) → eqb (code_of w) ENDSTR ≡ false
  not_end (S.boundary e) = refl
  not_end (S.path e) = refl
  not_end (S.text e) = refl
  not_end (S.node e) = refl
  not_end (S.sref e) = refl
  not_end (S.aref e) = refl
  not_end (S.box e) = refl

  does-begin : (w : SaidBody) → begins (code_of w) ≡ true
  does-begin (S.boundary e) = refl
  does-begin (S.path e) = refl
  does-begin (S.text e) = refl
  does-begin (S.node e) = refl
  does-begin (S.sref e) = refl
  does-begin (S.aref e) = refl
  does-begin (S.box e) = refl

  from_back : (w : Said) (rest : List Rec) (i : ℕ) → AdmittedElement limits i w → FitElement w → element_from limits i (empty_record (code_of w.body)) (after_first w rest) ≡ part w rest
  unfolding element_from
  from_back w rest i a h = ap (tagged (suc i)) (free (element_after limits (code_of w.body)) _ a.first ∙ element-back w rest i a h)

  elements-from : (f i : ℕ) (ws : List Said) (rest : List Rec) → AdmittedElements limits i ws → All FitElement ws → length ws < f → elements_f limits f i (elements_records ws (empty_record ENDSTR ∷ rest)) ≡ part ws rest
  unfolding elements_f
  elements-from zero i ws rest a h l = absurd (not-suc-le-zero l)
  elements-from (suc f) i [] rest a h l = refl
  elements-from (suc f) i (w ∷ ws) rest (one_element a cs) (more h hs) l =
      rw (element-first w (elements_records ws (empty_record ENDSTR ∷ rest)))
      (rw (not_end w.body) (rw (does-begin w.body)
      (then _ (from_back w _ i a h) (then _ (elements-from f (suc i) ws rest cs hs (le_of_suc-le-suc l)) refl))))

  elements-length : (ws : List Said) (rest : List Rec) → length ws < length (elements_records ws (empty_record ENDSTR ∷ rest))
  elements-length [] rest = zero-lt-suc (length rest)
  elements-length (w ∷ ws) rest = omega (arith, elements-length ws rest, element-longer w (elements_records ws (empty_record ENDSTR ∷ rest)))

  elements-back : (ws : List Said) (rest : List Rec) → AdmittedElements limits 0 ws → All FitElement ws → elements limits (elements_records ws (empty_record ENDSTR ∷ rest)) ≡ part ws rest
  unfolding elements
  elements-back ws rest a h = elements-from _ 0 ws rest a h (elements-length ws rest)

  pub stamps-back : (s : Structure) → FitStructure s → stamps_of (words_bytes s.stamps) ≡ s.stamps
  stamps-back s h = ap (λ (n : ℕ). each number 2 n (words_bytes s.stamps)) (sym h.twelve) ∙ each_back (bytes_of 2) 2 (λ v. refl) number Word word_back s.stamps h.stamps

  -- The round trip of the grammar.
  pub structure-back : (s : Structure) → AdmittedStructure limits s → FitStructure s → structure limits (structure_records s) ≡ part s []
  unfolding structure structure_records
  structure-back s a h =
      then _ (ap (tagged 0) (item-own limits 0 0 _ _ a.stamps)) (then _ (ap (tagged 0) (item-own limits 0 0 _ _ a.name))
      (then _ (elements-back s.elements [] a.elements h.elements) (rw (stamps-back s h))))
