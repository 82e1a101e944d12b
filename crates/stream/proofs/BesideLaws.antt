-- Two readers of the grammar side by side: the second is fed more records, and may admit more. What they find agrees. Assumes nothing.
-- One reader, fed more: FaultLaws. A reader with limits beside one with none: LenientLaws.
use mathlib.Core.Bool.{Bool, true, false, cond}
use mathlib.Core.Option.{Option, none, some}
use mathlib.Core.List.{List, [], ◌∷◌, ◌++◌}
use Prim.Native.Nat.{ℕ, zero, suc, ◌≤◌}
use native.Mathlib.Nat.{le_of_suc-le-suc, not-suc-le-zero}
use native.Mathlib.Omega.{arith}
use lib.Dec.{eqb, leb}
use lib.ListN.{length, take, drop, length-append}
use lib.IntN.{ℤ, ◌-ℤ◌}
use Rattle.big_endian.specs.Big.{number}
use Rattle.units.specs.Point.{Point}
use Rattle.refusal.specs.declared.Refusal.{Refusal}
use Rattle.refusal.specs.declared.Refusal.TheVariants as R
use Rattle.parsing.specs.Parse.{Part, ill, part, Parse, pure, fail, follow, when, map, present, ◌>>=◌}
use Rattle.stream.specs.Record.{Rec, BGNSTR, STRNAME, ENDSTR, BOUNDARY, PATH, SREF, AREF, TEXT, LAYER, DATATYPE, WIDTH, XY, ENDEL, SNAME, COLROW, NODE, TEXTTYPE, PRESENTATION, STRING, STRANS, MAG, ANGLE, PATHTYPE, NODETYPE, PROPATTR, PROPVALUE, BOX, BOXTYPE, ELFLAGS, PLEX, BGNEXTN, ENDEXTN}
use Rattle.stream.specs.Structure.{Property, boundary, path, text, node, sref, aref, box}
use Rattle.stream.specs.Read.{Fault, no_record, not_of_grammar, beyond, Stop, tagged, in_block, Reader, Limits, unless, item, optional, points_of, one_point, three_points, step_of, axis_step, point_step, reflection_from, after_strans, strans, some_of, shape_body, path_body, text_body, sref_body, aref_body, body_after, begins, property_or_end, properties_f, properties, element_after, element_from, elements_f, elements, structure}

-- What the first reading gives, and what the second gives where t follows: the same fault, or the same value with t left too. Where the first's fault is excused (W), anything.
pub data Beside {F A : Type 0} (W : F → Type 0) (t : List Rec) : Part F Rec A → Part F Rec A → Type 0 where
  excused : {c : F} {y : Part F Rec A} → W c → Beside W t (ill c) y
  fault : {c : F} → Beside W t (ill c) (ill c)
  value : {a : A} {r : List Rec} → Beside W t (part a r) (part a (r ++ t))

pub record SideBySide {F A : Type 0} (W : F → Type 0) (p q : Parse F Rec A) : Type 0 where
  pub beside : (s t : List Rec) → Beside W t (p s) (q (s ++ t))

-- what the first refuses, and the second: the same, or the first's is excused
pub data Looser (W : Fault → Type 0) : Option Refusal → Option Refusal → Type 0 where
  alike : {o : Option Refusal} → Looser W o o
  looser : {r : Refusal} {o : Option Refusal} → W (beyond r) → Looser W (some r) o

-- ---- through the forms

module _ {F : Type 0} {W : F → Type 0} where
  beside-cond : {A : Type 0} {t : List Rec} {x y u v : Part F Rec A} (b : Bool) → Beside W t x y → Beside W t u v → Beside W t (cond b x u) (cond b y v)
  beside-cond true h k = h
  beside-cond false h k = k

  beside-follow : {A B : Type 0} {t : List Rec} {x y : Part F Rec A} {f g : A → Parse F Rec B} → Beside W t x y → ((a : A) → SideBySide W (f a) (g a)) → Beside W t (follow x f) (follow y g)
  beside-follow (excused w) k = excused w
  beside-follow fault k = fault
  beside-follow {t = t} (value {a} {r}) k = (k a).beside r t

  by_pure : {A : Type 0} {a : A} → SideBySide W (pure a) (pure a)
  by_pure = record { beside = λ s t. value }

  by-fail : {A : Type 0} {c : F} → SideBySide W (fail {A = A} c) (fail c)
  by-fail = record { beside = λ s t. fault }

  by-bind : {A B : Type 0} {p q : Parse F Rec A} {f g : A → Parse F Rec B} → SideBySide W p q → ((a : A) → SideBySide W (f a) (g a)) → SideBySide W (p >>= f) (q >>= g)
  by-bind h k = record { beside = λ s t. beside-follow (h.beside s t) k }

  by_map : {A B : Type 0} {p q : Parse F Rec A} (f : A → B) → SideBySide W p q → SideBySide W (map f p) (map f q)
  by_map f h = by-bind h (λ a. by_pure)

  by-when : {A : Type 0} {p q : Parse F Rec A} (c : F) (b : Bool) → SideBySide W p q → SideBySide W (when c b p) (when c b q)
  by-when c true h = h
  by-when c false h = by-fail

  by_cond : {A : Type 0} {p q u v : Parse F Rec A} (b : Bool) → SideBySide W p q → SideBySide W u v → SideBySide W (cond b p u) (cond b q v)
  by_cond true h k = h
  by_cond false h k = k

  by-present : {A : Type 0} (c : F) (o : Option A) → SideBySide W (present c o) (present c o)
  by-present c none = by-fail
  by-present c (some a) = by_pure

by-same : {A : Type 0} {W : Fault → Type 0} (o : Option Refusal) {p q : Reader A} → SideBySide W p q → SideBySide W (unless o p) (unless o q)
by-same none h = h
by-same (some r) h = by-fail

by-unless : {A : Type 0} {W : Fault → Type 0} {o u : Option Refusal} {p q : Reader A} → Looser W o u → SideBySide W p q → SideBySide W (unless o p) (unless u q)
by-unless (alike {o}) h = by-same o h
by-unless (looser w) h = record { beside = λ s t. excused w }

-- with the block
abbrev pub Excused : (Fault → Type 0) → Stop → Type 0
Excused W c = W c.fault

beside-tagged : {A : Type 0} {W : Fault → Type 0} {t : List Rec} {x y : Part Fault Rec A} (block : ℕ) → Beside W t x y → Beside (Excused W) t (tagged block x) (tagged block y)
beside-tagged block (excused w) = excused w
beside-tagged block fault = fault
beside-tagged block value = value

by-block : {A : Type 0} {W : Fault → Type 0} {p q : Reader A} (block : ℕ) → SideBySide W p q → SideBySide (Excused W) (in_block block p) (in_block block q)
by-block block h = record { beside = λ s t. beside-tagged block (h.beside s t) }

-- ---- through the grammar

-- a fault is excused where a record was wanted; and the second reader refuses as the first does, or the first's refusal is excused
module _ (first second : Limits) (W : Fault → Type 0) (wanted : W no_record)
    (records : (kind i : ℕ) (r : Rec) → Looser W (first.admit kind i r) (second.admit kind i r)) (steps : (z : ℤ) → Looser W (first.step z) (second.step z)) where
  by-item : (kind i c : ℕ) → SideBySide W (item first kind i c) (item second kind i c)
  unfolding item
  by-item kind i c = record { beside = go }
    where
      go : (s t : List Rec) → Beside W t (item first kind i c s) (item second kind i c (s ++ t))
      go [] t = excused wanted
      go (r ∷ rs) t = beside-cond (eqb r.code c) ((by-unless (records kind i r) by_pure).beside rs t) fault

  by-optional : (kind i c : ℕ) → SideBySide W (optional first kind i c) (optional second kind i c)
  unfolding optional
  by-optional kind i c = record { beside = go }
    where
      go : (s t : List Rec) → Beside W t (optional first kind i c s) (optional second kind i c (s ++ t))
      go [] t = excused wanted
      go (r ∷ rs) t = beside-cond (eqb r.code c) ((by-unless (records kind i r) by_pure).beside rs t) value

  by-reflection : (n : ℕ) → SideBySide W (reflection_from n) (reflection_from n)
  unfolding reflection_from
  by-reflection n = by_cond (eqb n 0x8000) by_pure (by-when not_of_grammar (eqb n 0) by_pure)

  by_after : (kind : ℕ) (o : Option (List ℕ)) → SideBySide W (after_strans first kind o) (after_strans second kind o)
  unfolding after_strans
  by_after kind none = by_pure
  by_after kind (some b) = by-bind (by-reflection (number b)) (λ r. by-bind (by-optional kind 0 MAG) (λ m. by-bind (by-optional kind 0 ANGLE) (λ a. by_pure)))

  by-strans : (kind : ℕ) → SideBySide W (strans first kind) (strans second kind)
  unfolding strans
  by-strans kind = by-bind (by-optional kind 0 STRANS) (by_after kind)

  by-some : (n : ℕ) → SideBySide W (some_of n) (some_of n)
  unfolding some_of
  by-some n = by-when (beyond R.ColumnsOrRows) (leb 1 n) by_pure

  by-axis : (n : ℕ) (p o : ℤ) → SideBySide W (axis_step first n p o) (axis_step second n p o)
  unfolding axis_step
  by-axis n p o = by-bind (by-present (beyond R.ArrayCorners) (step_of n (p -ℤ o))) (λ a. by-unless (steps a) by_pure)

  by-step : (n : ℕ) (p o : Point ℤ) → SideBySide W (point_step first n p o) (point_step second n p o)
  unfolding point_step
  by-step n p o = by-bind (by-axis n p.x o.x) (λ x. by-bind (by-axis n p.y o.y) (λ y. by_pure))

  by_shape : (kind t : ℕ) → SideBySide W (shape_body first kind t) (shape_body second kind t)
  unfolding shape_body
  by_shape kind t = by-bind (by-item kind 0 LAYER) (λ l. by-bind (by-item kind 0 t) (λ d. by-bind (by-item kind 0 XY) (λ ps. by_pure)))

  by-path : (kind : ℕ) → SideBySide W (path_body first kind) (path_body second kind)
  unfolding path_body
  by-path kind =
      by-bind (by-item kind 0 LAYER) (λ l. by-bind (by-item kind 0 DATATYPE) (λ d. by-bind (by-optional kind 0 PATHTYPE) (λ t. by-bind (by-optional kind 0 WIDTH)
      (λ w. by-bind (by-optional kind 0 BGNEXTN) (λ b. by-bind (by-optional kind 0 ENDEXTN) (λ e. by-bind (by-item kind 0 XY) (λ ps. by_pure)))))))

  by-text : (kind : ℕ) → SideBySide W (text_body first kind) (text_body second kind)
  unfolding text_body
  by-text kind =
      by-bind (by-item kind 0 LAYER) (λ l. by-bind (by-item kind 0 TEXTTYPE) (λ t. by-bind (by-optional kind 0 PRESENTATION) (λ p. by-bind (by-strans kind)
      (λ u. by-bind (by-item kind 0 XY) (λ ps. by-bind (by-present not_of_grammar (one_point (points_of ps))) (λ o. by-bind (by-item kind 0 STRING) (λ s. by_pure)))))))

  by-sref : (kind : ℕ) → SideBySide W (sref_body first kind) (sref_body second kind)
  unfolding sref_body
  by-sref kind =
      by-bind (by-item kind 0 SNAME) (λ n. by-bind (by-strans kind) (λ u. by-bind (by-item kind 0 XY) (λ ps. by-bind (by-present not_of_grammar (one_point (points_of ps))) (λ o. by_pure))))

  by-aref : (kind : ℕ) → SideBySide W (aref_body first kind) (aref_body second kind)
  unfolding aref_body
  by-aref kind =
      by-bind (by-item kind 0 SNAME) (λ n. by-bind (by-strans kind) (λ u. by-bind (by-item kind 0 COLROW) (λ m. by-bind (by-some (number (take 2 m))) (λ c. by-bind (by-some (number (drop 2 m)))
      (λ w. by-bind (by-item kind 0 XY) (λ ps. by-bind (by-present not_of_grammar (three_points (points_of ps)))
      (λ k. by-bind (by-step c k.column_end k.origin) (λ a. by-bind (by-step w k.row_end k.origin) (λ b. by_pure)))))))))

  by-body : (kind : ℕ) → SideBySide W (body_after first kind) (body_after second kind)
  unfolding body_after
  by-body kind =
      by_cond (eqb kind BOUNDARY) (by_map boundary (by_shape kind DATATYPE)) (by_cond (eqb kind PATH) (by_map path (by-path kind)) (by_cond (eqb kind TEXT) (by_map text (by-text kind))
      (by_cond (eqb kind NODE) (by_map node (by_shape kind NODETYPE)) (by_cond (eqb kind SREF) (by_map sref (by-sref kind)) (by_cond (eqb kind AREF) (by_map aref (by-aref kind))
      (by_cond (eqb kind BOX) (by_map box (by_shape kind BOXTYPE)) by-fail))))))

  by-or-end : (kind i : ℕ) {p q : Reader (List Property)} (o : Option (List ℕ)) → SideBySide W p q → SideBySide W (property_or_end first kind i p o) (property_or_end second kind i q o)
  unfolding property_or_end
  by-or-end kind i (some b) h = by_pure
  by-or-end kind i none h = by-bind (by-item kind i PROPATTR) (λ a. by-bind (by-item kind i PROPVALUE) (λ v. by-bind h (λ qs. by_pure)))

  -- the second with more room, too
  by-properties_f : (f g kind i : ℕ) → f ≤ g → SideBySide W (properties_f first f kind i) (properties_f second g kind i)
  unfolding properties_f
  by-properties_f zero g kind i h = record { beside = λ s t. excused wanted }
  by-properties_f (suc f) zero kind i h = absurd (not-suc-le-zero h)
  by-properties_f (suc f) (suc g) kind i h = by-bind (by-optional kind i ENDEL) (λ o. by-or-end kind i o (by-properties_f f g kind (suc i) (le_of_suc-le-suc h)))

  by-properties : (kind : ℕ) → SideBySide W (properties first kind) (properties second kind)
  unfolding properties
  by-properties kind = record { beside = λ s t. (by-properties_f (length s) (length (s ++ t)) kind 0 (omega (arith, length-append s t))).beside s t }

  by-element : (kind : ℕ) → SideBySide W (element_after first kind) (element_after second kind)
  unfolding element_after
  by-element kind = by-bind (by-optional kind 0 ELFLAGS) (λ f. by-bind (by-optional kind 0 PLEX) (λ p. by-bind (by-body kind) (λ b. by-bind (by-properties kind) (λ qs. by_pure))))

  by-from : (i : ℕ) (r : Rec) → SideBySide (Excused W) (element_from first i r) (element_from second i r)
  unfolding element_from
  by-from i r = by-block (suc i) (by-unless (records r.code i r) (by-element r.code))

  by-elements_f : (f g i : ℕ) → f ≤ g → SideBySide (Excused W) (elements_f first f i) (elements_f second g i)
  unfolding elements_f
  by-elements_f zero g i h = record { beside = λ s t. excused wanted }
  by-elements_f (suc f) zero i h = absurd (not-suc-le-zero h)
  by-elements_f (suc f) (suc g) i h = record { beside = go (by-elements_f f g (suc i) (le_of_suc-le-suc h)) }
    where
      go : SideBySide (Excused W) (elements_f first f (suc i)) (elements_f second g (suc i)) → (s t : List Rec) → Beside (Excused W) t (elements_f first (suc f) i s) (elements_f second (suc g) i (s ++ t))
      go others [] t = excused wanted
      go others (r ∷ rs) t =
          beside-cond (eqb r.code ENDSTR) value
          (beside-cond (begins r.code) (beside-follow ((by-from i r).beside rs t) (λ e. by-bind others (λ es. by_pure))) fault)

  by-elements : SideBySide (Excused W) (elements first) (elements second)
  unfolding elements
  by-elements = record { beside = λ s t. (by-elements_f (length s) (length (s ++ t)) 0 (omega (arith, length-append s t))).beside s t }

  pub by-structure : SideBySide (Excused W) (structure first) (structure second)
  unfolding structure
  by-structure = by-bind (by-block 0 (by-item 0 0 BGNSTR)) (λ t. by-bind (by-block 0 (by-item 0 0 STRNAME)) (λ n. by-bind by-elements (λ es. by_pure)))
