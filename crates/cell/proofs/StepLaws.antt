-- What a step of writing an element gives, whatever the step: refused, a refusal of the designer's, 7 to 20, 26 or 27 (`designer`); not refused, deviations that are q × d − p of their own p and q, and count (`told`). Assumes nothing.
use mathlib.Core.Path.{◌≡◌, refl, ap, subst}
use mathlib.Core.Bool.{Bool, true, false, ◌||◌, cond}
use mathlib.Core.Option.{Option, none, some}
use mathlib.Core.List.{List, [], ◌∷◌, ◌++◌}
use Prim.Native.Nat.{ℕ, suc}
use native.Mathlib.Omega.{arith}
use lib.Dec.{T}
use lib.IntN.{ℤ}
use lib.Ieee.{Float, binary64, eq, fits}
use Rattle.binary64.specs.Value.{zero64, one64}
use Rattle.binary64.proofs.FmaFits.{fma-fits}
use Rattle.refusal.specs.declared.Refusal.{Refusal}
use Rattle.refusal.specs.Number.{number}
use Rattle.units.specs.declared.Unit.{Unit}
use Rattle.units.specs.Point.{Point, endpoint}
use Rattle.units.specs.Physical.{passed}
use Rattle.gds_format.specs.Real8.{real8}
use Rattle.conversion.specs.declared.GdsRoundingPolicy.{GdsRoundingPolicy}
use Rattle.conversion.specs.declared.GdsRoundingPolicy.TheVariants.{Nearest, Floor, Ceil, ErrorIfOffGrid}
use Rattle.conversion.specs.declared.Deviation.{Deviation}
use Rattle.conversion.specs.Made.{Made, refused, made, after, need, ◌>>=◌, ◌>>◌}
use Rattle.conversion.specs.Convert.{Spot, rounded, ranged, grid_value, database_value, convert_physical, physical_value, convert_by, convert_unit, array_endpoint}
use Rattle.conversion.specs.Points.{write_point, write_points, write_length}
use Rattle.conversion.specs.Array.{physical_point, physical_spacing, turned, write_physical, write_endpoint, convert_array}
use Rattle.conversion.proofs.MadeLaws.{Yields, no-yield, made_yields, steps}
use Rattle.conversion.proofs.ConvertLaws.{value-passed, ranged-is, physical-fits, physical-value-is}
use Rattle.conversion.proofs.SideLaws.{AllTold, told-append, deviations-told}
use Rattle.sheet.specs.Element as S
use Rattle.cell.specs.Limits.{within}
use Rattle.cell.specs.Write.{layer_and_type, attribute_and_length, write_properties, encodable, write_real, write_magnification, write_angle, write_transform, single, write_shape, write_polygon, write_node, write_path, write_text, write_sref, write_aref, write_reference, write_box, write_body, write_element}

-- "Designer: .." and, of the head alone, 6
abbrev pub Designer : Refusal → Type 0
Designer r = T (within 7 (number r) 20 || within 26 (number r) 27)

module _ (d : Float) where
  -- ---- steps, in the database unit d

  pub record Lawful {A : Type 0} (m : Made A) : Type 0 where
    pub designer : (r : Refusal) → m ≡ refused r → Designer r
    pub told : (a : A) (vs : List Deviation) → m ≡ made a vs → AllTold d vs

  fine : {A : Type 0} {a : A} {vs : List Deviation} → AllTold d vs → Lawful (made a vs)
  fine {a = a} {vs = vs} h = record {
    designer = λ r e. let z : ◌≡◌ {A = ℕ} 0 1 = cc in absurd (omega arith);
    told = λ b ws e. let f : vs ≡ ws = cc in subst (AllTold d) f h;
  }

  plain : {A : Type 0} {a : A} → Lawful (made a [])
  plain = fine tt

  stop : {A : Type 0} (r : Refusal) → Designer r → Lawful {A = A} (refused r)
  stop r h = record {
    designer = λ s e. let f : r ≡ s = cc in subst Designer f h;
    told = λ a vs e. let z : ◌≡◌ {A = ℕ} 0 1 = cc in absurd (omega arith);
  }

  -- where the first step gives a, the second is lawful
  bind-known : {A B : Type 0} {m : Made A} {f : A → Made B} → Lawful m → ((a : A) → Yields m a → Lawful (f a)) → Lawful (m >>= f)
  unfolding ◌>>=◌
  bind-known {A} {B} {m} {f} h k = record { designer = λ r e. stops m r (h.designer r) (λ a y. k a y) e; told = λ b ws e. tells m b ws (λ a vs. h.told a vs) (λ a y. k a y) e }
    where
      later : (vs : List Deviation) (n : Made B) (r : Refusal) → ((s : Refusal) → n ≡ refused s → Designer s) → after vs n ≡ refused r → Designer r
      later vs (refused s) r g e = g r e
      later vs (made b ws) r g e = let z : ◌≡◌ {A = ℕ} 0 1 = cc in absurd (omega arith)

      stops : (m : Made A) (r : Refusal) → (m ≡ refused r → Designer r) → ((a : A) → Yields m a → Lawful (f a)) → (m >>= f) ≡ refused r → Designer r
      stops (refused s) r g k e = let q : s ≡ r = cc in g (ap refused q)
      stops (made a vs) r g k e = later vs (f a) r (k a (record { log = vs; is = refl })).designer e

      joined : (vs : List Deviation) (n : Made B) (b : B) (ws : List Deviation) → AllTold d vs → ((b : B) (us : List Deviation) → n ≡ made b us → AllTold d us) → after vs n ≡ made b ws → AllTold d ws
      joined vs (refused s) b ws h g e = let z : ◌≡◌ {A = ℕ} 0 1 = cc in absurd (omega arith)
      joined vs (made c us) b ws h g e = let q : vs ++ us ≡ ws = cc in subst (AllTold d) q (told-append d vs us h (g c us refl))

      tells : (m : Made A) (b : B) (ws : List Deviation) → ((a : A) (vs : List Deviation) → m ≡ made a vs → AllTold d vs) → ((a : A) → Yields m a → Lawful (f a)) → (m >>= f) ≡ made b ws → AllTold d ws
      tells (refused s) b ws g k e = let z : ◌≡◌ {A = ℕ} 0 1 = cc in absurd (omega arith)
      tells (made a vs) b ws g k e = joined vs (f a) b ws (g a vs refl) (k a (record { log = vs; is = refl })).told e

  bind : {A B : Type 0} {m : Made A} {f : A → Made B} → Lawful m → ((a : A) → Lawful (f a)) → Lawful (m >>= f)
  bind h k = bind-known h (λ a y. k a)

  then : {A B : Type 0} {m : Made A} {n : Made B} → Lawful m → Lawful n → Lawful (m >> n)
  unfolding ◌>>◌
  then h k = bind h (λ a. k)

  test : (t : Bool) (r : Refusal) → Designer r → Lawful (need t r)
  unfolding need
  test true r h = plain
  test false r h = stop r h

  -- a check that what follows may use
  then-passed : {B : Type 0} (t : Bool) (r : Refusal) {n : Made B} → Designer r → (T t → Lawful n) → Lawful (need t r >> n)
  unfolding ◌>>◌ need
  then-passed true r h k = bind-known plain (λ a y. k tt)
  then-passed false r h k = bind-known (stop r h) (λ a y. no-yield y)

  either : {A : Type 0} (t : Bool) {m n : Made A} → Lawful m → Lawful n → Lawful (cond t m n)
  either true h k = h
  either false h k = k

  -- ---- conversions

  rounded-lawful : (policy : GdsRoundingPolicy) (s : Float) → Lawful (rounded policy s)
  unfolding rounded
  rounded-lawful Nearest s = plain
  rounded-lawful Floor s = plain
  rounded-lawful Ceil s = plain
  rounded-lawful ErrorIfOffGrid s = then (test _ _ tt) plain

  ranged-lawful : (q : ℤ) → Lawful (ranged q)
  unfolding ranged
  ranged-lawful q = then (test _ _ tt) plain

  physical-lawful : (u : Unit) → Lawful (physical_value u)
  unfolding physical_value
  physical-lawful u = then (test _ _ tt) (then (test _ _ tt) plain)

  endpoint-lawful : (at : Spot) (o a : ℤ) (n : ℕ) (p : Float) → T (fits binary64 p) → Lawful (array_endpoint d at o a n p)
  unfolding array_endpoint
  endpoint-lawful at o a n p P = then-passed _ _ tt (λ f. bind-known (ranged-lawful (endpoint o a n)) (λ q y. fine (deviations-told d at p q P f (ranged-is (endpoint o a n) q y).0)))

  point-physical-lawful : (p : Point Unit) → Lawful (physical_point p)
  unfolding physical_point
  point-physical-lawful p = bind (physical-lawful _) (λ x. bind (physical-lawful _) (λ y. plain))

  -- every physical value is a double
  abbrev FitsPoint : Point Float → Type 0
  FitsPoint p = T (fits binary64 p.x) × T (fits binary64 p.y)

  point-fits : (o : Point Unit) (p : Point Float) → Yields (physical_point o) p → FitsPoint p
  unfolding physical_point
  point-fits o p y =
      let k = steps y in
      let l = steps k.then in
      subst FitsPoint (made_yields l.then) (
        subst (λ (x : Float). T (fits binary64 x)) (physical-value-is o.x k.value k.first) (physical-fits o.x),
        subst (λ (x : Float). T (fits binary64 x)) (physical-value-is o.y l.value l.first) (physical-fits o.y),
      )

  turned-fits : (sine cosine : Float) (p : Point Float) → FitsPoint (turned sine cosine p)
  unfolding turned
  turned-fits sine cosine p = (fma-fits binary64 _ _ _, fma-fits binary64 _ _ _)

  spacing-lawful : (p : Option (Point Unit)) → Lawful (physical_spacing p)
  unfolding physical_spacing
  spacing-lawful none = plain
  spacing-lawful (some p) = point-physical-lawful p

  module _ (policy : GdsRoundingPolicy) where
    database-lawful : (p : Float) → Lawful (database_value policy d p)
    unfolding database_value grid_value
    database-lawful p = then (test _ _ tt) (then (test _ _ tt) (bind (rounded-lawful policy _) ranged-lawful))

    value-lawful : (at : Spot) (p : Float) → T (fits binary64 p) → Lawful (convert_physical policy d at p)
    unfolding convert_physical
    value-lawful at p P = bind-known (database-lawful p) (λ q y. let k = value-passed policy d p q y in fine (deviations-told d at p q P k.physical k.ranged))

    coordinate-lawful : (at : Spot) (u : Unit) → Lawful (convert_unit policy d at u)
    unfolding convert_unit convert_by
    coordinate-lawful at u = go (passed d u)
      where
        go : (x : Option ℤ) → Lawful (convert_by policy d at u x)
        go none = bind-known (physical-lawful u) (λ p y. value-lawful at p (subst (λ (x : Float). T (fits binary64 x)) (physical-value-is u p y) (physical-fits u)))
        go (some v) = plain

    point-lawful : (f k : ℕ) (p : Point Unit) → Lawful (write_point policy d f k p)
    unfolding write_point
    point-lawful f k p = bind (coordinate-lawful _ _) (λ x. bind (coordinate-lawful _ _) (λ y. plain))

    points-lawful : (k : ℕ) (ps : List (Point Unit)) → Lawful (write_points policy d k ps)
    unfolding write_points
    points-lawful k [] = plain
    points-lawful k (p ∷ ps) = bind (point-lawful _ k p) (λ q. bind (points-lawful (suc k) ps) (λ qs. plain))

    length-lawful : (f : ℕ) (u : Option Unit) → Lawful (write_length policy d f u)
    unfolding write_length
    length-lawful f none = plain
    length-lawful f (some u) = bind (coordinate-lawful _ u) (λ q. plain)

    both-lawful : (f : ℕ) (p : Point Float) → FitsPoint p → Lawful (write_physical policy d f p)
    unfolding write_physical
    both-lawful f p P = bind (value-lawful _ _ P.0) (λ x. bind (value-lawful _ _ P.1) (λ y. plain))

    corner-lawful : (f : ℕ) (o a : Point ℤ) (n : ℕ) (po pa : Point Float) → Lawful (write_endpoint policy d f o a n po pa)
    unfolding write_endpoint
    corner-lawful f o a n po pa = bind (endpoint-lawful _ _ _ _ _ (fma-fits binary64 _ _ _)) (λ x. bind (endpoint-lawful _ _ _ _ _ (fma-fits binary64 _ _ _)) (λ y. plain))

    array_lawful : (sine cosine : Float) (columns rows : ℕ) (o : Point Unit) (c r : Option (Point Unit)) → Lawful (convert_array policy d sine cosine columns rows o c r)
    unfolding convert_array
    array_lawful sine cosine columns rows o c r =
        bind-known (point-physical-lawful o)
        (λ po y. bind (both-lawful _ po (point-fits o po y))
        (λ q. bind (spacing-lawful c)
        (λ pc. bind (spacing-lawful r)
        (λ pr. bind (both-lawful _ _ (turned-fits sine cosine pc))
        (λ a. bind (both-lawful _ _ (turned-fits sine cosine pr))
        (λ b. then (corner-lawful _ _ _ _ _ _) (then (corner-lawful _ _ _ _ _ _) plain)))))))

  -- ---- elements

  layers-lawful : (l t : ℕ) → Lawful (layer_and_type l t)
  unfolding layer_and_type
  layers-lawful l t = then (test _ _ tt) (test _ _ tt)

  property-lawful : (a n : ℕ) → Lawful (attribute_and_length a n)
  unfolding attribute_and_length
  property-lawful a n = then (test _ _ tt) (test _ _ tt)

  properties-lawful : (qs : List S.Property) → Lawful (write_properties qs)
  unfolding write_properties
  properties-lawful [] = plain
  properties-lawful (q ∷ qs) = then (property-lawful _ _) (bind (properties-lawful qs) (λ rest. plain))

  real-lawful : (x : Float) → Lawful (write_real x)
  unfolding write_real encodable
  real-lawful x = bind (go (real8 x)) (λ b. plain)
    where
      go : (b : Option (List ℕ)) → Lawful (encodable b)
      go none = stop _ tt
      go (some b) = plain

  magnification-lawful : (m : Float) → Lawful (write_magnification m)
  unfolding write_magnification
  magnification-lawful m = either (eq m one64) plain (then (test _ _ tt) (real-lawful _))

  angle-lawful : (a : Float) → Lawful (write_angle a)
  unfolding write_angle
  angle-lawful a = either (eq a zero64) plain (real-lawful _)

  transform-lawful : (a m : Float) (r : Bool) → Lawful (write_transform a m r)
  unfolding write_transform
  transform-lawful a m r = bind (magnification-lawful m) (λ x. bind (angle-lawful a) (λ y. plain))

  module _ (policy : GdsRoundingPolicy) where
    shape-lawful : (least most : ℕ) (e : S.Shape) → Lawful (write_shape policy d least most e)
    unfolding write_shape
    shape-lawful least most e = then (test _ _ tt) (then (layers-lawful _ _) (bind (points-lawful policy 0 _) (λ ps. plain)))

    path-lawful : (e : S.Path) → Lawful (write_path policy d e)
    unfolding write_path
    path-lawful e =
        then (test _ _ tt) (then (layers-lawful _ _)
        (bind (length-lawful policy _ _) (λ w. bind (length-lawful policy _ _) (λ b. bind (length-lawful policy _ _) (λ n. bind (points-lawful policy 0 _) (λ ps. plain))))))

    text-lawful : (e : S.Text) → Lawful (write_text policy d e)
    unfolding write_text
    text-lawful e = then (layers-lawful _ _) (then (test _ _ tt) (bind (transform-lawful _ _ _) (λ u. bind (point-lawful policy _ 0 _) (λ o. plain))))

    reference-lawful : (e : S.Reference) → Lawful (write_reference policy d e)
    unfolding write_reference write_sref write_aref
    reference-lawful e =
        then (test _ _ tt) (then (test _ _ tt) (then (test _ _ tt) (then (test _ _ tt)
        (bind (transform-lawful _ _ _)
        (λ u. either (single e) (bind (bind (point-lawful policy _ 0 _) (λ o. plain)) (λ w. plain))
        (bind (then (test _ _ tt) (bind (array_lawful policy _ _ _ _ _ _ _) (λ c. plain))) (λ w. plain)))))))

    box-lawful : (e : S.Box) → Lawful (write_box policy d e)
    unfolding write_box
    box-lawful e = then (layers-lawful _ _) (bind (points-lawful policy 0 _) (λ ps. then (test _ _ tt) plain))

    body-lawful : (b : S.Body) → Lawful (write_body policy d b)
    unfolding write_body write_polygon write_node
    body-lawful (S.polygon e) = bind (bind (shape-lawful _ _ e) (λ w. then (test _ _ tt) plain)) (λ w. plain)
    body-lawful (S.path e) = bind (path-lawful e) (λ w. plain)
    body-lawful (S.text e) = bind (text-lawful e) (λ w. plain)
    body-lawful (S.node e) = bind (shape-lawful _ _ e) (λ w. plain)
    body-lawful (S.reference e) = reference-lawful e
    body-lawful (S.box e) = bind (box-lawful e) (λ w. plain)

    -- AN ELEMENT: refused by 7 to 20, 26 and 27 alone, and its deviations are told
    pub element-lawful : (e : S.Element) → Lawful (write_element policy d e)
    unfolding write_element
    element-lawful e = then (test _ _ tt) (bind (body-lawful e.body) (λ b. bind (properties-lawful e.properties) (λ qs. plain)))
