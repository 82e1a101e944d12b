-- What is alike passes the tests of specs/Told: a line for each record of `Alike*`, with a term for each of its clauses. Assumes nothing.
use mathlib.Core.Path.{◌≡◌, refl, sym, subst}
use mathlib.Core.Bool.{Bool, true, false, not, ◌&&◌}
use mathlib.Core.Option.{Option, none, some}
use mathlib.Core.List.{List, [], ◌∷◌}
use Prim.Native.Nat.{ℕ, zero, suc, ◌<◌}
use native.Mathlib.Omega.{arith}
use borrow.Author.Tests.{eqb-true}
use lib.Dec.{T, eqb, eqb_refl, le→leb}
use lib.IntN.{ℤ}
use lib.Ieee.{Float}
use lib.Ieee.Fits.{and_i}
use Rattle.parsing.specs.All.{All, done, more}
use Rattle.binary64.specs.Value.{scaled, same_int}
use Rattle.gds_format.proofs.DecodeLaws.{same-own}
use Rattle.units.specs.declared.Unit.{Unit}
use Rattle.units.specs.Point.{Point}
use Rattle.units.specs.Physical.{physical, passed}
use Rattle.conversion.specs.declared.GdsRoundingPolicy.{GdsRoundingPolicy}
use Rattle.conversion.specs.declared.GdsRoundingPolicy.TheVariants.{Nearest, Floor, Ceil, ErrorIfOffGrid}
use Rattle.conversion.specs.Close.{allowance, Close}
use Rattle.sheet.specs.Element as S
use Rattle.sheet.specs.Cell.{Cell}
use Rattle.stream.specs.Structure as D
use Rattle.stream.specs.Drawn.{Transform, Worth, Drawn}
use Rattle.cases.specs.Case.{same_bytes}
use Rattle.cell.specs.Draws as Draws
use Rattle.guards.specs.Told as Told

-- ---- tests

pub all : {ts : Told.Tests} → All T ts → T (Told.all ts)
all done = tt
all (more {a = b} {s = ts} h hs) = and_i b (Told.all ts) h (all hs)

eq : {m n : ℕ} → m ≡ n → T (eqb m n)
eq {m} e = subst (λ (n : ℕ). T (eqb m n)) e (eqb_refl m)

bytes-refl : (s : List ℕ) → T (same_bytes s s)
bytes-refl [] = tt
bytes-refl (b ∷ s) = and_i (eqb b b) (same_bytes s s) (eqb_refl b) (bytes-refl s)

pub bytes : {s t : List ℕ} → s ≡ t → T (same_bytes s t)
bytes {s} e = subst (λ (t : List ℕ). T (same_bytes s t)) e (bytes-refl s)

own : (z : ℤ) → T (same_int z z)
own z = subst T (sym (same-own z)) tt

int : {y z : ℤ} → y ≡ z → T (same_int y z)
int {y} e = subst (λ (z : ℤ). T (same_int y z)) e (own y)

flag-refl : (b : Bool) → T (Told.same b b)
flag-refl true = tt
flag-refl false = tt

flag : {a b : Bool} → a ≡ b → T (Told.same a b)
flag {a} e = subst (λ (b : Bool). T (Told.same a b)) e (flag-refl a)

number-refl : (t : Option ℕ) → T (Told.both Told.number t t)
number-refl none = tt
number-refl (some n) = all {ts = Told.number n n} (more (eqb_refl n) done)

number : {t u : Option ℕ} → t ≡ u → T (Told.both Told.number t u)
number {t} e = subst (λ (u : Option ℕ). T (Told.both Told.number t u)) e (number-refl t)

integer-refl : (t : Option ℤ) → T (Told.both Told.integer t t)
integer-refl none = tt
integer-refl (some z) = all {ts = Told.integer z z} (more (own z) done)

integer : {t u : Option ℤ} → t ≡ u → T (Told.both Told.integer t u)
integer {t} e = subst (λ (u : Option ℤ). T (Told.both Told.integer t u)) e (integer-refl t)

module _ {A B : Type 0} {R : A → B → Type 0} (t : A → B → Told.Tests) (law : (a : A) (b : B) → R a b → All T (t a b)) where
  each : {s : List A} {u : List B} → Draws.Each R s u → T (Told.each t s u)
  each Draws.done = tt
  each (Draws.more {a = a} {b = b} {s = s} {t = u} h hs) = and_i (Told.all (t a b)) (Told.each t s u) (all (law a b h)) (each hs)

  both : {a : Option A} {b : Option B} → Draws.Both R a b → T (Told.both t a b)
  both Draws.absent = tt
  both (Draws.present {a = a} {b = b} h) = all (law a b h)

below : (n : ℕ) (t : ℕ → Bool) → ((i : ℕ) → i < n → T (t i)) → T (Told.below n t)
below zero t h = tt
below (suc n) t h = and_i (Told.below n t) (t n) (below n t (λ i l. h i (omega arith))) (h n (omega arith))

array : (c r : ℕ) → ((c ≡ 1) × (r ≡ 1) → ⊥) → T (not (eqb c 1 && eqb r 1))
array c r h = by (eqb c 1) (eqb r 1) (eqb-true c 1) (eqb-true r 1)
  where
    by : (a b : Bool) → (a ≡ true → c ≡ 1) → (b ≡ true → r ≡ 1) → T (not (a && b))
    by true true p q = absurd (h (p refl, q refl))
    by true false p q = tt
    by false true p q = tt
    by false false p q = tt

-- ---- how near

pub allowed : (r : GdsRoundingPolicy) → Told.allowed r ≡ allowance r
allowed Nearest = refl
allowed Floor = refl
allowed Ceil = refl
allowed ErrorIfOffGrid = refl

-- ---- properties and transforms

property : (p : S.Property) (q : D.Property) → Draws.AlikeProperty p q → All T (Told.property p q)
property p q h = more (eq h.attribute) (more (bytes h.value) done)

transform : {r : Bool} {m a : Float} {t : Transform} → Draws.AlikeTransform r m a t → All T (Told.transform r m a t)
transform h = more (flag h.reflected) (more h.magnification_finite (more h.degrees_finite (more (int h.magnified) (more (int h.rotated) done))))

-- ---- elements

module _ (r : GdsRoundingPolicy) (d : Float) where
  close : (p : Float) (q : ℤ) → Close (allowance r) d (scaled p) q → T (Told.near (Told.allowed r) d (scaled p) q)
  close p q h = rw (allowed r) (le→leb _ _ h)

  coordinate_by : (v : Option ℤ) (p : Float) (q : ℤ) → Draws.AlikeBy r d v p q → All T (Told.coordinate_by r d v p q)
  coordinate_by none p q h = more h.0 (more (close p q h.1) done)
  coordinate_by (some v) p q h = more (int h) done

  coordinate : (u : Unit) (q : ℤ) → Draws.AlikeCoordinate r d u q → All T (Told.coordinate r d u q)
  coordinate u q h = coordinate_by (passed d u) (physical u) q h

  point : (p : Point Unit) (q : Point ℤ) → Draws.AlikePoint r d p q → All T (Told.point r d p q)
  point p q h = more (all (coordinate p.x q.x h.x)) (more (all (coordinate p.y q.y h.y)) done)

  instances : {c w : ℕ} {po pa pb : Float} {o a b : ℤ} → Draws.AlikeInstances r d c w po pa pb o a b → All T (Told.instances r d c w po pa pb o a b)
  instances {c} {w} {po} {pa} {pb} {o} {a} {b} h =
      more h.origin_finite (more h.column_finite (more h.row_finite (more (below c (λ i. Told.below w (t i)) (λ i l. below w (t i) (at i l))) done)))
    where
      t : ℕ → ℕ → Bool
      t = Told.instance r d po pa pb o a b

      at : (i : ℕ) → i < c → (j : ℕ) → j < w → T (Told.instance r d po pa pb o a b i j)
      at i l j k = rw (allowed r) (le→leb _ _ (h.instances i j l k))

  shape : {e : S.Shape} {w : D.Shape} → Draws.AlikeShape r d e w → All T (Told.shape r d e w)
  shape h = more (eq h.layer) (more (eq h.datatype) (more (each (Told.point r d) point h.points) done))

  path : {e : S.Path} {w : D.Path} → Draws.AlikePath r d e w → All T (Told.path r d e w)
  path h =
      more (eq h.layer) (more (eq h.datatype) (more (number h.path_type) (more (length h.width) (more (length h.begin) (more (length h.end) (more (each (Told.point r d) point h.points) done))))))
    where
      length : {u : Option Unit} {q : Option ℤ} → Draws.Both (Draws.AlikeCoordinate r d) u q → T (Told.both (Told.coordinate r d) u q)
      length = both (Told.coordinate r d) coordinate

  text : {e : S.Text} {w : D.Text ℕ Transform} → Draws.AlikeText r d e w → All T (Told.text r d e w)
  text h =
      more (eq h.layer) (more (eq h.texttype) (more (eq h.presentation) (more (all (transform h.transform)) (more (all (point _ _ h.origin)) (more (bytes h.string) done)))))

  sref : {e : S.Reference} {w : D.Sref Transform} → Draws.AlikeSref r d e w → All T (Told.sref r d e w)
  sref h = more (eq h.columns) (more (eq h.rows) (more (bytes h.name) (more (all (transform h.transform)) (more (all (point _ _ h.origin)) done))))

  aref : {e : S.Reference} {w : D.Aref Transform} → Draws.AlikeAref r d e w → All T (Told.aref r d e w)
  aref h =
      more (array _ _ h.array) (more (bytes h.name) (more (all (transform h.transform)) (more (eq h.columns) (more (eq h.rows) (more (all (instances h.x)) (more (all (instances h.y)) done))))))

  box : {e : S.Box} {w : D.Shape} → Draws.AlikeBox r d e w → All T (Told.box r d e w)
  box {e} h = more (eq h.layer) (more (eq h.boxtype) (more (subst (λ (ps : List (Point ℤ)). T (Told.five (Told.corners r d e) ps)) (sym h.points) (all fine)) done))
    where
      fine : All T (Told.corners r d e h.corner (record { x = h.opposite.x; y = h.corner.y }) h.opposite (record { x = h.corner.x; y = h.opposite.y }) h.corner)
      fine =
          more (all (point _ _ h.first)) (more (all (point _ _ h.second))
          (more (own h.corner.y) (more (own h.opposite.x) (more (own h.opposite.y) (more (own h.corner.x) (more (own h.corner.x) (more (own h.corner.y) done)))))))

  body : {e : S.Body} {w : D.Body ℕ Transform} → Draws.AlikeBody r d e w → All T (Told.body r d e w)
  body (Draws.polygon h) = shape h
  body (Draws.path h) = path h
  body (Draws.text h) = text h
  body (Draws.node h) = shape h
  body (Draws.sref h) = sref h
  body (Draws.aref h) = aref h
  body (Draws.box h) = box h

  element : (e : S.Element) (w : Worth) → Draws.AlikeElement r d e w → All T (Told.element r d e w)
  element e w h = more (number h.flags) (more (integer h.plex) (more (all (body h.body)) (more (each Told.property property h.properties) done)))

  pub told : {c : Cell} {s : Drawn} → Draws.Alike r d c s → All T (Told.told r d c s)
  told h = more (bytes h.name) (more (each (Told.element r d) element h.elements) done)
