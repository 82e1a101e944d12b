-- What passes the tests of specs/Told is alike: a line for each record of `Alike*`, with a term for each of its clauses. Assumes nothing.
use mathlib.Core.Path.{◌≡◌, refl, ap, ap₂, subst}
use mathlib.Core.Bool.{Bool, true, false, not, ◌&&◌}
use mathlib.Core.Option.{Option, none, some}
use mathlib.Core.List.{List, [], ◌∷◌}
use Prim.Native.Nat.{ℕ, zero, suc, ◌+◌, ◌*◌, ◌≤◌, ◌<◌}
use native.Mathlib.Decide.{dec_le}
use native.Mathlib.Omega.{arith}
use borrow.Author.Tests.{eq-eqb}
use lib.Dec.{T, eqb, eqb→eq, leb→le}
use lib.IntN.{ℤ, pos, ◌+ℤ◌, ◌*ℤ◌}
use lib.Ieee.{Float}
use lib.Ieee.Fits.{and_l, and_r}
use Rattle.parsing.specs.All.{All, done, more}
use Rattle.binary64.specs.Value.{scaled, same_int}
use Rattle.gds_format.proofs.DecodeLaws.{same-is}
use Rattle.units.specs.declared.Unit.{Unit}
use Rattle.units.specs.Point.{Point}
use Rattle.units.specs.Physical.{physical, passed}
use Rattle.conversion.specs.declared.GdsRoundingPolicy.{GdsRoundingPolicy}
use Rattle.conversion.specs.Close.{allowance, Close}
use Rattle.sheet.specs.Element as S
use Rattle.sheet.specs.Cell.{Cell}
use Rattle.stream.specs.Structure as D
use Rattle.stream.specs.Drawn.{Transform, Worth, Drawn, instance_at}
use Rattle.cases.specs.Case.{same_bytes}
use Rattle.cell.specs.Draws as Draws
use Rattle.guards.specs.Told as Told
use Rattle.guards.proofs.ToldLaws.{allowed}

-- ---- tests

pub all : (ts : Told.Tests) → T (Told.all ts) → All T ts
all [] t = done
all (b ∷ ts) t = more (and_l b (Told.all ts) t) (all ts (and_r b (Told.all ts) t))

pub bytes : (s t : List ℕ) → T (same_bytes s t) → s ≡ t
bytes [] [] h = refl
bytes [] (b ∷ t) h = absurd h
bytes (a ∷ s) [] h = absurd h
bytes (a ∷ s) (b ∷ t) h = ap₂ (λ (c : ℕ) (u : List ℕ). c ∷ u) (eqb→eq a b (and_l (eqb a b) (same_bytes s t) h)) (bytes s t (and_r (eqb a b) (same_bytes s t) h))

flag : (a b : Bool) → T (Told.same a b) → a ≡ b
flag true true h = refl
flag true false h = absurd h
flag false true h = absurd h
flag false false h = refl

number : (t u : Option ℕ) → T (Told.both Told.number t u) → t ≡ u
number none none h = refl
number none (some n) h = absurd h
number (some m) none h = absurd h
number (some m) (some n) h = ap some (eqb→eq m n (and_l (eqb m n) true h))

integer : (t u : Option ℤ) → T (Told.both Told.integer t u) → t ≡ u
integer none none h = refl
integer none (some z) h = absurd h
integer (some y) none h = absurd h
integer (some y) (some z) h = ap some (same-is y z (and_l (same_int y z) true h))

module _ {A B : Type 0} {R : A → B → Type 0} (t : A → B → Told.Tests) (law : (a : A) (b : B) → All T (t a b) → R a b) where
  each : (s : List A) (u : List B) → T (Told.each t s u) → Draws.Each R s u
  each [] [] h = Draws.done
  each [] (b ∷ u) h = absurd h
  each (a ∷ s) [] h = absurd h
  each (a ∷ s) (b ∷ u) h = Draws.more (law a b (all (t a b) (and_l (Told.all (t a b)) (Told.each t s u) h))) (each s u (and_r (Told.all (t a b)) (Told.each t s u) h))

  both : (a : Option A) (b : Option B) → T (Told.both t a b) → Draws.Both R a b
  both none none h = Draws.absent
  both none (some b) h = absurd h
  both (some a) none h = absurd h
  both (some a) (some b) h = Draws.present (law a b (all (t a b) h))

below : (n : ℕ) (t : ℕ → Bool) → T (Told.below n t) → (i : ℕ) → i < n → T (t i)
below zero t h i l = absurd (none_below l)
  where
    none_below : i < 0 → ⊥
    none_below k = omega arith
below (suc n) t h i l = elim (dec_le n i) [
  | yes k ↦ subst (λ (m : ℕ). T (t m)) (last k) (and_r (Told.below n t) (t n) h)
  | no k ↦ below n t (and_l (Told.below n t) (t n) h) i (omega arith)
]
  where
    last : n ≤ i → n ≡ i
    last k = omega arith

array : (c r : ℕ) → T (not (eqb c 1 && eqb r 1)) → (c ≡ 1) × (r ≡ 1) → ⊥
array c r h e = subst T (ap₂ (λ (a b : Bool). not (a && b)) (eq-eqb c 1 e.0) (eq-eqb r 1 e.1)) h

-- ---- properties and transforms

property : (p : S.Property) (q : D.Property) → All T (Told.property p q) → Draws.AlikeProperty p q
property p q (more a (more v done)) = record { attribute = eqb→eq _ _ a; value = bytes _ _ v }

transform : {r : Bool} {m a : Float} {t : Transform} → T (Told.all (Told.transform r m a t)) → Draws.AlikeTransform r m a t
transform {r} {m} {a} {t} h = by (all (Told.transform r m a t) h)
  where
    by : All T (Told.transform r m a t) → Draws.AlikeTransform r m a t
    by (more f (more s (more u (more i (more j done))))) = record { reflected = flag _ _ f; magnification_finite = s; degrees_finite = u; magnified = same-is _ _ i; rotated = same-is _ _ j }

-- ---- elements

never : {R : Type 0} → All T (false ∷ []) → R
never (more h done) = absurd h

module _ {b n q : D.Shape → Told.Tests} {p : D.Path → Told.Tests} {t : D.Text ℕ Transform → Told.Tests} {s : D.Sref Transform → Told.Tests} {a : D.Aref Transform → Told.Tests} (R : D.Body ℕ Transform → Type 0) where
  by_kind : ((w : D.Shape) → All T (b w) → R (D.boundary w)) → ((w : D.Path) → All T (p w) → R (D.path w)) → ((w : D.Text ℕ Transform) → All T (t w) → R (D.text w))
      → ((w : D.Shape) → All T (n w) → R (D.node w)) → ((w : D.Sref Transform) → All T (s w) → R (D.sref w)) → ((w : D.Aref Transform) → All T (a w) → R (D.aref w))
      → ((w : D.Shape) → All T (q w) → R (D.box w)) → (w : D.Body ℕ Transform) → All T (Told.by_kind b p t n s a q w) → R w
  by_kind B P X N S A Q (D.boundary w) = B w
  by_kind B P X N S A Q (D.path w) = P w
  by_kind B P X N S A Q (D.text w) = X w
  by_kind B P X N S A Q (D.node w) = N w
  by_kind B P X N S A Q (D.sref w) = S w
  by_kind B P X N S A Q (D.aref w) = A w
  by_kind B P X N S A Q (D.box w) = Q w

module _ (r : GdsRoundingPolicy) (d : Float) where
  close : (p : Float) (q : ℤ) → T (Told.near (Told.allowed r) d (scaled p) q) → Close (allowance r) d (scaled p) q
  close p q h = rw (← allowed r) (leb→le _ _ h)

  coordinate_by : (v : Option ℤ) (p : Float) (q : ℤ) → All T (Told.coordinate_by r d v p q) → Draws.AlikeBy r d v p q
  coordinate_by none p q (more f (more n done)) = (f, close p q n)
  coordinate_by (some v) p q (more i done) = same-is q v i

  coordinate : (u : Unit) (q : ℤ) → All T (Told.coordinate r d u q) → Draws.AlikeCoordinate r d u q
  coordinate u q h = coordinate_by (passed d u) (physical u) q h

  point : (p : Point Unit) (q : Point ℤ) → All T (Told.point r d p q) → Draws.AlikePoint r d p q
  point p q (more a (more b done)) =
      record { x = coordinate p.x q.x (all (Told.coordinate r d p.x q.x) a); y = coordinate p.y q.y (all (Told.coordinate r d p.y q.y) b) }

  instances : {c w : ℕ} {po pa pb : Float} {o a b : ℤ} → T (Told.all (Told.instances r d c w po pa pb o a b)) → Draws.AlikeInstances r d c w po pa pb o a b
  instances {c} {w} {po} {pa} {pb} {o} {a} {b} h = by (all (Told.instances r d c w po pa pb o a b) h)
    where
      t : ℕ → ℕ → Bool
      t = Told.instance r d po pa pb o a b

      at : (i j : ℕ) → T (t i j) → Close ((1 + i + j) * allowance r) d (scaled po +ℤ pos i *ℤ scaled pa +ℤ pos j *ℤ scaled pb) (instance_at o a b i j)
      at i j k = rw (← allowed r) (leb→le _ _ k)

      by : All T (Told.instances r d c w po pa pb o a b) → Draws.AlikeInstances r d c w po pa pb o a b
      by (more f (more g (more u (more v done)))) =
          record { origin_finite = f; column_finite = g; row_finite = u; instances = λ i j l k. at i j (below w (t i) (below c (λ m. Told.below w (t m)) v i l) j k) }

  shape : {e : S.Shape} {w : D.Shape} → All T (Told.shape r d e w) → Draws.AlikeShape r d e w
  shape (more l (more t (more ps done))) = record { layer = eqb→eq _ _ l; datatype = eqb→eq _ _ t; points = each (Told.point r d) point _ _ ps }

  length : (u : Option Unit) (q : Option ℤ) → T (Told.both (Told.coordinate r d) u q) → Draws.Both (Draws.AlikeCoordinate r d) u q
  length = both (Told.coordinate r d) coordinate

  path : {e : S.Path} {w : D.Path} → All T (Told.path r d e w) → Draws.AlikePath r d e w
  path (more l (more t (more p (more w (more b (more n (more ps done))))))) =
      record {
        layer = eqb→eq _ _ l;
        datatype = eqb→eq _ _ t;
        path_type = number _ _ p;
        width = length _ _ w;
        begin = length _ _ b;
        end = length _ _ n;
        points = each (Told.point r d) point _ _ ps;
      }

  origin : (p : Point Unit) (q : Point ℤ) → T (Told.all (Told.point r d p q)) → Draws.AlikePoint r d p q
  origin p q h = point p q (all (Told.point r d p q) h)

  text : {e : S.Text} {w : D.Text ℕ Transform} → All T (Told.text r d e w) → Draws.AlikeText r d e w
  text (more l (more t (more p (more u (more o (more s done)))))) =
      record { layer = eqb→eq _ _ l; texttype = eqb→eq _ _ t; presentation = eqb→eq _ _ p; transform = transform u; origin = origin _ _ o; string = bytes _ _ s }

  sref : {e : S.Reference} {w : D.Sref Transform} → All T (Told.sref r d e w) → Draws.AlikeSref r d e w
  sref (more c (more k (more n (more u (more o done))))) =
      record { columns = eqb→eq _ _ c; rows = eqb→eq _ _ k; name = bytes _ _ n; transform = transform u; origin = origin _ _ o }

  aref : {e : S.Reference} {w : D.Aref Transform} → All T (Told.aref r d e w) → Draws.AlikeAref r d e w
  aref (more a (more n (more u (more c (more k (more x (more y done))))))) =
      record { array = array _ _ a; name = bytes _ _ n; transform = transform u; columns = eqb→eq _ _ c; rows = eqb→eq _ _ k; x = instances x; y = instances y }

  -- the drawn corners
  record Corners (e : S.Box) (ps : List (Point ℤ)) : Type 0 where
    corner : Point ℤ
    opposite : Point ℤ
    points : ps ≡ Draws.outline corner opposite
    first : Draws.AlikePoint r d e.first corner
    second : Draws.AlikePoint r d e.second opposite

  corners : (e : S.Box) (ps : List (Point ℤ)) → T (Told.five (Told.corners r d e) ps) → Corners e ps
  corners e [] h = absurd h
  corners e (p0 ∷ []) h = absurd h
  corners e (p0 ∷ p1 ∷ []) h = absurd h
  corners e (p0 ∷ p1 ∷ p2 ∷ []) h = absurd h
  corners e (p0 ∷ p1 ∷ p2 ∷ p3 ∷ []) h = absurd h
  corners e (p0 ∷ p1 ∷ p2 ∷ p3 ∷ p4 ∷ []) h = by (all (Told.corners r d e p0 p1 p2 p3 p4) h)
    where
      at : {x y z w : ℤ} → x ≡ z → y ≡ w → ◌≡◌ {A = Point ℤ} (record { x = x; y = y }) (record { x = z; y = w })
      at i j = ap₂ (λ (x y : ℤ). record { x = x; y = y }) i j

      by : All T (Told.corners r d e p0 p1 p2 p3 p4) → Corners e (p0 ∷ p1 ∷ p2 ∷ p3 ∷ p4 ∷ [])
      by (more f (more s (more y1 (more x1 (more y3 (more x3 (more x4 (more y4 done)))))))) = record {
        corner = p0;
        opposite = p2;
        points =
            ap₂ (λ (q : Point ℤ) (t : List (Point ℤ)). p0 ∷ q ∷ p2 ∷ t) (at (same-is _ _ x1) (same-is _ _ y1))
            (ap₂ (λ (q t : Point ℤ). q ∷ t ∷ []) (at (same-is _ _ x3) (same-is _ _ y3)) (at (same-is _ _ x4) (same-is _ _ y4)));
        first = point e.first p0 (all (Told.point r d e.first p0) f);
        second = point e.second p2 (all (Told.point r d e.second p2) s);
      }
  corners e (p0 ∷ p1 ∷ p2 ∷ p3 ∷ p4 ∷ p5 ∷ ps) h = absurd h

  box : {e : S.Box} {w : D.Shape} → All T (Told.box r d e w) → Draws.AlikeBox r d e w
  box {e} {w} (more l (more t (more f done))) =
      let k = corners e w.points f in
      record { layer = eqb→eq _ _ l; boxtype = eqb→eq _ _ t; corner = k.corner; opposite = k.opposite; points = k.points; first = k.first; second = k.second }

  body : (e : S.Body) (w : D.Body ℕ Transform) → All T (Told.body r d e w) → Draws.AlikeBody r d e w
  body (S.polygon e) = by_kind _ (λ w h. Draws.polygon (shape h)) (λ w. never) (λ w. never) (λ w. never) (λ w. never) (λ w. never) (λ w. never)
  body (S.path e) = by_kind _ (λ w. never) (λ w h. Draws.path (path h)) (λ w. never) (λ w. never) (λ w. never) (λ w. never) (λ w. never)
  body (S.text e) = by_kind _ (λ w. never) (λ w. never) (λ w h. Draws.text (text h)) (λ w. never) (λ w. never) (λ w. never) (λ w. never)
  body (S.node e) = by_kind _ (λ w. never) (λ w. never) (λ w. never) (λ w h. Draws.node (shape h)) (λ w. never) (λ w. never) (λ w. never)
  body (S.reference e) = by_kind _ (λ w. never) (λ w. never) (λ w. never) (λ w. never) (λ w h. Draws.sref (sref h)) (λ w h. Draws.aref (aref h)) (λ w. never)
  body (S.box e) = by_kind _ (λ w. never) (λ w. never) (λ w. never) (λ w. never) (λ w. never) (λ w. never) (λ w h. Draws.box (box h))

  element : (e : S.Element) (w : Worth) → All T (Told.element r d e w) → Draws.AlikeElement r d e w
  element e w (more f (more p (more b (more qs done)))) =
      record { flags = number _ _ f; plex = integer _ _ p; body = body _ _ (all (Told.body r d e.body w.body) b); properties = each Told.property property _ _ qs }

  pub alike : {c : Cell} {s : Drawn} → All T (Told.told r d c s) → Draws.Alike r d c s
  alike (more n (more es done)) = record { name = bytes _ _ n; elements = each (Told.element r d) element _ _ es }
