-- The parts of an element that was written: properties, transform, coordinates, points and lengths are alike to what they draw, and fit their records. Assumes nothing.
use mathlib.Core.Path.{◌≡◌, refl, sym, ap, subst}
use mathlib.Core.Bool.{Bool, true, false, cond}
use mathlib.Core.Option.{Option, none, some}
use mathlib.Core.List.{List, [], ◌∷◌}
use Prim.Native.Nat.{ℕ, suc, ◌^◌}
use native.Mathlib.Omega.{arith}
use lib.Dec.{T, leb→le, ltb→lt, lit<}
use lib.ListN.{length}
use lib.IntN.{ℤ, pos, negsuc}
use lib.Ieee.{Float, binary64, fits, eq}
use lib.Ieee.Scale.{finite}
use lib.Ieee.Positive.{positive}
use Rattle.big_endian.specs.Big.{Bytes, bytes_of}
use Rattle.big_endian.proofs.BytesLaws.{bytes-bytes_of}
use Rattle.binary64.specs.Value.{scaled, size_of, negative, zero64, one64}
use Rattle.binary64.proofs.Equal.{eq-scaled, eq-finite}
use Rattle.parsing.specs.All.{All, done, more, Opt, absent, present}
use Rattle.units.specs.declared.Unit.{Unit}
use Rattle.units.specs.declared.Unit.TheVariants as U
use Rattle.units.specs.Point.{Point}
use Rattle.units.specs.Physical.{physical, passed}
use Rattle.std.specs.Prelude.{Ok, Err}
use Rattle.gds_format.specs.Real8.{Encoding, real8, encoding, values_of}
use Rattle.gds_format.proofs.Real8Laws.{real8-worth, real8-finite}
use Rattle.conversion.specs.declared.GdsRoundingPolicy.{GdsRoundingPolicy}
use Rattle.conversion.specs.Made.{Made, pure}
use Rattle.conversion.proofs.MadeLaws.{Yields, no-yield, made_yields, steps, then-steps, checked, needed}
use Rattle.conversion.specs.Field.{point_field, x_axis, y_axis, no_axis}
use Rattle.conversion.specs.Convert.{Spot, in_range, convert_by, convert_unit}
use Rattle.conversion.proofs.ConvertLaws.{physical-fits, unit-converted, unit-passed}
use Rattle.conversion.specs.Points.{spot, write_point, write_points, write_length}
use Rattle.sheet.specs.Element as S
use Rattle.sheet.proofs.Fine.{FineUnit, integer, FinePoint, FineProperty}
use Rattle.stream.specs.Structure as D
use Rattle.stream.specs.Drawn.{one, real_of, transform_of, properties_drawn}
use Rattle.stream.proofs.Fit.{Long, Real, FitPoint, FitProperty, FitStrans}
use Rattle.stream.proofs.StringLaws.{trimmed-padded, padded-even}
use Rattle.cell.specs.Limits.{max_value_length}
use Rattle.cell.specs.Write.{encodable, write_real, write_magnification, write_angle, strans_of, write_transform, attribute_and_length, write_properties}
use Rattle.cell.specs.Draws as W
use Rattle.cell.specs.Draws.{Each, Both, AlikeBy, AlikeCoordinate, AlikePoint, AlikeProperty, AlikeTransform}
use Rattle.cell.specs.Edges.{converted_by, edges_at, point_edges}
use Rattle.cell.proofs.Taken.{TakenBy, TakenPoint}

-- ---- properties

pub record Properties (ps : List S.Property) (qs : List D.Property) : Type 0 where
  pub alike : Each AlikeProperty ps (properties_drawn qs)
  pub fit : All FitProperty qs

pub properties-alike : (ps : List S.Property) (qs : List D.Property) → All FineProperty ps → Yields (write_properties ps) qs → Properties ps qs
unfolding write_properties attribute_and_length
properties-alike [] qs h y = subst (λ (z : List D.Property). Properties [] z) (made_yields y) (record { alike = W.done; fit = done })
properties-alike (p ∷ ps) qs (more h hs) y =
    let k1 = then-steps y in
    let k2 = steps k1.then in
    let m = needed _ _ (checked _ k1.first).then in
    let r = properties-alike ps k2.value hs k2.first in
    subst (λ (z : List D.Property). Properties (p ∷ ps) z) (made_yields k2.then)
    (record {
      alike = W.more (record { attribute = refl; value = trimmed-padded p.value }) r.alike;
      fit = more (record { attribute = h.attribute; value = padded-even p.value max_value_length (leb→le (length p.value) max_value_length m) (lit< tt) h.value.bytes }) r.fit;
    })

-- ---- reals

-- the bytes are worth x, or they are missing where x is worth z
record RealFor (x : Float) (z : ℤ) (b : Option (List ℕ)) : Type 0 where
  real : T (finite x)
  worth : scaled x ≡ real_of z b
  fit : Opt Real b

encodable-is : (x : Option (List ℕ)) (b : List ℕ) → Yields (encodable x) b → x ≡ some b
unfolding encodable
encodable-is none b y = no-yield y
encodable-is (some a) b y = ap some (made_yields y)

-- a real's bytes are bytes
pub real8-bytes : (x : Float) (b : List ℕ) → real8 x ≡ some b → Bytes b
unfolding real8
real8-bytes x b e = go (encoding x) e
  where
    go : (o : Encoding) → (values_of o).bytes ≡ some b → Bytes b
    go (Err r) e = let z : ◌≡◌ {A = ℕ} 0 1 = cc in absurd (omega arith)
    go (Ok r) e =
        let f : bytes_of 8 r.pattern ≡ b = cc in
        subst Bytes f (bytes-bytes_of 8 r.pattern)

real-for : (x : Float) (z : ℤ) (b : Option (List ℕ)) → T (fits binary64 x) → Yields (write_real x) b → RealFor x z b
unfolding write_real
real-for x z b F y =
    let k = steps y in
    let e = encodable-is (real8 x) k.value k.first in
    let w = real8-worth x k.value F e in
    subst (λ (c : Option (List ℕ)). RealFor x z c) (made_yields k.then) (record { real = real8-finite x k.value e; worth = sym w.0; fit = present (record { count = w.1; bytes = real8-bytes x k.value e }) })

-- left out where x equals a number that is worth z
unless-for : (x : Float) (z : ℤ) (b : Option (List ℕ)) (c : Bool) (m : Made (Option (List ℕ))) → (T c → T (finite x)) → (T c → scaled x ≡ z)
    → (Yields m b → RealFor x z b) → Yields (cond c (pure none) m) b → RealFor x z b
unless-for x z b true m h e k y = subst (λ (o : Option (List ℕ)). RealFor x z o) (made_yields y) (record { real = h tt; worth = e tt; fit = absent })
unless-for x z b false m h e k y = k y

magnification-for : (m : Float) (b : Option (List ℕ)) → T (fits binary64 m) → Yields (write_magnification m) b → RealFor m one b
unfolding write_magnification scaled size_of negative
magnification-for m b F y =
    unless-for m one b (eq m one64) _ (eq-finite m false 1 (pos 0)) (eq-scaled m one64) (λ k. real-for m one b F (checked _ k).then) y

angle-for : (a : Float) (b : Option (List ℕ)) → T (fits binary64 a) → Yields (write_angle a) b → RealFor a (pos 0) b
unfolding write_angle scaled size_of negative
angle-for a b F y = unless-for a (pos 0) b (eq a zero64) _ (eq-finite a false 0 (pos 0)) (eq-scaled a zero64) (real-for a (pos 0) b F) y

-- ---- the transform

pub record TransformFor (reflection : Bool) (magnification degrees : Float) (t : Option D.Strans) : Type 0 where
  pub alike : AlikeTransform reflection magnification degrees (transform_of t)
  pub fit : Opt FitStrans t

strans-for : (r : Bool) (m a : Float) (mb ab : Option (List ℕ)) → RealFor m one mb → RealFor a (pos 0) ab → TransformFor r m a (strans_of r mb ab)
unfolding strans_of
strans-for r m a mb ab hm ha = go r mb ab hm ha
  where
    said : {r : Bool} (t : D.Strans) → r ≡ t.reflection → RealFor m one t.magnification → RealFor a (pos 0) t.angle → TransformFor r m a (some t)
    said t e hm ha = record {
      alike = record { reflected = e; magnification_finite = hm.real; degrees_finite = ha.real; magnified = hm.worth; rotated = ha.worth };
      fit = present (record { magnification = hm.fit; angle = ha.fit });
    }

    go : (r : Bool) (mb ab : Option (List ℕ)) → RealFor m one mb → RealFor a (pos 0) ab → TransformFor r m a (strans_of r mb ab)
    go false none none hm ha = record { alike = record { reflected = refl; magnification_finite = hm.real; degrees_finite = ha.real; magnified = hm.worth; rotated = ha.worth }; fit = absent }
    go false none (some b) hm ha = said _ refl hm ha
    go false (some c) ab hm ha = said _ refl hm ha
    go true mb ab hm ha = said _ refl hm ha

pub transform-alike : (a m : Float) (r : Bool) (t : Option D.Strans) → T (fits binary64 m) → T (fits binary64 a) → Yields (write_transform a m r) t → TransformFor r m a t
unfolding write_transform
transform-alike a m r t M A y =
    let k1 = steps y in
    let k2 = steps k1.then in
    subst (λ (z : Option D.Strans). TransformFor r m a z) (made_yields k2.then)
    (strans-for r m a k1.value k2.value (magnification-for m k1.value M k1.first) (angle-for a k2.value A k2.first))

-- ---- coordinates

pub range-long : (q : ℤ) → T (in_range q) → Long q
range-long (pos n) t = record { sfits = ltb→lt n (2 ^ 31) t }
range-long (negsuc n) t = record { sfits = ltb→lt n (2 ^ 31) t }

module _ (policy : GdsRoundingPolicy) (d : Float) (F : T (fits binary64 d)) (b : T (positive d)) where
  pub record CoordinateFor (u : Unit) (q : ℤ) : Type 0 where
    pub alike : AlikeCoordinate policy d u q
    pub taken : TakenBy policy d (converted_by (passed d u) (physical u)) q
    pub fit : Long q

  passed-long : (u : Unit) (v : ℤ) → FineUnit u → passed d u ≡ some v → Long v
  unfolding passed
  passed-long (U.Integer v u) z (integer h k) e = go (eq u d) e
    where
      go : (c : Bool) → cond c (some v) none ≡ some z → Long z
      go true e =
          let f : v ≡ z = cc in
          subst Long f h
      go false e = let n : ◌≡◌ {A = ℕ} 0 1 = cc in absurd (omega arith)
  passed-long (U.Float v u) z h e = let n : ◌≡◌ {A = ℕ} 0 1 = cc in absurd (omega arith)

  coordinate-alike : (at : Spot) (u : Unit) (q : ℤ) → FineUnit u → Yields (convert_unit policy d at u) q → CoordinateFor u q
  unfolding convert_unit
  coordinate-alike at u q h y = go (passed d u) refl y
    where
      go : (x : Option ℤ) → passed d u ≡ x → Yields (convert_by policy d at u x) q → CoordinateFor u q
      go none e y =
          let c = unit-converted policy d at u q F b y in
          record {
            alike = subst (λ (x : Option ℤ). AlikeBy policy d x (physical u) q) (sym e) (c.physical, c.close);
            taken = subst (λ (x : Option ℤ). TakenBy policy d (converted_by x (physical u)) q) (sym e) (physical-fits u, c.value);
            fit = range-long q c.ranged;
          }
      go (some v) e y =
          let k = unit-passed policy d at u v q y in
          record {
            alike = subst (λ (x : Option ℤ). AlikeBy policy d x (physical u) q) (sym e) (sym k);
            taken = subst (λ (x : Option ℤ). TakenBy policy d (converted_by x (physical u)) q) (sym e) tt;
            fit = subst Long k (passed-long u v h e);
          }

  pub record PointFor (p : Point Unit) (q : Point ℤ) : Type 0 where
    pub alike : AlikePoint policy d p q
    pub taken : TakenPoint policy d (edges_at d p) q
    pub fit : FitPoint q

  pub point-alike : (f k : ℕ) (p : Point Unit) (q : Point ℤ) → FinePoint p → Yields (write_point policy d f k p) q → PointFor p q
  unfolding write_point
  point-alike f k p q h y =
      let k1 = steps y in
      let k2 = steps k1.then in
      let x = coordinate-alike (spot f x_axis k) p.x k1.value h.x k1.first in
      let z = coordinate-alike (spot f y_axis k) p.y k2.value h.y k2.first in
      subst (λ (q : Point ℤ). PointFor p q) (made_yields k2.then) (record { alike = record { x = x.alike; y = z.alike }; taken = record { x = x.taken; y = z.taken }; fit = record { x = x.fit; y = z.fit } })

  pub record PointsFor (ps : List (Point Unit)) (qs : List (Point ℤ)) : Type 0 where
    pub alike : Each (AlikePoint policy d) ps qs
    pub taken : Each (TakenPoint policy d) (point_edges d ps) qs
    pub fit : All FitPoint qs

  pub points-alike : (k : ℕ) (ps : List (Point Unit)) (qs : List (Point ℤ)) → All FinePoint ps → Yields (write_points policy d k ps) qs → PointsFor ps qs
  unfolding write_points
  points-alike k [] qs h y = subst (λ (z : List (Point ℤ)). PointsFor [] z) (made_yields y) (record { alike = W.done; taken = W.done; fit = done })
  points-alike k (p ∷ ps) qs (more h hs) y =
      let k1 = steps y in
      let k2 = steps k1.then in
      let x = point-alike point_field k p k1.value h k1.first in
      let r = points-alike (suc k) ps k2.value hs k2.first in
      subst (λ (z : List (Point ℤ)). PointsFor (p ∷ ps) z) (made_yields k2.then)
      (record { alike = W.more x.alike r.alike; taken = W.more x.taken r.taken; fit = more x.fit r.fit })

  pub record LengthFor (u : Option Unit) (q : Option ℤ) : Type 0 where
    pub alike : Both (AlikeCoordinate policy d) u q
    pub fit : Opt Long q

  pub length-alike : (f : ℕ) (u : Option Unit) (q : Option ℤ) → Opt FineUnit u → Yields (write_length policy d f u) q → LengthFor u q
  unfolding write_length
  length-alike f none q h y = subst (λ (z : Option ℤ). LengthFor none z) (made_yields y) (record { alike = W.absent; fit = absent })
  length-alike f (some u) q (present h) y =
      let k1 = steps y in
      let c = coordinate-alike (spot f no_axis 0) u k1.value h k1.first in
      subst (λ (z : Option ℤ). LengthFor (some u) z) (made_yields k1.then) (record { alike = W.present c.alike; fit = present c.fit })
