-- Points that are conversions of their physical values stand in order on each axis (monotone's `keeps-order`). Assumes nothing.
use mathlib.Core.Path.{◌≡◌, refl, ap, subst}
use mathlib.Core.Bool.{true}
use mathlib.Core.Option.{Option, none, some}
use mathlib.Core.List.{List, ◌++◌}
use Prim.Native.Nat.{suc}
use lib.Dec.{T}
use lib.ListN.{length}
use lib.IntN.{ℤ}
use lib.Ieee.{Float, binary64, fits}
use lib.Ieee.Positive.{positive}
use Rattle.units.specs.Point.{Point}
use Rattle.conversion.specs.declared.GdsRoundingPolicy.{GdsRoundingPolicy}
use Rattle.conversion.specs.Made.{pure}
use Rattle.conversion.specs.Convert.{database_value}
use Rattle.monotone.proofs.OrderLaws.{keeps-order}
use Rattle.cell.specs.Draws.{Each, done, more}
use Rattle.cell.specs.Edges.{Axis, along_x, along_y, on, Stands, here, later, InOrder}

pub each_append : {A B : Type 0} {R : A → B → Type 0} {s u : List A} {t v : List B} → Each R s t → Each R u v → Each R (s ++ u) (t ++ v)
each_append done k = k
each_append (more r h) k = more r (each_append h k)

pub each-length : {A B : Type 0} {R : A → B → Type 0} {s : List A} {t : List B} → Each R s t → length s ≡ length t
each-length done = refl
each-length (more r h) = ap suc (each-length h)

module _ (policy : GdsRoundingPolicy) (d : Float) where
  -- q is the database value of p, where there is a p
  abbrev pub TakenBy : Option Float → ℤ → Type 0
  TakenBy none q = T true
  TakenBy (some p) q = T (fits binary64 p) × (database_value policy d p ≡ pure q)

  pub record TakenPoint (e : Point (Option Float)) (w : Point ℤ) : Type 0 where
    pub x : TakenBy e.x w.x
    pub y : TakenBy e.y w.y

  taken-on : (axis : Axis) {e : Point (Option Float)} {w : Point ℤ} → TakenPoint e w → TakenBy (on axis e) (on axis w)
  taken-on along_x t = t.x
  taken-on along_y t = t.y

  taken-stands : (axis : Axis) {p : Float} {q : ℤ} {s : List (Point (Option Float))} {t : List (Point ℤ)} → Each TakenPoint s t → Stands axis p q s t → TakenBy (some p) q
  taken-stands axis {p = p} {q = q} (more {a = e} {b = w} r h) (here f g) = subst (λ (z : ℤ). TakenBy (some p) z) g (subst (λ (o : Option Float). TakenBy o (on axis w)) f (taken-on axis r))
  taken-stands axis (more r h) (later k) = taken-stands axis h k
  taken-stands axis {p = p} {q = q} done x = elim x [ ]

  pub taken-order : T (fits binary64 d) → T (positive d) → {s : List (Point (Option Float))} {t : List (Point ℤ)} → Each TakenPoint s t → InOrder s t
  taken-order fd pd h axis p q a b k l =
      let u = taken-stands axis h k in
      let v = taken-stands axis h l in
      keeps-order policy d p q a b fd pd u.0 v.0 u.1 v.1
