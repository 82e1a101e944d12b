-- Points in turn: a turn of each loop, whatever is to follow, and how many points there are. Assumes nothing.
use mathlib.Core.Path.{◌≡◌, refl, sym, ap, ap₂, ◌∙◌, subst}
use mathlib.Core.List.{List, [], ◌∷◌}
use Prim.Native.Nat.{ℕ, zero, suc, ◌+◌, ◌-◌, ◌*◌, ◌≤◌, ◌<◌}
use native.Mathlib.Omega.{arith}
use lib.ListN.{length}
use lib.IntN.{ℤ}
use lib.Ieee.{Float}
use Rattle.std.specs.Prelude.{Result, Ok, Err}
use Rattle.refusal.specs.declared.Refusal.{Refusal}
use Rattle.units.specs.declared.Unit.{Unit}
use Rattle.units.specs.Point.{Point}
use Rattle.big_endian.specs.Buffer.{WroteAt}
use Rattle.big_endian.proofs.BufferLaws.{at_turn, at-end}
use Rattle.conversion.specs.declared.DatabasePoint.{DatabasePoint}
use Rattle.conversion.specs.declared.Deviation.{Deviation}
use Rattle.conversion.specs.declared.Entry.{Entry}
use Rattle.conversion.specs.declared.GdsRoundingPolicy.{GdsRoundingPolicy}
use Rattle.conversion.specs.Made.{Made, made}
use Rattle.conversion.specs.code.Answer.{grid_point_of}
use Rattle.conversion.specs.code.Fold.{blank_entry, run}
use Rattle.conversion.specs.Points.{write_point, write_points}
use Rattle.conversion.proofs.FoldLaws.{run-pure, run-same}
use Rattle.conversion.proofs.MadeLaws.{steps}
use Rattle.stream.specs.Records.{point_bytes, points_bytes}
use Rattle.steps.specs.code.Steps.{Succeeds}
use Rattle.steps.proofs.StepLaws.{yields, succeeds, written, putting}
use Rattle.block_places.specs.code.Place.{values_from, point_at, points_from}
use Rattle.coordinate.specs.declared.Pointed.{Pointed}
use Rattle.coordinate.specs.code.Coordinate.{pointed, GivesPoint}
use Rattle.coordinate.proofs.TurnLaws.{spread, turn, first-met}

pub length_from : (n : ℕ) (s : List ℕ) (at : ℕ) → length (points_from n s at) ≡ n
unfolding values_from
length_from zero s at = refl
length_from (suc n) s at = ap suc (length_from n s (at + 34))

points-next : (n i : ℕ) (s : List ℕ) (at : ℕ) → i < n → points_from (n - i) s at ≡ point_at s at ∷ points_from (n - (i + 1)) s (at + 34)
unfolding values_from
points-next n i s at h = ap (λ (j : ℕ). points_from j s at) (go n i h)
  where
    go : (n i : ℕ) → i < n → n - i ≡ suc (n - (i + 1))
    go n i h = omega arith

-- ---- what is left after a point

module _ {R : Type 0} (stop : Refusal → R) where
  module _ (policy : GdsRoundingPolicy) (d : Float) where
    -- as many points come out as go in: what follows may count on it
    pub run-counted : (i : ℕ) (ps : List (Point Unit)) (e : Entry) (k l : List (Point ℤ) → Entry → R) → ((qs : List (Point ℤ)) (e' : Entry) → length qs ≡ length ps → k qs e' ≡ l qs e')
        → run stop e (write_points policy d i ps) k ≡ run stop e (write_points policy d i ps) l
    unfolding write_points
    run-counted i [] e k l h = run-pure stop e [] k ∙ h [] e refl ∙ sym (run-pure stop e [] l)
    run-counted i (p ∷ ps) e k l h =
        turn stop policy d e i p ps k
        ∙ run-same stop e (write_point policy d 0 i p) _ _
        (λ q e'. run-counted (suc i) ps e' (λ qs e''. k (q ∷ qs) e'') (λ qs e''. l (q ∷ qs) e'') (λ qs e'' g. h (q ∷ qs) e'' (ap suc g)))
        ∙ sym (turn stop policy d e i p ps l)

    module _ (n i : ℕ) (s : List ℕ) (at : ℕ) (e : Entry) (k : List (Point ℤ) → Entry → R) where
      points-end : n ≤ i → points_from (n - i) s at ≡ []
      unfolding values_from
      points-end h = ap (λ (j : ℕ). points_from j s at) (go n i h)
        where
          go : (n i : ℕ) → n ≤ i → n - i ≡ 0
          go n i h = omega arith

      abbrev next : Point ℤ → Entry → R
      next q e' = run stop e' (write_points policy d (i + 1) (points_from (n - (i + 1)) s (at + 34))) (λ qs e''. k (q ∷ qs) e'')

      met : i < n → (r : Result Pointed Refusal) → GivesPoint e (write_point policy d 0 i (point_at s at)) r → run stop e (write_points policy d i (points_from (n - i) s at)) k ≡ spread stop next r
      met h r c =
          ap (λ (ps : List (Point Unit)). run stop e (write_points policy d i ps) k) (points-next n i s at h)
          ∙ first-met stop policy d e i (point_at s at) (points_from (n - (i + 1)) s (at + 34)) k r c
          ∙ ap (λ (j : ℕ). spread stop (λ q e'. run stop e' (write_points policy d j (points_from (n - (i + 1)) s (at + 34))) (λ qs e''. k (q ∷ qs) e'')) r) (go i)
        where
          go : (i : ℕ) → suc i ≡ i + 1
          go i = omega arith

      pub go_on : i < n → (v : Pointed) → GivesPoint e (write_point policy d 0 i (point_at s at)) (Ok v)
          → run stop e (write_points policy d i (points_from (n - i) s at)) k ≡ run stop v.entry (write_points policy d (i + 1) (points_from (n - (i + 1)) s (at + 34))) (λ qs e'. k (grid_point_of v.point ∷ qs) e')
      go_on h v c = met h (Ok v) c

      pub go-stop : i < n → (x : Refusal) → GivesPoint e (write_point policy d 0 i (point_at s at)) (Err x) → run stop e (write_points policy d i (points_from (n - i) s at)) k ≡ stop x
      go-stop h x c = met h (Err x) c

      pub go-end : n ≤ i → run stop e (write_points policy d i (points_from (n - i) s at)) k ≡ k [] e
      unfolding write_points
      go-end h = ap (λ (ps : List (Point Unit)). run stop e (write_points policy d i ps) k) (points-end h) ∙ run-pure stop e [] k

      pub whole-first : run stop e (write_points policy d i (points_from n s at)) k ≡ run stop e (write_points policy d i (points_from (n - 0) s at)) k
      whole-first = ap (λ (j : ℕ). run stop e (write_points policy d i (points_from j s at)) k) (go n)
        where
          go : (n : ℕ) → n ≡ n - 0
          go n = omega arith

-- ---- how many there are

pub length-made : (policy : GdsRoundingPolicy) (d : Float) (i : ℕ) (ps : List (Point Unit)) (qs : List (Point ℤ)) (vs : List Deviation) → write_points policy d i ps ≡ made qs vs → length qs ≡ length ps
unfolding run
length-made policy d i ps qs vs h =
    sym (ap (λ (m : Made (List (Point ℤ))). run (λ x. 0) (blank_entry 0 0) m (λ ys e. length ys)) h)
    ∙ run-counted (λ x. 0) policy d i ps (blank_entry 0 0) (λ ys e. length ys) (λ ys e. length ps) (λ ys e g. g)
    ∙ ap (λ (m : Made (List (Point ℤ))). run (λ x. 0) (blank_entry 0 0) m (λ ys e. length ps)) h

-- eight bytes each
pub length-bytes : (qs : List (Point ℤ)) → length (points_bytes qs) ≡ 8 * length qs
length-bytes [] = refl
length-bytes (q ∷ qs) = let h = length-bytes qs in omega arith

-- ---- a turn that writes: what is still to be written stands at the place reached

pub put-turn : (q : Point ℤ) {at r : ℕ} {d d' : List ℕ} → WroteAt (point_bytes q) d d' at r → (qs : List (Point ℤ)) (e : Entry)
    → putting points_bytes at d (q ∷ qs) e ≡ putting points_bytes r d' qs e
unfolding putting
put-turn q {at} {r} w qs e =
    let k = w.count in
    let z : at + length (points_bytes (q ∷ qs)) ≡ r + length (points_bytes qs) = omega arith in
    ap₂ (λ (o : List ℕ) (j : ℕ). written o j e) (at_turn w (points_bytes qs)) z

pub put-end : (at : ℕ) (d : List ℕ) (e : Entry) → putting points_bytes at d [] e ≡ written d at e
unfolding putting
put-end at d e =
    let z : at + 0 ≡ at = omega arith in
    ap₂ (λ (o : List ℕ) (j : ℕ). written o j e) (at-end at d) z

-- ---- a point converted, as the code has its parts

pub same-pointed : {e : Entry} {m : Made (Point ℤ)} (v : Pointed) (p : DatabasePoint) (e' : Entry) → GivesPoint e m (Ok v) → p ≡ v.point → e' ≡ v.entry → GivesPoint e m (Ok (record { point = p; entry = e' }))
same-pointed {e} {m} v p e' c i j = subst (λ (w : Pointed). GivesPoint e m (Ok w)) (ap₂ (λ (q : DatabasePoint) (x : Entry). record { point = q; entry = x }) (sym i) (sym j)) c

-- ---- points that succeed: no point is refused

pub never-pointed : {X : Type 0} {e : Entry} {m : Made (Point ℤ)} {x : Refusal} → Succeeds m → GivesPoint e m (Err x) → X
unfolding run
never-pointed {e = e} s c =
    let h = c.is ∙ ap (λ (n : Made (Point ℤ)). run Err e n pointed) s.makes in
    cc

-- the first, and the others
pub record First (policy : GdsRoundingPolicy) (d : Float) (i j : ℕ) (p : Point Unit) (ps : List (Point Unit)) : Type 0 where
  pub point : Succeeds (write_point policy d 0 i p)
  pub rest : Succeeds (write_points policy d j ps)

pub first-succeeds : (policy : GdsRoundingPolicy) (d : Float) (n i : ℕ) (s : List ℕ) (at : ℕ) → i < n → Succeeds (write_points policy d i (points_from (n - i) s at))
    → First policy d i (i + 1) (point_at s at) (points_from (n - (i + 1)) s (at + 34))
unfolding write_points
first-succeeds policy d n i s at h g =
    let a = steps (yields (subst (λ (ps : List (Point Unit)). Succeeds (write_points policy d i ps)) (points-next n i s at h) g)) in
    let b = steps a.then in
    record { point = succeeds a.first; rest = subst (λ (j : ℕ). Succeeds (write_points policy d j (points_from (n - (i + 1)) s (at + 34)))) (go i) (succeeds b.first) }
  where
    go : (i : ℕ) → suc i ≡ i + 1
    go i = omega arith
