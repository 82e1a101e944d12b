-- A list whose first points pass: measured and written, they stand in front of the rest. Assumes nothing.
use mathlib.Core.Path.{◌≡◌, refl, sym, ap, ap₂, ◌∙◌, subst}
use mathlib.Core.Bool.{true, false}
use mathlib.Core.List.{List, [], ◌∷◌, ◌++◌, append-nil}
use Prim.Native.Nat.{ℕ, zero, suc, ◌+◌, ◌-◌, ◌*◌, ◌≤◌, max}
use native.Mathlib.Nat.{zero-add}
use native.Mathlib.Omega.{arith}
use lib.ListN.{length, length-append}
use lib.IntN.{ℤ}
use lib.Ieee.{Float}
use Rattle.std.specs.Prelude.{Ok, Err}
use Rattle.refusal.specs.declared.Refusal.{Refusal}
use Rattle.units.specs.Point.{Point}
use Rattle.big_endian.specs.Buffer.{splice, WroteAt}
use Rattle.big_endian.proofs.BufferLaws.{at_turn, length_at}
use Rattle.big_endian.proofs.BytesLaws.{joined-append}
use Rattle.conversion.specs.declared.Entry.{Entry}
use Rattle.conversion.specs.declared.GdsRoundingPolicy.{GdsRoundingPolicy}
use Rattle.conversion.specs.code.Fold.{run}
use Rattle.conversion.specs.Points.{write_points}
use Rattle.conversion.proofs.FoldLaws.{run-pure, run-same}
use Rattle.stream.specs.Records.{point_bytes, points_bytes}
use Rattle.cell.specs.Write.{last_of}
use Rattle.steps.specs.declared.Written.{Written}
use Rattle.steps.specs.code.Steps.{Succeeds, Writes}
use Rattle.steps.proofs.StepLaws.{succeeds-as, stopped, written, putting, writes, outcome-of}
use Rattle.coordinate.specs.code.Coordinate.{at_point}
use Rattle.block_places.specs.code.Place.{values_from, points_from}
use Rattle.points.specs.code.Walk.{through, walked}
use Rattle.points.specs.code.Integers.{integers_from, AllPass}
use Rattle.points.proofs.WalkLaws.{length_from, run-counted}
use Rattle.points.proofs.IntegerLaws.{run-passing}

-- ---- as a loop over the rest has it, from place p on

ends_at : (p m : ℕ) → m ≡ p + m - p
ends_at p m = omega arith

module _ (policy : GdsRoundingPolicy) (d : Float) (p m : ℕ) (b : List ℕ) (at : ℕ) where
  pub rest-first : {R : Type 0} (stop : Refusal → R) (e : Entry) (k : List (Point ℤ) → Entry → R)
      → run stop e (write_points policy d p (points_from m b at)) k ≡ run stop e (write_points policy d p (points_from (p + m - p) b at)) k
  rest-first stop e k = ap (λ (j : ℕ). run stop e (write_points policy d p (points_from j b at)) k) (ends_at p m)

-- ---- written

-- after points that are written
put-run : (ps qs : List (Point ℤ)) (e : Entry) {start to : ℕ} {before cur : List ℕ} → WroteAt (points_bytes ps) before cur start to
    → putting points_bytes start before (ps ++ qs) e ≡ putting points_bytes to cur qs e
unfolding putting
put-run ps qs e {start} {to} {before} {cur} w =
    let k = w.count in
    let l = length-append (points_bytes ps) (points_bytes qs) in
    let z : start + length (points_bytes ps ++ points_bytes qs) ≡ to + length (points_bytes qs) = omega arith in
    ap (λ (bs : List ℕ). written (splice start bs before) (start + length bs) e) (joined-append point_bytes ps qs)
    ∙ ap₂ (λ (o : List ℕ) (j : ℕ). written o j e) (at_turn w (points_bytes qs)) z

-- k points that pass, and m others at a place after them
module _ (policy : GdsRoundingPolicy) (d : Float) (b : List ℕ) (n k m from at : ℕ) (l : m + k ≡ n) (f : at ≡ from + 34 * k) (h : AllPass d b k from) (e : Entry) where
  together : n ≡ k + m
  together = omega arith

  -- whatever is to follow
  after : {R : Type 0} (stop : Refusal → R) (p : ℕ) (g : List (Point ℤ) → Entry → R)
      → run stop e (write_points policy d p (points_from n b from)) g ≡ run stop e (write_points policy d (p + k) (points_from m b at)) (λ qs e'. g (integers_from k b from ++ qs) e')
  after stop p g =
      ap (λ (j : ℕ). run stop e (write_points policy d p (points_from j b from)) g) together
      ∙ run-passing policy d b stop e k m p from g h
      ∙ ap (λ (j : ℕ). run stop e (write_points policy d (p + k) (points_from m b j)) (λ qs e'. g (integers_from k b from ++ qs) e')) (sym f)

  -- written
  pub pass-put : {start to : ℕ} {before cur last : List ℕ} {r : Written} → WroteAt (points_bytes (integers_from k b from)) before cur start to
      → Writes points_bytes e (write_points policy d k (points_from m b at)) to cur last r → Writes points_bytes e (write_points policy d 0 (points_from n b from)) start before last r
  pass-put {start} {to} {before} {cur} {last} {r} u v =
      let x = v.wrote.count in
      let y = v.wrote.fits in
      let z = length_at u in
      writes points_bytes e (write_points policy d 0 (points_from n b from)) start before last r.to r.entry
      (after stopped 0 (putting points_bytes start before)
      ∙ ap (λ (j : ℕ). run stopped e (write_points policy d j (points_from m b at)) (λ qs e'. putting points_bytes start before (integers_from k b from ++ qs) e')) (zero-add k)
      ∙ run-same stopped e (write_points policy d k (points_from m b at)) _ _ (λ qs e'. put-run (integers_from k b from) qs e' u)
      ∙ outcome-of points_bytes e (write_points policy d k (points_from m b at)) to cur last v)
      (omega arith)

  -- no point that is left is refused, where none is
  pub rest-succeeds : Succeeds (write_points policy d 0 (points_from n b from)) → Succeeds (write_points policy d k (points_from m b at))
  rest-succeeds g = subst (λ (j : ℕ). Succeeds (write_points policy d j (points_from m b at))) (zero-add k) (succeeds-as e (after (λ x. false) 0 (λ qs e'. true)) g)

-- ---- measured

-- all of them: the ends, and the entry as it is
pub pass-measured : (policy : GdsRoundingPolicy) (d : Float) (b : List ℕ) (n from : ℕ) → AllPass d b n from → (e : Entry)
    → run Err e (write_points policy d 0 (points_from n b from)) walked ≡ walked (integers_from n b from) e
unfolding write_points values_from
pass-measured policy d b n from h e =
    after policy d b n n 0 from (from + 34 * n) (zero-add n) refl h e Err 0 walked
    ∙ run-pure Err e [] (λ qs e'. walked (integers_from n b from ++ qs) e')
    ∙ ap (λ (ps : List (Point ℤ)). walked ps e) (append-nil (integers_from n b from))

-- points in front of others do not change which is the last
last-after : (f : Point ℤ) (ps qs : List (Point ℤ)) → 1 ≤ length qs → last_of f (ps ++ qs) ≡ last_of f qs
last-after f ps [] h = absurd (omega arith)
last-after f [] (q ∷ qs) h = refl
last-after f (p ∷ ps) (q ∷ qs) h = last-after p ps (q ∷ qs) h

-- some of them, but not all: the first is q, and the others, from place j on, tell which is the last. The first is met in any case.
pub rest-measured : (policy : GdsRoundingPolicy) (d : Float) (b : List ℕ) (n k j m from at : ℕ) → j ≡ max k 1 → (k ≡ n → ⊥) → m + j ≡ n → at ≡ from + 34 * j → AllPass d b k from → (e : Entry) (q : Point ℤ)
    → run Err e (write_points policy d 1 (points_from (n - 1) b (from + 34))) (λ qs e'. walked (q ∷ qs) e') ≡ run Err e (write_points policy d j (points_from m b at)) (through q q)
unfolding walked through
rest-measured policy d b n zero j m from at r x l f h e q =
    let one : 1 ≡ j = omega arith in
    let count : n - 1 ≡ m = omega arith in
    let place : from + 34 ≡ at = omega arith in
    ap₂ (λ (j k : ℕ). run Err e (write_points policy d 1 (points_from j b k)) (through q q)) count place
    ∙ ap (λ (j : ℕ). run Err e (write_points policy d j (points_from m b at)) (through q q)) one
rest-measured policy d b n (suc k) j m from at r x l f h e q =
    let there : 1 + k ≡ j = omega arith in
    let count : m + k ≡ n - 1 = omega arith in
    let place : at ≡ from + 34 + 34 * k = omega arith in
    after policy d b (n - 1) k m (from + 34) at count place h.2 e Err 1 (through q q)
    ∙ run-counted Err policy d (1 + k) (points_from m b at) e _ (through q q) (last (omega arith))
    ∙ ap (λ (j : ℕ). run Err e (write_points policy d j (points_from m b at)) (through q q)) there
  where
    last : 1 ≤ m → (qs : List (Point ℤ)) (e' : Entry) → length qs ≡ length (points_from m b at) → through q q (integers_from k b (from + 34) ++ qs) e' ≡ through q q qs e'
    last some qs e' g =
        let i = length_from m b at in
        ap (λ (p : Point ℤ). Ok (record { first = at_point q; last = at_point p; entry = e' })) (last-after q (integers_from k b (from + 34)) qs (omega arith))
