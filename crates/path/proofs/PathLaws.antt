-- Measuring and writing a path: each way out of the code, and the length of what the definition gives. Assumes nothing.
use mathlib.Core.Path.{◌≡◌, refl, sym, ap, ap₂, ◌∙◌}
use mathlib.Core.Bool.{Bool}
use mathlib.Core.Option.{Option, none, some}
use mathlib.Core.List.{List, ◌++◌}
use Prim.Native.Nat.{ℕ, ◌+◌, ◌*◌, ◌≤◌}
use native.Mathlib.Omega.{arith}
use lib.ListN.{length, length-append}
use lib.IntN.{ℤ}
use lib.Ieee.{Float}
use Rattle.std.specs.Prelude.{Result, Ok, Err}
use Rattle.refusal.specs.declared.Refusal.{Refusal}
use Rattle.units.specs.declared.Unit as Units
use Rattle.units.specs.Point.{Point}
use Rattle.big_endian.specs.Buffer.{splice}
use Rattle.big_endian.proofs.BufferLaws.{at_turn}
use Rattle.conversion.specs.declared.Entry.{Entry}
use Rattle.conversion.specs.declared.GdsRoundingPolicy.{GdsRoundingPolicy}
use Rattle.conversion.specs.declared.Deviation.{Deviation}
use Rattle.conversion.specs.Made.{Made, made}
use Rattle.conversion.specs.code.Fold.{blank_entry, run}
use Rattle.conversion.specs.Points.{write_points, write_length}
use Rattle.conversion.specs.Field.{width_field, begin_field, end_field}
use Rattle.conversion.proofs.FoldLaws.{run_bind, run-then, run-pure, run-map, run-same}
use Rattle.sheet.specs.Element as S
use Rattle.stream.specs.Structure as D
use Rattle.stream.specs.Records.{points_bytes}
use Rattle.records.specs.code.Bytes.{xy_point_length, Placed}
use Rattle.steps.specs.declared.Written.{Written}
use Rattle.steps.specs.code.Steps.{through, sizing, Measures, Writes}
use Rattle.steps.proofs.StepLaws.{run-through, stopped, written, putting, writes, outcome-of}
use Rattle.cell.specs.Limits.{min_path_points, max_points}
use Rattle.cell.specs.Write.{is_some, write_path}
use Rattle.block_places.specs.declared.PathPlaces.{PathPlaces}
use Rattle.block_places.specs.code.Places.{path_type_of, path_at}
use Rattle.points.specs.declared.Walked.{Walked}
use Rattle.points.specs.code.Walk.{walked, with_length}
use Rattle.points.proofs.WalkLaws.{length_from, run-counted}
use Rattle.points.proofs.EndsLaws.{ends-length}
use Rattle.path.specs.declared.Extent.{Extent}
use Rattle.path.specs.declared.Lengths.{Lengths}
use Rattle.path.specs.code.Front.{OptExtent, opt_extent, write_extent, write_front, GivesExtent}
use Rattle.path.specs.code.Length.{path_bytes, path_head, flags_length, head_length, path_length}
use Rattle.path.proofs.FrontLaws.{drawn, path-is, front-stops, front-goes-on, front-counted}
use Rattle.path.proofs.LengthLaws.{path-split, length-path, path_room}

-- ---- where the front of the path at s gave the lengths x

pub record Known (b : List ℕ) (s : PathPlaces) (e : Entry) (x : Extent) (e' : Entry) : Type 0 where
  pub some : min_path_points ≤ s.points.count
  pub counted : s.points.count ≤ max_points
  pub room : path_length (path_at b s) ≡ head_length (is_some (path_type_of s.pathtype)) x + xy_point_length * s.points.count
  pub grown : e'.count ≤ e.count + 3

pub front-known : (policy : GdsRoundingPolicy) (d : Float) (b : List ℕ) (s : PathPlaces) (e : Entry) (v : Lengths) → GivesExtent (path_at b s) e (write_front policy d (path_at b s)) (Ok v)
    → Known b s e v.extent v.entry
unfolding path_at
front-known policy d b s e v h =
    let p = path_at b s in
    let n = length_from s.points.count b s.points.place in
    let counts = front-counted policy d p e v h in
    let least = counts.0 in
    let most = counts.1 in
    record {
      some = omega arith;
      counted = omega arith;
      room = path_room p e.count v.extent v.entry h.fits ∙ ap (λ (k : ℕ). head_length (is_some p.path_type) v.extent + 8 * k) n;
      grown = h.fits.grown;
    }

module _ (policy : GdsRoundingPolicy) (d : Float) (p : S.Path) (e : Entry) where
  -- ---- refused before the points

  pub measure-refused : (x : Refusal) → GivesExtent p e (write_front policy d p) (Err x) → Measures path_bytes e (write_path policy d p) (Err x)
  measure-refused x h = front-stops policy d p Err e (sizing path_bytes) x h

  -- ---- after the front
  module _ (v : Lengths) (h : GivesExtent p e (write_front policy d p) (Ok v)) where
    abbrev l : OptExtent
    l = opt_extent v.extent

    -- measured: s is what the points answer
    pub path-measured : (k : ℕ) → k ≡ head_length (is_some p.path_type) v.extent + 8 * length p.points → (s : Result Walked Refusal) → s ≡ run Err v.entry (write_points policy d 0 p.points) walked
        → Measures path_bytes e (write_path policy d p) (with_length k s)
    unfolding sizing
    path-measured k i s g =
        ap (with_length k) g
        ∙ run-through Err walked (with_length k) Err (λ ps e''. through k e'') (λ x. refl) (ends-length k) v.entry (write_points policy d 0 p.points)
        ∙ run-counted Err policy d 0 p.points v.entry (λ ps e''. through k e'') (λ ps e''. sizing path_bytes (drawn policy d p l ps) e'')
        (λ ps e'' j. ap (λ (m : ℕ). through m e'') (i ∙ sym (length-path p.layer p.datatype p.path_type l ps (length p.points) j)))
        ∙ front-goes-on policy d p Err e (sizing path_bytes) v h

    -- written: the head, then the points, n of them
    module _ (n : ℕ) (j : n ≡ length p.points) {m at to : ℕ} {before cur : List ℕ} (u : Placed (path_head p.layer p.datatype p.path_type l n) m before cur at to) where
      abbrev head : List ℕ
      head = path_head p.layer p.datatype p.path_type l n

      joined : (ps : List (Point ℤ)) (e'' : Entry) → length ps ≡ length p.points → putting points_bytes to cur ps e'' ≡ putting path_bytes at before (drawn policy d p l ps) e''
      unfolding putting
      joined ps e'' k =
          let c = sym (path-split p.layer p.datatype p.path_type l ps n (k ∙ sym j)) in
          ap₂ (λ (o : List ℕ) (t : ℕ). written o t e'')
          (sym (at_turn u.wrote (points_bytes ps)) ∙ ap (λ (s : List ℕ). splice at s before) c)
          (go at to (length head) (length (points_bytes ps)) (length (head ++ points_bytes ps)) u.wrote.count (length-append head (points_bytes ps)) ∙ ap (λ (s : List ℕ). at + length s) c)
        where
          go : (at to a b s : ℕ) → to ≡ at + a → s ≡ a + b → to + b ≡ at + s
          go at to a b s h k = omega arith

      pub path-written : {last : List ℕ} {s : Written} → Writes points_bytes v.entry (write_points policy d 0 p.points) to cur last s → Writes path_bytes e (write_path policy d p) at before last s
      path-written {last} {s} w =
          writes path_bytes e (write_path policy d p) at before last s.to s.entry
          (sym
          (run-counted stopped policy d 0 p.points v.entry (putting points_bytes to cur) (λ ps e''. putting path_bytes at before (drawn policy d p l ps) e'') joined
          ∙ front-goes-on policy d p stopped e (putting path_bytes at before) v h)
          ∙ outcome-of points_bytes v.entry (write_points policy d 0 p.points) to cur last w)
          (go s.to _ _ w.wrote.count w.wrote.fits u.long)
        where
          go : (k m c : ℕ) → k ≡ to + m → to + m ≤ c → c ≡ length before → k ≤ length before
          go k m c f g h = omega arith

-- ---- what comes out is there as on the sheet: what follows may count on it

-- the lengths that are on the sheet
record Kept (p : S.Path) (x : OptExtent) : Type 0 where
  width : is_some x.width ≡ is_some p.width
  begin : is_some x.begin ≡ is_some p.begin
  end : is_some x.end ≡ is_some p.end

module _ (policy : GdsRoundingPolicy) (d : Float) {Z : Type 0} (stop : Refusal → Z) where
  run_length : (f : ℕ) (x : Option Units.Unit) (e : Entry) (k l : Option ℤ → Entry → Z) → ((y : Option ℤ) (e' : Entry) → is_some y ≡ is_some x → k y e' ≡ l y e')
      → run stop e (write_length policy d f x) k ≡ run stop e (write_length policy d f x) l
  unfolding write_length
  run_length f none e k l h = run-pure stop e none k ∙ h none e refl ∙ sym (run-pure stop e none l)
  run_length f (some u) e k l h =
      run-map stop e _ some k ∙ run-same stop e _ _ _ (λ q e'. h (some q) e' refl) ∙ sym (run-map stop e _ some l)

  module _ (p : S.Path) where
    expanded : (e : Entry) (k : OptExtent → Entry → Z) → run stop e (write_extent policy d p) k
        ≡ run stop e (write_length policy d width_field p.width) (λ w e1. run stop e1 (write_length policy d begin_field p.begin) (λ b e2. run stop e2 (write_length policy d end_field p.end) (λ n e3. k (record { width = w; begin = b; end = n }) e3)))
    unfolding write_extent
    expanded e k =
        run_bind stop e _ _ k ∙ run-same stop e _ _ _ (λ w e1. run_bind stop e1 _ _ k ∙ run-same stop e1 _ _ _ (λ b e2. run-map stop e2 _ (λ n. record { width = w; begin = b; end = n }) k))

    run-extent : (e : Entry) (k l : OptExtent → Entry → Z) → ((x : OptExtent) (e' : Entry) → Kept p x → k x e' ≡ l x e') → run stop e (write_extent policy d p) k ≡ run stop e (write_extent policy d p) l
    run-extent e k l h =
        expanded e k
        ∙ run_length width_field p.width e _ _ (λ w e1 h1. run_length begin_field p.begin e1 _ _ (λ b e2 h2. run_length end_field p.end e2 _ _ (λ n e3 h3.
        h (record { width = w; begin = b; end = n }) e3 (record { width = h1; begin = h2; end = h3 }))))
        ∙ sym (expanded e l)

    run-front : (e : Entry) (k l : OptExtent → Entry → Z) → ((x : OptExtent) (e' : Entry) → Kept p x → k x e' ≡ l x e') → run stop e (write_front policy d p) k ≡ run stop e (write_front policy d p) l
    unfolding write_front
    run-front e k l h =
        run-then stop e _ _ k
        ∙ run-same stop e _ _ _ (λ u e1. run-then stop e1 _ _ k ∙ run-same stop e1 _ _ _ (λ v e2. run-extent e2 k l h) ∙ sym (run-then stop e1 _ _ l))
        ∙ sym (run-then stop e _ _ l)

    run-path : (e : Entry) (k l : D.Path → Entry → Z)
        → ((x : OptExtent) (ps : List (Point ℤ)) (e' : Entry) → Kept p x → length ps ≡ length p.points → k (drawn policy d p x ps) e' ≡ l (drawn policy d p x ps) e')
        → run stop e (write_path policy d p) k ≡ run stop e (write_path policy d p) l
    run-path e k l h =
        whole k
        ∙ run-front e _ _ (λ x e' g. run-counted stop policy d 0 p.points e' _ _ (λ ps e'' c. h x ps e'' g c))
        ∙ sym (whole l)
      where
        whole : (k : D.Path → Entry → Z) → run stop e (write_path policy d p) k ≡ run stop e (write_front policy d p) (λ x e'. run stop e' (write_points policy d 0 p.points) (λ ps e''. k (drawn policy d p x ps) e''))
        whole k =
            path-is policy d p stop e k
            ∙ run_bind stop e (write_front policy d p) _ k
            ∙ run-same stop e (write_front policy d p) _ _ (λ x e'. run-map stop e' (write_points policy d 0 p.points) (drawn policy d p x) k)

-- what the definition gives has the length that the sheet tells
pub path-length : (policy : GdsRoundingPolicy) (d : Float) (p : S.Path) (w : D.Path) (vs : List Deviation) → write_path policy d p ≡ made w vs → length (path_bytes w) ≡ path_length p
unfolding run path_length
path-length policy d p w vs h =
    sym (ap (λ (m : Made D.Path). run (λ x. 0) (blank_entry 0 0) m (λ y e. length (path_bytes y))) h)
    ∙ run-path policy d (λ x. 0) p (blank_entry 0 0) (λ y e. length (path_bytes y)) (λ y e. path_length p) each
    ∙ ap (λ (m : Made D.Path). run (λ x. 0) (blank_entry 0 0) m (λ y e. path_length p)) h
  where
    each : (x : OptExtent) (ps : List (Point ℤ)) (e : Entry) → Kept p x → length ps ≡ length p.points → length (path_bytes (drawn policy d p x ps)) ≡ path_length p
    each x ps e g c =
        length-path p.layer p.datatype p.path_type x ps (length p.points) c
        ∙ ap (λ (t : Bool). flags_length (is_some p.path_type) t (is_some x.begin) (is_some x.end) + 8 * length p.points) g.width
        ∙ ap₂ (λ (t u : Bool). flags_length (is_some p.path_type) (is_some p.width) t u + 8 * length p.points) g.begin g.end
