-- The points of a list's bytes one by one: each reads as the list does at its place, and so does a part of more. Assumes nothing.
use mathlib.Core.Path.{◌≡◌, refl, sym, ap, ap₂, ◌∙◌, subst}
use mathlib.Core.List.{List, ◌∷◌, ◌++◌}
use Prim.Native.Nat.{ℕ, zero, suc, ◌+◌, ◌-◌, ◌*◌, ◌≤◌, ◌<◌}
use native.Mathlib.Omega.{arith}
use lib.ListN.{length, take, drop, length-append, length-drop}
use lib.Seq.{take_at, drop_at, drop-drop, length-take-le}
use denote.Ref.{Bor}
use Rattle.std.specs.Prelude.{Option, Some, None}
use Rattle.std.specs.Option.{option_map, IfSome}
use Rattle.std.specs.Iterator.Adapters.{enumerate_source, enumerate_count, enumerate_steps}
use Rattle.std.specs.Slice.Iter.{chunks_exact_rest, chunks_exact_size, chunks_exact_steps}
use Rattle.std.specs.List.{between}
use Rattle.std.proofs.lemmas.List.{take-take, drop-take}
use Rattle.std.specs.declared.slice.ChunksExact.{ChunksExact}
use Rattle.std.specs.declared.iter.Enumerate.{Enumerate}
use Rattle.big_endian.specs.Big.{number, number_at}
use Rattle.units.specs.declared.Unit.{Unit}
use Rattle.units.specs.Point.{Point}
use Rattle.block_places.specs.code.Place.{values_from, unit_at, point_at, points_from}
use Rattle.points.specs.code.Integers.{count_of, points_in, integers_at, InUnit}

-- the m bytes of s are those of b from a place on
pub record Part (m : ℕ) (s b : List ℕ) (at : ℕ) : Type 0 where
  pub number : (k o j : ℕ) → o + k ≤ m → at + o ≡ j → number_at k s o ≡ number_at k b j

pub part-dropped : (m : ℕ) (s b : List ℕ) (at : ℕ) → s ≡ drop at b → Part m s b at
unfolding number_at
part-dropped m s b at e =
    record { number = λ k o j h i. ap (λ (t : List ℕ). number (take k (drop o t))) e ∙ ap (λ (t : List ℕ). number (take k t)) (drop-drop o at b) ∙ ap (λ (i : ℕ). number (take k (drop i b))) i }

pub part-taken : (m : ℕ) (s b : List ℕ) (at : ℕ) → s ≡ take m (drop at b) → Part m s b at
unfolding number_at
part-taken m s b at e =
    record {
      number = λ k o j h i.
          let z : m ≡ o + (m - o) = omega arith in
          ap (λ (t : List ℕ). number (take k (drop o t))) e
          ∙ ap (λ (j : ℕ). number (take k (drop o (take j (drop at b))))) z
          ∙ ap (λ (t : List ℕ). number (take k t)) (drop-take o (m - o) (drop at b))
          ∙ ap number (take-take k (m - o) (drop o (drop at b)) (omega arith))
          ∙ ap (λ (t : List ℕ). number (take k t)) (drop-drop o at b)
          ∙ ap (λ (i : ℕ). number (take k (drop i b))) i;
    }

module _ {m : ℕ} {s b : List ℕ} {at : ℕ} (p : Part m s b at) where
  pub unit-part : (o j : ℕ) → o + 17 ≤ m → at + o ≡ j → unit_at s o ≡ unit_at b j
  unfolding unit_at
  unit-part o j h e =
      rw (p.number 1 o j (omega arith) e, p.number 4 (o + 5) (j + 5) (omega arith) (omega arith), p.number 8 (o + 9) (j + 9) (omega arith) (omega arith), p.number 8 (o + 1) (j + 1) (omega arith) (omega arith))

  pub point-part : (o j : ℕ) → o + 34 ≤ m → at + o ≡ j → point_at s o ≡ point_at b j
  unfolding point_at
  point-part o j h e = rw (unit-part o j (omega arith) e, unit-part (o + 17) (j + 17) (omega arith) (omega arith))

  pub points-part : (n o j : ℕ) → o + 34 * n ≤ m → at + o ≡ j → points_from n s o ≡ points_from n b j
  unfolding values_from
  points-part zero o j h e = refl
  points-part (suc n) o j h e = ap₂ (λ (q : Point Unit) (qs : List (Point Unit)). q ∷ qs) (point-part o j (omega arith) e) (points-part n (o + 34) (j + 34) (omega arith) (omega arith))

  pub integers-part : (o j : ℕ) → o + 34 ≤ m → at + o ≡ j → integers_at s o ≡ integers_at b j
  integers-part o j h e = rw (p.number 4 (o + 5) (j + 5) (omega arith) (omega arith), p.number 4 (o + 17 + 5) (j + 17 + 5) (omega arith) (omega arith))

  pub in-unit-part : (bits o j : ℕ) → o + 17 ≤ m → at + o ≡ j → InUnit bits s o → InUnit bits b j
  in-unit-part bits o j h e u = (sym (p.number 1 o j (omega arith) e) ∙ u.0, sym (p.number 8 (o + 9) (j + 9) (omega arith) (omega arith)) ∙ u.1)

-- ---- a list in a block, and what it has after its first points

pub record Listed (s b : List ℕ) (place count : ℕ) : Type 0 where
  pub long : length s ≡ 34 * count
  pub number : count_of s ≡ count
  pub same : points_from count s 0 ≡ points_from count b place

pub listed : (b : List ℕ) (place count : ℕ) → place + 34 * count ≤ length b → Listed (between place (place + 34 * count) b) b place count
listed b place count h =
    let n : place + 34 * count - place ≡ 34 * count = omega arith in
    let e : between place (place + 34 * count) b ≡ take (34 * count) (drop place b) = ap (λ (j : ℕ). take j (drop place b)) n in
    let l : length (between place (place + 34 * count) b) ≡ 34 * count = ap length e ∙ length-take-le (34 * count) (drop place b) (omega (arith, length-drop place b)) in
    record { long = l; number = omega arith; same = points-part (part-taken (34 * count) _ b place e) count 0 place (omega arith) (omega arith) }

pub listed-rest : (s r : List ℕ) (k m : ℕ) → length s ≡ 34 * (m + k) → r ≡ drop (34 * k) s → points_in r ≡ points_from m s (34 * k)
listed-rest s r k m h e =
    let l : length r ≡ length s - 34 * k = ap length e ∙ length-drop (34 * k) s in
    let n : count_of r ≡ m = omega arith in
    ap (λ (j : ℕ). points_from j r 0) n ∙ points-part (part-dropped (34 * m) r s (34 * k) e) m 0 (34 * k) (omega arith) (omega arith)

-- ---- one by one

-- of an item that is there, what two runs say of it: of the first, what follows from that
pub item-there : {A : Type 0} (R : A → Type 0) (o o' : Option A) (u : A) {P Q : A → Type 0} → o' ≡ o → option_map (λ y. y) o ≡ Some u → IfSome o P → IfSome o' Q → ((x : A) → P x → R x) → (x : A) × R x × Q x
item-there R None o' u e h p q f = absurd cc
item-there R (Some x) o' u {P} {Q} e h p q f = (x, f x p, subst (λ (r : Option _). IfSome r Q) e q)

-- ---- with a count

-- as many points of the list are met as the count says
pub record Reached (s : List ℕ) (it : Enumerate (ChunksExact ℕ)) : Type 0 where
  pub size : chunks_exact_size (enumerate_source it) ≡ 34
  pub rest : chunks_exact_rest (enumerate_source it) ≡ drop (34 * enumerate_count it) s

-- x is the next of them
pub record Next (s x : List ℕ) (it after : Enumerate (ChunksExact ℕ)) : Type 0 where
  pub within : enumerate_count it < count_of s
  pub part : Part 34 x s (34 * enumerate_count it)
  pub count : enumerate_count after ≡ enumerate_count it + 1
  pub reached : Reached s after

pub chunks-first : (s : List ℕ) (it : Enumerate (ChunksExact ℕ)) → chunks_exact_size (enumerate_source it) ≡ 34 → chunks_exact_rest (enumerate_source it) ≡ s → enumerate_count it ≡ 0 → Reached s it
chunks-first s it z e f = record { size = z; rest = e ∙ sym (ap (λ (j : ℕ). drop (34 * j) s) f) }

pub chunk-next : (s : List ℕ) (it after : Enumerate (ChunksExact ℕ)) (n : ℕ) (x : Bor (List ℕ)) → Reached s it → enumerate_steps chunks_exact_steps it (Some (n, x)) after → Next s x.now it after
chunk-next s it after n x r h =
    let t = chunks_exact_rest (enumerate_source after) in
    let i = enumerate_count it in
    let step = h.0 in
    let l : length x.now ≡ 34 = step.1.1 ∙ r.size in
    let e : drop (34 * i) s ≡ x.now ++ t = sym r.rest ∙ step.1.0 in
    let c : length s - 34 * i ≡ length x.now + length t = sym (length-drop (34 * i) s) ∙ ap length e ∙ length-append x.now t in
    let f : enumerate_count after ≡ i + 1 = h.2 in
    let to : 34 * enumerate_count after ≡ 34 * i + 34 = omega arith in
    let others : t ≡ drop (34 * enumerate_count after) s = sym (ap (λ (j : ℕ). drop j s) to ∙ sym (drop-drop 34 (34 * i) s) ∙ ap (drop 34) e ∙ drop_at x.now t 34 l) in
    record { within = omega arith; part = part-taken 34 x.now s (34 * i) (sym (ap (take 34) e ∙ take_at x.now t 34 l)); count = f; reached = record { size = step.0 ∙ r.size; rest = others } }

pub chunks-end : (s : List ℕ) (it after : Enumerate (ChunksExact ℕ)) → Reached s it → enumerate_steps chunks_exact_steps it None after → count_of s ≤ enumerate_count it
chunks-end s it after r h =
    let l : length s - 34 * enumerate_count it ≡ length (chunks_exact_rest (enumerate_source it)) = sym (length-drop (34 * enumerate_count it) s) ∙ sym (ap length r.rest) in
    let z = r.size in
    let g = h.0.1.0 in
    omega arith
