-- Runs of bytes written one after the other are one run. A writer's promise is `Wrote` (a part) or `WroteAt` (a place of the whole); `then_at` joins two of them. Assumes nothing.
use mathlib.Core.Path.{◌≡◌, refl, sym, ◌∙◌, ap, subst}
use mathlib.Core.List.{List, [], ◌∷◌, ◌++◌, append_assoc, append-nil}
use Prim.Native.Nat.{ℕ, ◌+◌, ◌-◌, ◌≤◌, min}
use native.Mathlib.Nat.{zero-add, add-zero}
use native.Mathlib.Numerals.{add-one}
use native.Mathlib.Omega.{arith}
use lib.ListN.{length, take, drop, set, length-append, length-take, length-drop, take-append-drop, drop_of_length-le}
use lib.Seq.{take_all, take_at, take-length, drop_at, drop-drop, set_split}
use Rattle.big_endian.specs.Buffer.{over, splice, Wrote, WroteAt}

-- ---- the buffer keeps its length

pub length-splice : (at : ℕ) (bs d : List ℕ) → at + length bs ≤ length d → length (splice at bs d) ≡ length d
unfolding splice
length-splice at bs d h = simp (length-append, length-take, length-drop) (omega arith)

-- ---- runs in a row

-- a second run where the first ended, whatever its length
pub splice-next : (at to : ℕ) (b1 b2 d : List ℕ) → to ≡ at + length b1 → at + length b1 ≤ length d
    → splice to b2 (splice at b1 d) ≡ splice at (b1 ++ b2) d
unfolding splice
splice-next at to b1 b2 d p h =
    let hd : List ℕ = take at d ++ b1 in
    let n : length hd ≡ to = simp (length-append, length-take) (omega arith) in
    let s : take at d ++ (b1 ++ drop (at + length b1) d) ≡ hd ++ drop (at + length b1) d = sym (append_assoc (take at d) b1 _) in
    let t : take to (hd ++ drop (at + length b1) d) ≡ hd = take_at hd _ to n in
    let q : to + length b2 ≡ at + length (b1 ++ b2) = simp length-append (omega arith) in
    let u : drop (to + length b2) (hd ++ drop (at + length b1) d) ≡ drop (at + length (b1 ++ b2)) d
    = sym (drop-drop (length b2) to _) ∙ ap (drop (length b2)) (drop_at hd _ to n) ∙ drop-drop (length b2) (at + length b1) d ∙ ap (λ (k : ℕ). drop k d) (ap (λ (k : ℕ). k + length b2) (sym p) ∙ q) in
    ap (λ (l : List ℕ). take to l ++ (b2 ++ drop (to + length b2) l)) s
    ∙ ap (λ (l : List ℕ). l ++ (b2 ++ drop (to + length b2) (hd ++ drop (at + length b1) d))) t
    ∙ ap (λ (l : List ℕ). hd ++ (b2 ++ l)) u
    ∙ append_assoc (take at d) b1 _
    ∙ ap (λ (l : List ℕ). take at d ++ l) (sym (append_assoc b1 b2 _))

-- two writers in a row are one writer
pub then_at : {b1 b2 d cur last : List ℕ} {at r1 r2 : ℕ}
    → WroteAt b1 d cur at r1 → WroteAt b2 cur last r1 r2 → WroteAt (b1 ++ b2) d last at r2
then_at {b1} {b2} {d} {cur} {last} {at} {r1} {r2} u v =
    let n1 = u.count in
    let n2 = v.count in
    let f1 = u.fits in
    let m : length cur ≡ length d = ap length u.out ∙ length-splice at b1 d f1 in
    let f : r1 + length b2 ≤ length cur = v.fits in
    record {
      count = omega (arith, length-append b1 b2);
      fits = omega (arith, length-append b1 b2);
      out = v.out ∙ ap (splice r1 b2) u.out ∙ splice-next at r1 b1 b2 d n1 f1;
    }

-- after a run the buffer is as long as it was, and there is room for n more where there was
pub length_at : {bs d after : List ℕ} {at r : ℕ} → WroteAt bs d after at r → length after ≡ length d
length_at {bs} {d} {after} {at} w = ap length w.out ∙ length-splice at bs d w.fits

-- ---- for a loop that writes in turns: what is still to be written stands at the place reached

pub at_turn : {e d d' : List ℕ} {at r : ℕ} → WroteAt e d d' at r → (rest : List ℕ) → splice at (e ++ rest) d ≡ splice r rest d'
at_turn {e} {d} {d'} {at} {r} w rest = sym (ap (splice r rest) w.out ∙ splice-next at r e rest d w.count w.fits)

pub at-end : (at : ℕ) (d : List ℕ) → splice at [] d ≡ d
unfolding splice
at-end at d = simp add-zero (take-append-drop at d)

-- ---- a place of the whole, and a part

pub at-start : (bs d : List ℕ) → over bs d ≡ splice 0 bs d
unfolding over splice
at-start bs d = simp zero-add

-- the first place is the start of a part, and the other way round
pub from_zero : {bs d after : List ℕ} {r : ℕ} → WroteAt bs d after 0 r → Wrote bs d after r
from_zero {bs} {d} {after} {r} w =
    let n = w.count in
    let f = w.fits in
    record { count = omega arith; fits = omega arith; out = w.out ∙ sym (at-start bs d) }

-- the part of d from `at` on came back as `last`: seen from the whole
part-splice : (at : ℕ) (bs d last : List ℕ) → at + length bs ≤ length d
    → last ≡ over bs (take (length d - at) (drop at d))
    → take at d ++ (last ++ drop (length d - at) (drop at d)) ≡ splice at bs d
unfolding over splice
part-splice at bs d last h f =
    let w : take (length d - at) (drop at d) ≡ drop at d = take_all (length d - at) (drop at d) (simp length-drop (omega arith)) in
    let z : drop (length d - at) (drop at d) ≡ [] = drop_of_length-le (drop at d) {i = length d - at} (simp length-drop (omega arith)) in
    let g : last ≡ bs ++ drop (at + length bs) d = f ∙ ap (over bs) w ∙ ap (λ (l : List ℕ). bs ++ l) (drop-drop (length bs) at d) in
    ap (λ (l : List ℕ). take at d ++ (last ++ l)) z
    ∙ ap (λ (l : List ℕ). take at d ++ l) (append-nil last ∙ g)

-- a writer that was lent the part from `at` on
pub part_at : {bs d last : List ℕ} {r at : ℕ} → at ≤ length d
    → Wrote bs (take (length d - at) (drop at d)) last r
    → WroteAt bs d (take at d ++ (last ++ drop (length d - at) (drop at d))) at (at + r)
part_at {bs} {d} {last} {r} {at} h w =
    let n = w.count in
    let f : length bs ≤ min (length d - at) (length d - at) = simp (length-take, length-drop) at w.fits in
    record { count = omega arith; fits = omega arith; out = part-splice at bs d last (omega arith) w.out }

-- ---- small runs

-- one store
pub set_at : (d : List ℕ) (at v : ℕ) → at + 1 ≤ length d → WroteAt (v ∷ []) d (set d at v) at (at + 1)
unfolding splice
set_at d at v h = record { count = refl; fits = h; out = set_split d at v (omega arith) ∙ ap (λ (k : ℕ). take at d ++ (v ∷ drop k d)) (sym (add-one at)) }

-- nothing
pub nothing-at : (d : List ℕ) (at : ℕ) → at ≤ length d → WroteAt [] d d at at
nothing-at d at h = record { count = omega arith; fits = omega arith; out = sym (at-end at d) }

-- what a copy of a whole slice promises
pub copied : {b d after : List ℕ} → length b ≤ length d → after ≡ take (length b) b ++ drop (length b) d → Wrote b d after (length b)
unfolding over
copied {b} {d} h e = record { count = refl; fits = h; out = e ∙ ap (λ (l : List ℕ). l ++ drop (length b) d) (take-length b) }

-- ---- the same bytes in other words

pub same_bytes : {bs cs d after : List ℕ} {at r : ℕ} → bs ≡ cs → WroteAt bs d after at r → WroteAt cs d after at r
same_bytes {d = d} {after = after} {at = at} {r = r} e w = subst (λ (l : List ℕ). WroteAt l d after at r) e w
