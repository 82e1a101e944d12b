-- `points::count_passing` meets its contract: the points so far pass. Assumes nothing.
use mathlib.Core.Path.{◌≡◌, sym, ◌∙◌, subst}
use Prim.Native.Nat.{ℕ, ◌+◌, ◌*◌, ◌<◌}
use native.Mathlib.Omega.{arith}
use lib.Dec.{T}
use lib.ListN.{take, drop}
use lib.Ieee.{binary64, to_bits}
use borrow.Author.Rules.{rules}
use Rattle.std.specs.Slice.Iter.{chunks_exact_rest, chunks_exact_size}
use Rattle.points.specs.code.Integers.{InUnit, Passes}
use Rattle.points.proofs.ChunkLaws.{item-there, part-taken}
use Rattle.points.proofs.IntegerLaws.{part-passes, all-pass}
use Rattle.points.proofs.count_passing.Goals as goal

pub returns : goal.returns
returns c =
    let a = c.args in
    let s = a.list.now in
    let n = c.count.result in
    let F = subst T (sym c.well_formed.0.1) tt in
    let N = c.if-is_nan.ensures.not_nan in
    let taken = c.count.ensures.runs in
    let chunks = c.take_while.ensures.runs taken.0 taken.0.seen taken.1 in
    let cut = c.chunks_exact.ensures.runs chunks.0 chunks.0.seen (search rules) in
    let true_at = chunks.2.2 (search rules) in
    let z : chunks_exact_size chunks.0.from ≡ 34 = search rules in
    let r : chunks_exact_rest chunks.0.from ≡ s = search rules in
    let each : (k : ℕ) → k < n → Passes a.d s (0 + 34 * k) × Passes a.d s (0 + 34 * k + 17) = λ k h.
    let l = taken.3 in
    let m =
    item-there (λ x. InUnit (to_bits binary64 a.d) x.now 0 × InUnit (to_bits binary64 a.d) x.now 17) (taken.0.at k) (chunks.0.at k) _ (chunks.2.1 k (omega arith)) (taken.0.reads k a.list (omega arith))
    (true_at.0 k) (cut.2 k) (λ x q. search rules) in
    let x = m.0 in
    let part = m.2.2.0 in
    let j : k * 34 ≡ 34 * k = omega arith in
    let e : x.now ≡ take 34 (drop (34 * k) s) = part ∙ rw (z, r, j) in
    let p = part-passes a.d F N s x.now k (part-taken 34 x.now s (34 * k) e) m.1 in
    (subst (Passes a.d s) (omega arith) p.0, subst (Passes a.d s) (omega arith) p.1) in
    record { within = search rules; pass = all-pass a.d s n 0 each }
