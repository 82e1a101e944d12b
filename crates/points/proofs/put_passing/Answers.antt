-- `points::put_passing` meets its contract: the points so far pass, and their bytes stand in the output. Assumes nothing.
use mathlib.Core.Path.{◌≡◌, refl, sym, subst, ◌∙◌}
use Prim.Native.Nat.{◌*◌}
use native.Mathlib.Omega.{arith}
use lib.Dec.{T}
use lib.IntN.{ℤ}
use borrow.Author.Rules.{rules}
use Rattle.std.specs.Iterator.Adapters.{enumerate_count}
use Rattle.units.specs.Point.{Point}
use Rattle.big_endian.specs.Buffer.{WroteAt}
use Rattle.big_endian.proofs.BufferLaws.{length_at}
use Rattle.stream.specs.Records.{point_bytes}
use Rattle.points.specs.code.Integers.{count_of, PutsPassing}
use Rattle.points.proofs.ChunkLaws.{chunks-first, chunk-next, chunks-end, integers-part}
use Rattle.points.proofs.IntegerLaws.{part-passes, pass-more, put-more, none-put}
use Rattle.points.proofs.put_passing.Goals as goal

pub returns-then-is_nan : goal.returns-then-is_nan
returns-then-is_nan c =
    let a = c.args in
    let room = c.requires in
    record { passing = record { within = omega arith; pass = tt }; wrote = none-put a.list.now 0 a.out.now a.start _ (omega arith) (omega arith) }

pub loop-i-init : goal.loop-i-init
loop-i-init c =
    let a = c.args in
    let room = c.requires in
    let z : enumerate_count c.into_iter-i-iterator.result ≡ 0 = search rules in (
      search rules,
      search rules,
      chunks-first a.list.now _ (search rules) (search rules) z,
      rw z (record { within = omega arith; place = omega arith; long = refl; pass = tt; wrote = none-put a.list.now 0 a.out.now a.start a.start refl (omega arith) }),
    )

pub loop-i-preserved : goal.loop-i-preserved
loop-i-preserved c =
    let a = c.args in
    let l = c.loop-i in
    let s = a.list.now in
    let i = enumerate_count l.i-iterator in
    let v = l.invariant.3 in
    let F = subst T (sym c.well_formed.0.1) tt in
    let N = c.if-is_nan.ensures.not_nan in
    let m = chunk-next s l.i-iterator c.next.new.self _ c.in-Some.bytes l.invariant.2 c.in-Some.ensures.steps in
    let u = part-passes a.d F N s c.in-Some.bytes.now i m.part (c.point_in_unit.ensures c.if-not-point_in_unit.false) in
    let w = subst (λ (p : Point ℤ). WroteAt (point_bytes p) l.out c.put_point-to.new.out l.to c.put_point-to.result) (c.integer_point.ensures ∙ integers-part m.part 0 (34 * i) (omega arith) (omega arith)) c.put_point-to.ensures in
    let j = w.count in
    let within = m.within in
    let place = v.place in (
      search rules,
      search rules,
      m.reached,
      rw m.count (record {
        within = omega arith;
        place = omega arith;
        long = length_at w ∙ v.long;
        pass = pass-more s a.d i 0 (34 * i) (omega arith) v.pass u.0 u.1;
        wrote = put-more s i 0 (34 * i) (omega arith) v.wrote w;
      }),
    )

pub returns : goal.returns
returns c =
    let a = c.args in
    let l = c.loop-i in
    let v = l.invariant.3 in
    let e = chunks-end a.list.now l.i-iterator c.next.new.self l.invariant.2 c.in-None.ensures.steps in
    let w = v.within in
    let n : enumerate_count l.i-iterator ≡ count_of a.list.now = omega arith in
    subst (PutsPassing a.d a.list.now a.start a.out.now l.out) n
    (record { passing = record { within = w; pass = v.pass }; wrote = subst (WroteAt _ a.out.now l.out a.start) v.place v.wrote })
