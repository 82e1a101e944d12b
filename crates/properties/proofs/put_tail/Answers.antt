-- What is left to write stands at the place reached, after the properties that are there, and succeeds. Assumes nothing.
use mathlib.Core.Path.{refl, ◌∙◌}
use Prim.Native.Nat.{◌+◌, ◌≤◌}
use native.Mathlib.Omega.{arith}
use native.Mathlib.Nat.{sub-zero}
use lib.ListN.{length}
use Rattle.conversion.proofs.FoldLaws.{run-same}
use Rattle.cell.specs.Write.{write_properties}
use Rattle.block_places.specs.code.Places.{properties_at}
use Rattle.steps.proofs.StepLaws.{stopped, writes}
use Rattle.properties.specs.code.Tail.{tail_bytes}
use Rattle.properties.proofs.TailLaws.{first_passes, value-fits, rest-succeeds, tail-turn, tail-end, put-turn, put-end, length-turn, length-end, value_in, place-next}
use Rattle.properties.proofs.put_tail.Goals.{After-value_length-m}
use Rattle.properties.proofs.put_tail.Goals as goal

pub loop-init : goal.loop-init
loop-init c =
    record {
      place = rw sub-zero c.requires.place_in_bounds;
      accepted = rw sub-zero c.requires.succeeds;
      long = refl;
      room = rw sub-zero c.requires.place_in_bounds_2;
      rest = rw sub-zero;
    }

-- the property lies in the block
inside : (c : After-value_length-m) → c.loop.at + 4 + c.value_length-m.result ≤ length c.args.b.now
inside c =
    let l = c.loop in
    value_in c.args.properties.count l.counter c.args.b.now l.at c.value_length-m.result c.loop-test.true c.value_length-m.ensures l.invariant.place

pub put_property_at-to-requires : goal.put_property_at-to-requires
put_property_at-to-requires c =
    let n = c.args.properties.count in
    let b = c.args.b.now in
    let l = c.loop in
    let v = l.invariant in
    let m = c.value_length-m in
    let h = inside (goal.at.put_property_at-to-requires c).After-value_length-m in
    record {
      value_fits = rw (← m.ensures) (value-fits n l.counter b l.at m.result c.loop-test.true m.ensures h v.accepted);
      value_in_bounds = rw (← m.ensures) h;
      records_in_bounds = omega (arith, m.ensures, v.room, v.long, length-turn n l.counter b l.at m.result c.loop-test.true m.ensures);
    }

pub loop-preserved : goal.loop-preserved
loop-preserved c =
    let a = c.args in
    let b = a.b.now in
    let n = a.properties.count in
    let l = c.loop in
    let v = l.invariant in
    let m = c.value_length-m in
    let w = rw (← m.ensures) at c.put_property_at-to.ensures in
    let h = inside (goal.at.loop-preserved c).After-value_length-m in
    record {
      place = place-next n l.counter b l.at m.result c.loop-test.true m.ensures v.place;
      accepted = rest-succeeds n l.counter b l.at m.result c.loop-test.true m.ensures h v.accepted;
      long = omega (arith, w.long, v.long);
      room = omega (arith, w.end, v.room, length-turn n l.counter b l.at m.result c.loop-test.true m.ensures);
      rest = v.rest
          ∙ tail-turn stopped a.entry _ n l.counter b l.at m.result c.loop-test.true m.ensures h (first_passes n l.counter b l.at m.result c.loop-test.true m.ensures h v.accepted)
          ∙ run-same stopped a.entry _ _ _ (put-turn b l.at _ _ _ _ _ w);
    }

pub put_empty_at-requires : goal.put_empty_at-requires
put_empty_at-requires c =
    let l = c.loop in
    omega (arith, l.invariant.room, l.invariant.long, length-end c.args.properties.count l.counter c.args.b.now l.at c.loop-test.false)

pub returns : goal.returns
returns c =
    let a = c.args in
    let l = c.loop in
    let v = l.invariant in
    let w = c.put_empty_at.ensures in
    writes tail_bytes a.entry (write_properties (properties_at a.b.now a.properties)) a.start a.out.now _ _ a.entry
    (v.rest ∙ tail-end stopped a.entry _ a.properties.count l.counter a.b.now l.at c.loop-test.false ∙ put-end _ _ _ _ a.entry w)
    (omega (arith, w.end, v.room, length-end a.properties.count l.counter a.b.now l.at c.loop-test.false))
