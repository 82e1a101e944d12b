-- `survey::count_places` meets its contract: one place more in each arm. Assumes nothing.
use native.Mathlib.Omega.{arith}
use Rattle.survey.specs.declared.Placed.TheVariants as P
use Rattle.survey.proofs.PlaceLaws.{next}
use Rattle.survey.proofs.count_places.Goals as goal
use Rattle.survey.proofs.count_places.Goals.{in-Clean, in-Due, in-Refused}

pub loop-i-preserved : goal.loop-i-preserved
loop-i-preserved c =
    let a = c.args in
    let v = c.loop-i.invariant in
    let found = next a.converter.policy a.converter.d a.pitch c.loop-i.i c.place.result c.place.ensures in
    elim c.match-place.branch [
      | in-Clean w ↦ let k = found P.Clean w.in-Clean.is in record { clean = omega arith; due = omega arith; refused = omega arith; sum = omega arith }
      | in-Due w ↦ let k = found P.Due w.in-Due.is in record { clean = omega arith; due = omega arith; refused = omega arith; sum = omega arith }
      | in-Refused w ↦ let k = found P.Refused w.in-Refused.is in record { clean = omega arith; due = omega arith; refused = omega arith; sum = omega arith }
    ]
