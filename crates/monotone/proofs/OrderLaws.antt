-- Conversion keeps order: the quotient does, and so does each policy's rounding (laws of binary64 and of conversion). Assumes nothing.
use mathlib.Core.List.{[]}
use lib.Ieee.{binary64, div}
use lib.Ieee.Fits.{div-fits}
use Rattle.binary64.proofs.Order.{quotient-order}
use Rattle.binary64.proofs.Compare.{le-scaled}
use Rattle.conversion.proofs.ConvertLaws.{policy-order, value-passed}
use Rattle.monotone.specs.Order.{KeepsOrder}

pub keeps-order : KeepsOrder
keeps-order policy d p q a b D pd P Q e f h =
    let u = value-passed policy d p a (record { log = []; is = e }) in
    let v = value-passed policy d q b (record { log = []; is = f }) in
    policy-order policy (div binary64 p d) (div binary64 q d) a b (div-fits binary64 p d) (div-fits binary64 q d) u.quotient v.quotient
    (quotient-order d D pd p q P Q u.physical v.physical u.quotient v.quotient (le-scaled p q P Q u.physical v.physical h)) u.rounds v.rounds
