-- `test_arithmetic::to_whole` meets its contract: each way out is a law of `WholeLaws`. Assumes nothing.
use Rattle.std.proofs.Common.{◌∙◌, lt_of_le_of_lt, lit<, w64}
use mir.ValLaws.{to_z-of_z}
use Rattle.binary64.specs.code.Whole.{rounded}
use Rattle.binary64.proofs.PartsLaws.{toward-fits, toward-parts}
use Rattle.test_arithmetic.proofs.WholeLaws.{whole-none, whole-beyond, whole-at}
use Rattle.test_arithmetic.proofs.to_whole.Goals as goal

pub with_sign-requires : goal.with_sign-requires
with_sign-requires c =
    let u = c.unpack-p in
    let d = c.args.direction in
    lt_of_le_of_lt (toward-fits d u.result.negative u.result.digits u.result.power c.size_toward-n.result u.ensures.digits c.if-p-lt-WHOLE.true c.size_toward-n.ensures) (lit< tt)

pub returns-then-p-lt-WHOLE : goal.returns-then-p-lt-WHOLE
returns-then-p-lt-WHOLE c =
    let u = c.unpack-p in
    let s = c.args in
    whole-at (rounded s.direction) s.x u.result.negative u.result.digits u.result.power u.ensures (cc) _ c.if-p-lt-WHOLE.true
    (to_z-of_z w64 c.with_sign.result (record { sfits = c.with_sign.type_inv }) ∙ c.with_sign.ensures ∙ toward-parts s.direction s.x u.result.negative u.result.digits u.result.power u.ensures c.size_toward-n.result c.size_toward-n.ensures)

pub returns-else-p-lt-WHOLE : goal.returns-else-p-lt-WHOLE
returns-else-p-lt-WHOLE c =
    let u = c.unpack-p in
    let s = c.args in
    whole-beyond (rounded s.direction) s.x u.result.negative u.result.digits u.result.power u.ensures (cc) c.if-p-lt-WHOLE.false

pub returns-else-is_finite : goal.returns-else-is_finite
returns-else-is_finite c = let s = c.args in whole-none (rounded s.direction) s.x (cc)
