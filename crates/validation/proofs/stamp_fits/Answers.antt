-- `stamp_fits` meets its contract. Assumes nothing.
use mathlib.Core.Path.{refl, ◌∙◌}
use Prim.Native.Nat.{◌+◌, ◌*◌}
use Rattle.validation.proofs.StampLaws.{stamp-is}
use borrow.Author.Rules.{rules}
use Rattle.validation.proofs.stamp_fits.Goals as goal

pub returns : goal.returns
returns c =
    let s = c.args in c.is_datetime.ensures ∙ rw (c.u16_at-s.ensures, c.u16_at-n.ensures, c.u16_at-h.ensures, c.u16_at-d.ensures, c.u16_at-m.ensures, c.u16_at-y.ensures) (stamp-is s.b.now s.at s.k (s.at + 2 * s.k) (search rules) refl)
