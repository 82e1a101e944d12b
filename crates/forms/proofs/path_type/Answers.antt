-- `forms::path_type` meets its contract: 255, or a code.
-- Assumes nothing.
use mathlib.Core.Path.{refl, sym, ◌∙◌}
use mathlib.Core.Option.{some}
use Prim.Native.Nat.{◌+◌}
use lib.Dec.{leb}
use lib.ListN.{drop}
use borrow.Author.Tests.{ne_eqb}
use Rattle.big_endian.specs.Big.{number_at}
use Rattle.sheet.specs.Element.{path_type_form}
use Rattle.block_places.specs.code.Places.{path_type_of}
use Rattle.forms.proofs.Step.{num-at, when-is}
use Rattle.forms.proofs.path_type.Goals as goal

pub returns-then-pathtype : goal.returns-then-pathtype
unfolding path_type_form path_type_of
returns-then-pathtype c =
    let b = c.args.b.now in
    let k = sym c.u8_at-pathtype.ensures ∙ c.if-pathtype.true in
    rw c.if-pathtype.true (record { is = rw (num-at 1 b c.args.at (c.args.at + 1) refl c.requires, k) })

pub returns-else-pathtype : goal.returns-else-pathtype
unfolding path_type_form path_type_of
returns-else-pathtype c =
    let b = c.args.b.now in
    let k = number_at 1 b c.args.at in
    let other = ne_eqb k 255 (λ e. c.if-pathtype.false (c.u8_at-pathtype.ensures ∙ e)) in
    rw c.u8_at-pathtype.ensures (record { is = rw (num-at 1 b c.args.at (c.args.at + 1) refl c.requires, other) (when-is (leb k 2) (some k) (drop (c.args.at + 1) b)) })
