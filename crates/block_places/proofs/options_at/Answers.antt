-- `block_places::options_at` meets its contract: each option where the one before it ends. Assumes nothing.
use mathlib.Core.Path.{◌≡◌}
use mathlib.Core.Bool.{Bool}
use Prim.Native.Nat.{◌+◌, ◌≤◌}
use Rattle.std.specs.Bool.{then_some}
use Rattle.std.specs.Prelude.{Option, None, Some, is_some, IfSome}
use Rattle.big_endian.specs.Big.{number_at}
use lib.ListN.{length}
use Rattle.std.proofs.Common.{rules}
use Rattle.block_places.specs.code.Places.{shift_of, options_at}
use native.Mathlib.Omega.{arith}
use Rattle.block_places.proofs.options_at.Goals as goal

pub then-flags-requires : goal.then-flags-requires
unfolding shift_of
then-flags-requires c t =
    let h = rw (← c.u8_at-kind.ensures, ← c.is_raised-flagged.ensures, t) at c.requires in
    let l : 3 ≤ length c.args.b.now = omega arith in
    search rules

pub then-plex-requires : goal.then-plex-requires
unfolding shift_of
then-plex-requires c t =
    let h = rw (← c.u8_at-kind.ensures, ← c.is_raised.ensures, ← c.is_raised-flagged.ensures, t) at c.requires in
    let l : 1 + c.size_if.result + 4 ≤ length c.args.b.now = rw c.size_if.ensures.0 (omega arith) in
    search rules

-- what `then` answers, where the closure's answer is v
given : {A : Type 0} (o : Option A) (t : Bool) (v : A) {P : A → Type 0} → is_some o ≡ t → IfSome o P → ((x : A) → P x → x ≡ v) → o ≡ then_some t v
given None t v e h k = rw (← e)
given (Some x) t v e h k = rw (← e, k x h)

pub returns : goal.returns
unfolding options_at
returns c =
    let b = c.args.b.now in
    let flags = given c.then-flags.result _ (number_at 2 b 1) c.then-flags.ensures.variant c.then-flags.ensures.some (λ x p. search rules) in
    let plex = given c.then-plex.result _ (number_at 4 b (1 + c.size_if.result)) c.then-plex.ensures.variant c.then-plex.ensures.some (λ x p. search rules) in
    rw (flags, plex, c.shift_of.ensures.0, c.size_if.ensures.0, c.is_raised.ensures, c.is_raised-flagged.ensures, c.u8_at-kind.ensures)
