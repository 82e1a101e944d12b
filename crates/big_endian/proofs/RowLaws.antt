-- A row of runs in a buffer, for a loop that writes one in each turn. Assumes nothing.
use mathlib.Core.Path.{◌≡◌, refl, sym, ◌∙◌}
use mathlib.Core.List.{List, [], ◌++◌}
use Prim.Native.Nat.{ℕ, ◌+◌, ◌≤◌}
use native.Mathlib.Omega.{arith}
use lib.ListN.{length, length-append}
use Rattle.big_endian.specs.Buffer.{splice, WroteAt}
use Rattle.big_endian.proofs.BufferLaws.{at_turn, at-end, length_at}

-- The runs `whole` are owed at `start`, in place of what is there before. At `to`, what is still to come stands for what is owed.
pub record Row (start : ℕ) (whole before : List ℕ) (to : ℕ) (rest out : List ℕ) : Type 0 where
  pub owed : splice start whole before ≡ splice to rest out
  pub end : to + length rest ≡ start + length whole
  pub long : length out ≡ length before

module _ {start : ℕ} {whole before : List ℕ} where
  pub row-start : Row start whole before start whole before
  row-start = record { owed = refl; end = refl; long = refl }

  -- one run more was written
  pub row-turn : {run rest out out' : List ℕ} {to to' : ℕ} → Row start whole before to (run ++ rest) out → WroteAt run out out' to to' → Row start whole before to' rest out'
  row-turn {run} {rest} r w =
      let e = r.end in
      let l = length-append run rest in
      let c = w.count in
      record { owed = r.owed ∙ at_turn w rest; end = omega arith; long = length_at w ∙ r.long }

  -- nothing is to come
  pub row-end : {out : List ℕ} {to : ℕ} → start + length whole ≤ length before → Row start whole before to [] out → WroteAt whole before out start to
  row-end {out} {to} f r =
      let e = r.end in
      record { count = omega arith; fits = f; out = sym (r.owed ∙ at-end to out) }
