-- The first fault in byte order: what a reader finds in the records at the front does not depend on what follows them. Assumes nothing.
use mathlib.Core.Path.{◌≡◌, refl, sym, ap, ◌∙◌}
use mathlib.Core.List.{List, [], ◌++◌, append-nil}
use Prim.Native.Nat.{ℕ, zero, suc}
use Rattle.parsing.specs.Parse.{Part, ill, ill_formed, refused}
use Rattle.parsing.proofs.ParseLaws.{no_part}
use Rattle.stream.specs.Record.{Rec, stream_bytes, next_record, run_f}
use Rattle.stream.specs.Structure.{Structure}
use Rattle.stream.specs.Read.{Fault, no_record, Stop, Limits, structure, closed, read_structure}
use Rattle.stream.proofs.Fit.{All}
use Rattle.stream.proofs.RecordLaws.{Good, run-append}
use Rattle.stream.proofs.BesideLaws.{Beside, excused, fault, value, SideBySide, alike, Excused, by-structure}

-- a record was wanted
abbrev Wanted : Fault → Type 0
Wanted c = c ≡ no_record

module _ (limits : Limits) where
  steady : SideBySide (Excused Wanted) (structure limits) (structure limits)
  steady = by-structure limits limits Wanted refl (λ kind i r. alike) (λ z. alike)

  same-fault : {t : List Rec} {x y : Part Stop Rec Structure} {c : Stop} → Beside (Excused Wanted) t x y → x ≡ ill c → (c.fault ≡ no_record → ⊥) → y ≡ ill c
  same-fault {c = c} (excused {c = d} w) e n = let q : d ≡ c = cc in absurd (n (ap (λ (s : Stop). s.fault) (sym q) ∙ w))
  same-fault fault e n = e
  same-fault value e n = no_part (sym e)

  -- Where the records at the front are at fault, whatever follows them: that is the fault of the whole.
  pub first-fault : (rs : List Rec) (t : List ℕ) (c : Stop) → All Good rs → structure limits rs ≡ ill c → (c.fault ≡ no_record → ⊥) → read_structure limits (stream_bytes rs ++ t) ≡ refused c
  unfolding read_structure
  first-fault rs t c g e n = rw (run-append rs t g) (ap (closed _) (same-fault (steady.beside rs _) e n))

  run_none : (f : ℕ) (t : List ℕ) → next_record t ≡ ill ill_formed → run_f f t ≡ record { records = []; rest = t }
  unfolding run_f
  run_none zero t e = refl
  run_none (suc f) t e = rw e

  -- Where those records are the front of a structure, and what follows is no well-formed record: that is the fault, in the block where one was wanted.
  pub first-bad-record : (rs : List Rec) (t : List ℕ) (block : ℕ) → All Good rs → structure limits rs ≡ ill (record { fault = no_record; block = block }) → next_record t ≡ ill ill_formed
      → read_structure limits (stream_bytes rs ++ t) ≡ refused (record { fault = no_record; block = block })
  unfolding read_structure
  first-bad-record rs t block g e n = rw (run-append rs t g) (rw (run_none _ t n) (rw (append-nil rs) (rw e)))
