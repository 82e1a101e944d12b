-- A structure draws a sheet's cell exactly where it passes `draws` of specs/Told; and a table of such questions, answered by computing. Assumes nothing.
use mathlib.Core.Path.{◌≡◌, refl, sym, subst}
use mathlib.Core.Bool.{Bool, true, not, ◌&&◌}
use mathlib.Core.Option.{Option, none, some}
use mathlib.Core.List.{List, [], ◌∷◌}
use Prim.Native.Nat.{ℕ, suc}
use lib.Dec.{T, T_not, ltb, ltb→lt, lt→ltb}
use lib.Ieee.{Float}
use lib.Ieee.Fits.{and_i, and_l, and_r}
use Rattle.big_endian.specs.Big.{Bytes}
use Rattle.big_endian.proofs.BytesLaws.{bytes-nil, bytes-cons}
use Rattle.parsing.specs.All.{All, done, more}
use Rattle.conversion.specs.declared.GdsRoundingPolicy.{GdsRoundingPolicy}
use Rattle.conversion.specs.Policy.{policy_of}
use Rattle.sheet.specs.Cell.{Cell, cell_of}
use Rattle.stream.specs.Structure.{Structure}
use Rattle.stream.specs.Drawn.{drawn_of}
use Rattle.stream.specs.Read.{structure_of}
use Rattle.cell.specs.Draws.{Draws}
use Rattle.cases.specs.Case.{is_read}
use Rattle.guards.specs.Told.{told, all_bytes, told_of, draws}
use Rattle.guards.specs.Question.{Question}
use Rattle.guards.proofs.ToldLaws as ToldLaws
use Rattle.guards.proofs.AlikeLaws as AlikeLaws

-- ---- bytes

pub all-bytes : (s : List ℕ) → T (all_bytes s) → Bytes s
all-bytes [] t = bytes-nil
all-bytes (b ∷ s) t = bytes-cons b s (ltb→lt b 256 (and_l (ltb b 256) (all_bytes s) t)) (all-bytes s (and_r (ltb b 256) (all_bytes s) t))

pub bytes-all : (s : List ℕ) → Bytes s → T (all_bytes s)
bytes-all [] h = tt
bytes-all (b ∷ s) h = and_i (ltb b 256) (all_bytes s) (lt→ltb b 256 (h 0)) (bytes-all s (λ i. h (suc i)))

-- ---- one structure

module _ (n : ℕ) (d : Float) (sheet b : List ℕ) where
  pub passes : Draws n d sheet b → T (draws n d sheet b)
  passes h = and_i (all_bytes b) _ (bytes-all b h.bytewise) (rw (h.named, h.held, h.reads) (ToldLaws.all (ToldLaws.told h.rounding d h.alike)))

  pub suffices : T (draws n d sheet b) → Draws n d sheet b
  suffices t = go (policy_of n) (cell_of sheet) (structure_of b) refl refl refl (and_r (all_bytes b) _ t)
    where
      go : (r : Option GdsRoundingPolicy) (c : Option Cell) (s : Option Structure) → policy_of n ≡ r → cell_of sheet ≡ c → structure_of b ≡ s → T (told_of d r c s) → Draws n d sheet b
      go (some r) (some c) (some s) p q u h =
          record { rounding = r; named = p; cell = c; held = q; bytewise = all-bytes b (and_l (all_bytes b) _ t); structure = s; reads = u; alike = AlikeLaws.alike r d (AlikeLaws.all (told r d c (drawn_of s)) h) }
      go (some r) (some c) none p q u h = absurd h
      go (some r) none s p q u h = absurd h
      go none c s p q u h = absurd h

-- ---- tables of questions, each asked by `ask` and answered by a test `quick` that gives what `draws` does

abbrev pub Drawing : Question → Type 0
Drawing q = Draws q.policy q.unit q.sheet q.bytes

abbrev pub drawing : Question → Bool
drawing q = draws q.policy q.unit q.sheet q.bytes

-- all draw
unfoldable pub all_draw : {A : Type 0} → (A → Bool) → List A → Bool
all_draw quick [] = true
all_draw quick (a ∷ s) = quick a && all_draw quick s

-- all are structures, and draw another cell
abbrev differs : {A : Type 0} → (A → Question) → (A → Bool) → A → Bool
differs ask quick a = is_read (structure_of (ask a).bytes) && not (quick a)

unfoldable pub all_differ : {A : Type 0} → (A → Question) → (A → Bool) → List A → Bool
all_differ ask quick [] = true
all_differ ask quick (a ∷ s) = differs ask quick a && all_differ ask quick s

module _ {A : Type 0} (ask : A → Question) (quick : A → Bool) (same : (a : A) → quick a ≡ drawing (ask a)) where
  pub drawn : (s : List A) → T (all_draw quick s) → All (λ a. Drawing (ask a)) s
  unfolding all_draw
  drawn [] t = done
  drawn (a ∷ s) t =
      more (suffices (ask a).policy (ask a).unit (ask a).sheet (ask a).bytes (subst T (same a) (and_l (quick a) (all_draw quick s) t)))
      (drawn s (and_r (quick a) (all_draw quick s) t))

  pub refused : (s : List A) → T (all_differ ask quick s) → All (λ a. Drawing (ask a) → ⊥) s
  unfolding all_differ
  refused [] t = done
  refused (a ∷ s) t =
      more
      (λ h. T_not (quick a) (and_r (is_read (structure_of (ask a).bytes)) (not (quick a)) (and_l (differs ask quick a) (all_differ ask quick s) t)) (subst T (sym (same a)) (passes (ask a).policy (ask a).unit (ask a).sheet (ask a).bytes h)))
      (refused s (and_r (differs ask quick a) (all_differ ask quick s) t))
