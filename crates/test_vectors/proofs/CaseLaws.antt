-- A case within the bytes, and a turn of the walk over the cases. Assumes nothing.
use mathlib.Core.Path.{◌≡◌, refl, sym, ap, ap₂, ◌∙◌, subst}
use mathlib.Core.Bool.{Bool, true, false, ◌&&◌, cond}
use mathlib.Core.List.{List, [], ◌∷◌}
use Prim.Native.Nat.{ℕ, zero, suc, ◌+◌, ◌-◌, ◌≤◌, ◌<◌}
use native.Mathlib.Omega.{arith}
use lib.Dec.{leb, ltb}
use lib.ListN.{length, take, drop}
use lib.Ieee.{Float, binary64, of_bits}
use borrow.Author.Tests.{leb-true, ltb-true, lt-ltb, le-ltb}
use Rattle.big_endian.specs.Big.{number_at}
use Rattle.big_endian.specs.Buffer.{WroteAt}
use Rattle.test_answers.specs.Answer.{answer_bytes}
use Rattle.test_answers.proofs.AnswerLaws.{put_whole}
use Rattle.test_vectors.proofs.SameLaws.{both, alike, same-is}
use Rattle.test_vectors.specs.Case.{input_length, answer_length, fits, Fits, defined_at, stored_at, same_bytes, answered_at, agrees_at, next, verdicts_from, verdicts, differing}

-- ---- within the bytes

module _ (s : List ℕ) (at : ℕ) where
  abbrev n : ℕ
  n = input_length s at

  abbrev m : ℕ
  m = answer_length s at

  pub fits_true : fits s at ≡ true → Fits s at
  unfolding fits
  fits_true e =
      let p = leb (at + 8) (length s) in
      let q = leb 10 n in
      let r = leb (at + 8 + n) (length s) in
      let a = both (p && q && r) (leb (at + 8 + n + m) (length s)) e in
      let b = both (p && q) r a.0 in
      let c = both p q b.0 in
      record { front = leb-true 10 n c.1; input = leb-true (at + 8 + n) (length s) b.1; answer = leb-true (at + 8 + n + m) (length s) a.1 }

  next_place : fits s at ≡ true → next s at ≡ at + 8 + n + m
  unfolding next
  next_place e = simp e

  next_last : fits s at ≡ false → length s ≡ next s at
  unfolding next
  next_last e = simp e

  -- the walk goes on, and stays within the bytes
  pub next-within : at < length s → (at < next s at) × (next s at ≤ length s)
  next-within h = go (fits s at) refl
    where
      go : (t : Bool) → fits s at ≡ t → (at < next s at) × (next s at ≤ length s)
      go true e = let f = fits_true e in let a = f.answer in let b = next_place e in (omega arith, omega arith)
      go false e = let b = next_last e in (omega arith, omega arith)

-- ---- the stored answer and the one that was put

-- r says whether what was put is what is stored
pub answered-is : (s : List ℕ) (at a b job policy end : ℕ) (d : Float) (before text : List ℕ) (r : Bool)
    → a ≡ input_length s at → b ≡ number_at 4 s (at + 4 + a) → job ≡ number_at 1 s (at + 4) → policy ≡ number_at 1 s (at + 5) → d ≡ of_bits binary64 (number_at 8 s (at + 6))
    → WroteAt (answer_bytes job policy d (take (at + 4 + a - (at + 14)) (drop (at + 14) s))) before text 0 end
    → (r ≡ true → take end text ≡ take (at + 8 + a + b - (at + 8 + a)) (drop (at + 8 + a) s))
    → (take end text ≡ take (at + 8 + a + b - (at + 8 + a)) (drop (at + 8 + a) s) → r ≡ true)
    → r ≡ answered_at s at
unfolding answered_at defined_at stored_at
answered-is s at a b job policy end d before text r e f q g h w i j =
    let k : at + 4 + a - (at + 14) ≡ input_length s at - 10 = omega arith in
    let l : b ≡ answer_length s at = f ∙ ap (λ (x : ℕ). number_at 4 s (at + 4 + x)) e in
    let o : at + 8 + a + b - (at + 8 + a) ≡ answer_length s at = omega arith in
    let u : take end text ≡ defined_at s at = put_whole w ∙ cc in
    let v : take (at + 8 + a + b - (at + 8 + a)) (drop (at + 8 + a) s) ≡ stored_at s at = ap₂ (λ (x y : ℕ). take x (drop (at + 8 + y) s)) o e in
    same-is (take end text) _ r i j ∙ ap₂ same_bytes u v

-- so a case that agrees has the bytes that the definition gives
pub agreeing : (s : List ℕ) (at : ℕ) → agrees_at s at ≡ true → Fits s at × (defined_at s at ≡ stored_at s at)
unfolding agrees_at answered_at
agreeing s at e =
    let a = both (fits s at) (answered_at s at) e in
    (fits_true s at a.0, alike (defined_at s at) (stored_at s at) a.1)

-- ---- the cases in turn

-- what follows a case, by whether there is one
either : (s : List ℕ) (at : ℕ) (x y : List Bool) (t : Bool) → ltb at (length s) ≡ t → (at < length s → x ≡ y)
    → cond (ltb at (length s)) (agrees_at s at ∷ x) [] ≡ cond (ltb at (length s)) (agrees_at s at ∷ y) []
either s at x y true e f = ap (λ (l : List Bool). cond (ltb at (length s)) (agrees_at s at ∷ l) []) (f (ltb-true at (length s) e))
either s at x y false e f = simp e

turns : (s : List ℕ) (k j at : ℕ) → length s ≤ at + k → length s ≤ at + j → verdicts_from k s at ≡ verdicts_from j s at
unfolding verdicts_from
turns s zero zero at h i = refl
turns s zero (suc j) at h i = simp (le-ltb at (length s) (omega arith))
turns s (suc k) zero at h i = simp (le-ltb at (length s) (omega arith))
turns s (suc k) (suc j) at h i =
    either s at (verdicts_from k s (next s at)) (verdicts_from j s (next s at)) (ltb at (length s)) refl
    (λ l. let o = next-within s at l in turns s k j (next s at) (omega arith) (omega arith))

-- no case is left out: there are no more cases than bytes
pub verdicts-all : (s : List ℕ) (k : ℕ) → length s ≤ k → verdicts_from k s 0 ≡ verdicts s
unfolding verdicts
verdicts-all s k h = turns s k (length s) 0 (omega arith) (omega arith)

-- after k cases, of which `found` differ, the walk stands at a place
pub record Reached (s : List ℕ) (at k found : ℕ) : Type 0 where
  pub within : at ≤ length s
  pub passed : k ≤ at
  pub few : found ≤ k
  pub told : length (verdicts s) ≡ k + length (verdicts_from (length s - k) s at)
  pub differ : differing (verdicts s) ≡ found + differing (verdicts_from (length s - k) s at)

pub reached-start : (s : List ℕ) → Reached s 0 0 0
unfolding verdicts
reached-start s =
    let u : verdicts s ≡ verdicts_from (length s - 0) s 0 = ap (λ (k : ℕ). verdicts_from k s 0) (omega arith) in
    let v = ap length u in
    let w = ap differing u in
    record { within = omega arith; passed = omega arith; few = omega arith; told = omega arith; differ = omega arith }

more : (s : List ℕ) (at k : ℕ) → at < length s → k < length s → verdicts_from (length s - k) s at ≡ agrees_at s at ∷ verdicts_from (length s - (k + 1)) s (next s at)
unfolding verdicts_from
more s at k h g =
    let f : length s - k ≡ suc (length s - (k + 1)) = omega arith in
    ap (λ (j : ℕ). verdicts_from j s at) f ∙ simp (lt-ltb at (length s) h)

-- one case more: t says whether it agrees
pub reached-turn : (s : List ℕ) (at k found : ℕ) (t : Bool) (to found' : ℕ) → Reached s at k found → at < length s → agrees_at s at ≡ t → to ≡ next s at → found' ≡ found + cond t 0 1
    → Reached s to (k + 1) found'
reached-turn s at k found t to found' r h e g f =
    let p = r.passed in
    let o = next-within s at h in
    let u = more s at k h (omega arith) in
    let v : length (verdicts_from (length s - k) s at) ≡ suc (length (verdicts_from (length s - (k + 1)) s (next s at))) = ap length u in
    let w : differing (verdicts_from (length s - k) s at) ≡ cond t 0 1 + differing (verdicts_from (length s - (k + 1)) s (next s at)) = ap differing u ∙ ap (λ (b : Bool). cond b 0 1 + differing (verdicts_from (length s - (k + 1)) s (next s at))) e in
    let x = r.told in
    let y = r.differ in
    let z = one t in
    let q = r.few in
    subst (λ (j : ℕ). Reached s j (k + 1) found') (sym g)
    record { within = o.1; passed = omega arith; few = omega arith; told = omega arith; differ = omega arith }
  where
    one : (t : Bool) → cond t 0 1 ≤ 1
    one true = omega arith
    one false = omega arith

-- all of them
pub reached-end : (s : List ℕ) (at k found : ℕ) → Reached s at k found → length s ≤ at → (k ≡ length (verdicts s)) × (found ≡ differing (verdicts s))
unfolding verdicts_from
reached-end s at k found r h =
    let u = nothing (length s - k) in
    let x = r.told in
    let y = r.differ in
    let v : length (verdicts_from (length s - k) s at) ≡ 0 = ap length u in
    let w : differing (verdicts_from (length s - k) s at) ≡ 0 = ap differing u in
    (omega arith, omega arith)
  where
    nothing : (j : ℕ) → verdicts_from j s at ≡ []
    nothing zero = refl
    nothing (suc j) = simp (le-ltb at (length s) h)
