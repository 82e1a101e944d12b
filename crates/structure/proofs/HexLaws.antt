-- Bytes put as digits in turns. Assumes nothing.
use mathlib.Core.Path.{◌≡◌, refl, sym, ap, ap₂, ◌∙◌, subst}
use mathlib.Core.List.{List, [], ◌∷◌, ◌++◌}
use Prim.Native.Nat.{ℕ, ◌+◌, ◌*◌, ◌/◌, ◌%◌, ◌≤◌, ◌<◌}
use native.Mathlib.Omega.{arith}
use native.Mathlib.Numerals.{add-one}
use lib.ListN.{length, get_or, take, set, length-set}
use lib.Seq.{take-suc, take_all}
use Rattle.big_endian.specs.Buffer.{WroteAt}
use Rattle.big_endian.proofs.BufferLaws.{then_at, set_at, nothing-at, length_at, same_bytes}
use Rattle.structure.specs.Hex.{glyph, hex_of}

hex_of-append : (a b : List ℕ) → hex_of (a ++ b) ≡ hex_of a ++ hex_of b
unfolding hex_of
hex_of-append [] b = refl
hex_of-append (x ∷ a) b = ap (λ (l : List ℕ). glyph (x / 16) ∷ glyph (x % 16) ∷ l) (hex_of-append a b)

-- the digits of the first i bytes stand in the text
abbrev pub Put : List ℕ → List ℕ → List ℕ → ℕ → Type 0
Put bs d text i = WroteAt (hex_of (take i bs)) d text 0 (2 * i)

pub put-start : (bs d : List ℕ) → Put bs d d 0
unfolding hex_of
put-start bs d = nothing-at d 0 (omega arith)

-- one byte more
pub put-turn : (bs d text : List ℕ) (i h l : ℕ) → Put bs d text i → i < length bs → 2 * length bs ≤ length d
    → h ≡ glyph (get_or bs i 0 / 16) → l ≡ glyph (get_or bs i 0 % 16)
    → Put bs d (set (set text (2 * i) h) (2 * i + 1) l) (i + 1)
unfolding hex_of
put-turn bs d text i h l w lt room eh el =
    let n = length_at w in
    let m : 2 * i + 1 + 1 ≤ length (set text (2 * i) h) = rw length-set (omega arith) in
    let two = then_at (set_at text (2 * i) h (omega arith)) (set_at (set text (2 * i) h) (2 * i + 1) l m) in
    let digits : hex_of (take i bs) ++ (h ∷ l ∷ []) ≡ hex_of (take (i + 1) bs)
    = ap₂ (λ (x y : ℕ). hex_of (take i bs) ++ (x ∷ y ∷ [])) eh el ∙ sym (ap hex_of (ap (λ (k : ℕ). take k bs) (add-one i) ∙ take-suc bs i 0 lt) ∙ hex_of-append (take i bs) (get_or bs i 0 ∷ [])) in
    subst (λ (r : ℕ). WroteAt (hex_of (take (i + 1) bs)) d (set (set text (2 * i) h) (2 * i + 1) l) 0 r) (omega arith) (same_bytes digits (then_at w two))

-- all of them
pub put-end : (bs d text : List ℕ) (i : ℕ) → Put bs d text i → i ≡ length bs → WroteAt (hex_of bs) d text 0 (2 * length bs)
put-end bs d text i w e = rw (← e) (same_bytes (ap hex_of (take_all i bs (omega arith))) w)
