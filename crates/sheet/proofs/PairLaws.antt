-- The pairs, as a loop over them sees them. Assumes nothing.
use mathlib.Core.Path.{◌≡◌, refl, sym, ap, ◌∙◌, subst}
use mathlib.Core.Bool.{Bool, true, false, ◌&&◌}
use mathlib.Core.List.{List}
use Prim.Native.Nat.{ℕ, zero, suc, ◌+◌, ◌-◌, ◌*◌, ◌≤◌, ◌<◌}
use native.Mathlib.Omega.{arith}
use lib.Dec.{leb, eqb}
use lib.ListN.{length}
use borrow.Author.Tests.{le-leb, lt-leb, eq-eqb, ne_eqb, eqb-true, leb-true}
use native.Mathlib.Nat.{add-zero, zero-add}
use Rattle.sheet.specs.Blocks.{max_pairs, pair_count, offset_of, length_of, chained, pairs_fit}
use Rattle.sheet.specs.code.Place.{BlockIn}

-- the turn at k of n
pub left-suc : (n k : ℕ) → k < n → n - k ≡ suc (n - (k + 1))
left-suc n k h = omega arith

one_more : (k : ℕ) → suc k ≡ k + 1
one_more k = omega arith

pub pairs_start : (s : List ℕ) (n : ℕ) → n ≡ pair_count s → 4 ≤ length s → 1 ≤ n → n ≤ max_pairs → 4 + 8 * n ≤ length s
    → pairs_fit s ≡ chained (n - 0) 0 (4 + 8 * n) s
unfolding pairs_fit
pairs_start s n e a b c d =
    let z : n - 0 ≡ n = omega arith in
    rw (← e, le-leb 4 (length s) a, le-leb 1 n b, le-leb n max_pairs c, le-leb (4 + 8 * n) (length s) d, z)

-- what the pair at k says
turn : (n k e : ℕ) (s : List ℕ) → k < n
    → chained (n - k) k e s ≡ (eqb (offset_of s k) e && leb 1 (length_of s k) && leb (e + length_of s k) (length s) && chained (n - (k + 1)) (k + 1) (e + length_of s k) s)
unfolding chained
turn n k e s h =
    ap (λ (j : ℕ). chained j k e s) (left-suc n k h)
    ∙ ap (λ (j : ℕ). eqb (offset_of s k) e && leb 1 (length_of s k) && leb (e + length_of s k) (length s) && chained (n - (k + 1)) j (e + length_of s k) s) (one_more k)

pub pair-good : (n k e : ℕ) (s : List ℕ) (m : ℕ) → k < n → offset_of s k ≡ e → m ≡ length_of s k → 1 ≤ m → e + m ≤ length s
    → chained (n - k) k e s ≡ chained (n - (k + 1)) (k + 1) (e + m) s
pair-good n k e s m h a l b c = turn n k e s h ∙ rw (← l, eq-eqb (offset_of s k) e a, le-leb 1 m b, le-leb (e + m) (length s) c)

pub pair-apart : (n k e : ℕ) (s : List ℕ) → k < n → (offset_of s k ≡ e → ⊥) → chained (n - k) k e s ≡ false
pair-apart n k e s h a = turn n k e s h ∙ rw (ne_eqb (offset_of s k) e a)

pub pair-empty : (n k e : ℕ) (s : List ℕ) → k < n → offset_of s k ≡ e → length_of s k < 1 → chained (n - k) k e s ≡ false
pair-empty n k e s h a b = turn n k e s h ∙ rw (eq-eqb (offset_of s k) e a, lt-leb 1 (length_of s k) b)

pub pair-long : (n k e : ℕ) (s : List ℕ) (m : ℕ) → k < n → offset_of s k ≡ e → m ≡ length_of s k → 1 ≤ m → length s < e + m → chained (n - k) k e s ≡ false
pair-long n k e s m h a l b c = turn n k e s h ∙ rw (← l, eq-eqb (offset_of s k) e a, le-leb 1 m b, lt-leb (e + m) (length s) c)

pub pairs_end : (n k e : ℕ) (s : List ℕ) → n ≤ k → chained (n - k) k e s ≡ eqb e (length s)
unfolding chained
pairs_end n k e s h =
    let z : n - k ≡ 0 = omega arith in
    ap (λ (j : ℕ). chained j k e s) z

-- ---- what fitting pairs tell of each block

both : (a b : Bool) → (a && b) ≡ true → (a ≡ true) × (b ≡ true)
both true true e = (refl, refl)
both false b e = let z : ◌≡◌ {A = ℕ} 0 1 = cc in absurd (omega arith)
both true false e = let z : ◌≡◌ {A = ℕ} 0 1 = cc in absurd (omega arith)

abbrev Fits : List ℕ → ℕ → Type 0
Fits s k = offset_of s k + length_of s k ≤ length s

-- what the pair at k says, and that the pairs after it are chained on
record Chains (k e : ℕ) (s : List ℕ) (rest : Bool) : Type 0 where
  starts : offset_of s k ≡ e
  ends : e + length_of s k ≤ length s
  others : rest ≡ true

chains : (k e : ℕ) (s : List ℕ) (rest : Bool) → (eqb (offset_of s k) e && leb 1 (length_of s k) && leb (e + length_of s k) (length s) && rest) ≡ true → Chains k e s rest
chains k e s rest c =
    let f = both (eqb (offset_of s k) e && leb 1 (length_of s k) && leb (e + length_of s k) (length s)) rest c in
    let g = both (eqb (offset_of s k) e && leb 1 (length_of s k)) (leb (e + length_of s k) (length s)) f.0 in
    let h = both (eqb (offset_of s k) e) (leb 1 (length_of s k)) g.0 in
    record { starts = eqb-true (offset_of s k) e h.0; ends = leb-true (e + length_of s k) (length s) g.1; others = f.1 }

chained-in : (n k e : ℕ) (s : List ℕ) (j : ℕ) → chained n k e s ≡ true → j < n → Fits s (k + j)
unfolding chained
chained-in zero k e s j c h = absurd (omega arith)
chained-in (suc n) k e s j c h =
    let f = chains k e s (chained n (suc k) (e + length_of s k) s) c in
    go j h f (λ j l. chained-in n (suc k) (e + length_of s k) s j f.others l)
  where
    go : (j : ℕ) → j < suc n → Chains k e s (chained n (suc k) (e + length_of s k) s) → ((j : ℕ) → j < n → Fits s (suc k + j)) → Fits s (k + j)
    go zero h f again = subst (Fits s) (sym (add-zero k)) (omega arith)
    go (suc j) h f again =
        let i : suc k + j ≡ k + suc j = omega arith in
        subst (Fits s) i (again j (omega arith))

-- every block of a sheet whose pairs fit may be asked for
pub pairs-block : (s : List ℕ) (k : ℕ) → pairs_fit s ≡ true → k < pair_count s → BlockIn s k
unfolding pairs_fit
pairs-block s k e h =
    let f = both (leb 4 (length s) && leb 1 (pair_count s) && leb (pair_count s) max_pairs && leb (4 + 8 * pair_count s) (length s)) (chained (pair_count s) 0 (4 + 8 * pair_count s) s) e in
    let g = both (leb 4 (length s) && leb 1 (pair_count s) && leb (pair_count s) max_pairs) (leb (4 + 8 * pair_count s) (length s)) f.0 in
    let l = leb-true (4 + 8 * pair_count s) (length s) g.1 in
    (omega arith, subst (Fits s) (zero-add k) (chained-in (pair_count s) 0 (4 + 8 * pair_count s) s k f.1 h))
