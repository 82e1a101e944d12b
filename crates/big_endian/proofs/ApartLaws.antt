-- Two runs at places apart: which is written first does not matter. For a writer that goes on at two places of one buffer. Assumes nothing.
use mathlib.Core.Path.{◌≡◌, refl, sym, ap, ap₂, ◌∙◌}
use mathlib.Core.List.{List, ◌++◌, append_assoc}
use Prim.Native.Nat.{ℕ, ◌+◌, ◌-◌, ◌≤◌}
use native.Mathlib.Nat.{add_assoc}
use native.Mathlib.Omega.{arith}
use lib.ListN.{length, take, drop, length-drop, take-append-drop}
use lib.Seq.{take_at, drop_at, drop-drop, length-take-le, take-append-add, drop-append-add}
use Rattle.big_endian.specs.Buffer.{splice}

-- a run past a front leaves it as it is
splice-past : (f g y : List ℕ) (at n : ℕ) → at ≡ length f + n → splice at y (f ++ g) ≡ f ++ splice n y g
unfolding splice
splice-past f g y at n e =
    ap (λ (k : ℕ). take k (f ++ g) ++ (y ++ drop (k + length y) (f ++ g))) e
    ∙ ap₂ (λ (a b : List ℕ). a ++ (y ++ b)) (take-append-add f g n) (ap (λ (k : ℕ). drop k (f ++ g)) (add_assoc (length f) n (length y)) ∙ drop-append-add f g (n + length y))
    ∙ append_assoc f (take n g) (y ++ drop (n + length y) g)

-- past two of them
splice-past-two : (p z g y : List ℕ) (at n : ℕ) → at ≡ length p + (length z + n) → splice at y (p ++ (z ++ g)) ≡ p ++ (z ++ splice n y g)
splice-past-two p z g y at n e = splice-past p (z ++ g) y at (length z + n) e ∙ ap (λ (t : List ℕ). p ++ t) (splice-past z g y (length z + n) n refl)

-- a run over one of its own length
splice-over : (p q u x : List ℕ) (at : ℕ) → length p ≡ at → length q ≡ length x → splice at x (p ++ (q ++ u)) ≡ p ++ (x ++ u)
unfolding splice
splice-over p q u x at e f =
    ap₂ (λ (a b : List ℕ). a ++ (x ++ b)) (take_at p (q ++ u) at e)
    (sym (drop-drop (length x) at (p ++ (q ++ u))) ∙ ap (drop (length x)) (drop_at p (q ++ u) at e) ∙ drop_at q u (length x) f)

pub splice-apart : (a b : ℕ) (x y d : List ℕ) → a + length x ≤ b → b ≤ length d → splice a x (splice b y d) ≡ splice b y (splice a x d)
splice-apart a b x y d h k =
    ap (λ (z : List ℕ). splice a x (splice b y z)) whole
    ∙ ap (splice a x) (splice-past-two p q g y b n (behind (length p) (length q) lp lq)) ∙ splice-over p q (splice n y g) x a lp lq
    ∙ sym (ap (λ (z : List ℕ). splice b y (splice a x z)) whole ∙ ap (splice b y) (splice-over p q g x a lp lq) ∙ splice-past-two p x g y b n (behind (length p) (length x) lp refl))
  where
    p : List ℕ
    p = take a d

    q : List ℕ
    q = take (length x) (drop a d)

    g : List ℕ
    g = drop (length x) (drop a d)

    n : ℕ
    n = b - (a + length x)

    whole : d ≡ p ++ (q ++ g)
    whole = sym (ap (λ (z : List ℕ). p ++ z) (take-append-drop (length x) (drop a d)) ∙ take-append-drop a d)

    lp : length p ≡ a
    lp = length-take-le a d (omega arith)

    lq : length q ≡ length x
    lq = length-take-le (length x) (drop a d) (omega (arith, length-drop a d))

    behind : (i j : ℕ) → i ≡ a → j ≡ length x → b ≡ i + (j + n)
    behind i j e f = omega arith
