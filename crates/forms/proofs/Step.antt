-- The steps of a form at a place of a block: what each gives, and where it ends. Assumes nothing.
use mathlib.Core.Path.{◌≡◌, refl, ap, ◌∙◌, subst}
use mathlib.Core.Bool.{Bool, true, false, cond}
use mathlib.Core.Option.{none, some}
use mathlib.Core.List.{List, [], ◌∷◌}
use Prim.Native.Nat.{ℕ, ◌+◌, ◌≤◌, ◌<◌}
use native.Mathlib.Omega.{arith}
use lib.Dec.{leb, eqb}
use lib.ListN.{length, take, drop, length-drop, drop_of_length-le}
use lib.Seq.{drop-drop}
use borrow.Author.Tests.{le-leb, lt-leb}
use Rattle.big_endian.specs.Big.{number, number_at}
use Rattle.big_endian.proofs.PlaceLaws.{move}
use Rattle.parsing.specs.Parse.{Part, ill, part, Parse, IllFormed, ill_formed, pure, follow, when, ended}
use Rattle.parsing.proofs.ParseLaws.{items-is}
use Rattle.sheet.specs.Form.{bytes, num, code, flag, double, string}
use Rattle.block_places.specs.code.Place.{double_at, string_at, string_end}
use Rattle.forms.specs.code.Checks.{Checked}

-- ---- a step that goes on, a step that does not

pub on : {F E A B : Type 0} (x : Part F E A) (f : A → Parse F E B) {a : A} {r : List E} {z : Part F E B} → x ≡ part a r → f a r ≡ z → follow x f ≡ z
on x f e g = ap (λ (y : Part _ _ _). follow y f) e ∙ g

pub off : {F E A B : Type 0} (x : Part F E A) (f : A → Parse F E B) {c : F} → x ≡ ill c → follow x f ≡ ill c
off x f e = ap (λ (y : Part _ _ _). follow y f) e

-- the same place in other words
pub moved : {A : Type 0} {x : Part IllFormed ℕ A} {a : A} (b : List ℕ) (i j : ℕ) → i ≡ j → x ≡ part a (drop i b) → x ≡ part a (drop j b)
moved {A} {x} {a} b i j f e = subst (λ (k : ℕ). x ≡ part a (drop k b)) f e

-- ---- bytes and numbers

pub items_at : (k : ℕ) (b : List ℕ) (at to : ℕ) → at + k ≡ to → to ≤ length b → bytes k (drop at b) ≡ part (take k (drop at b)) (drop to b)
items_at k b at to e h =
    let l : k ≤ length (drop at b) = simp length-drop (omega arith) in
    items-is ill_formed k (drop at b)
    ∙ ap (λ (c : Bool). cond c (part (take k (drop at b)) (drop k (drop at b))) (ill ill_formed)) (le-leb k (length (drop at b)) l)
    ∙ ap (λ (r : List ℕ). part (take k (drop at b)) r) (drop-drop k at b ∙ move b (at + k) to e)

pub items-short : (k : ℕ) (s : List ℕ) → length s < k → bytes k s ≡ ill ill_formed
items-short k s h = items-is ill_formed k s ∙ ap (λ (c : Bool). cond c (part (take k s) (drop k s)) (ill ill_formed)) (lt-leb k (length s) h)

pub num-at : (k : ℕ) (b : List ℕ) (at to : ℕ) → at + k ≡ to → to ≤ length b → num k (drop at b) ≡ part (number_at k b at) (drop to b)
unfolding num number_at
num-at k b at to e h = ap (λ (y : Part IllFormed ℕ (List ℕ)). follow y (λ a. pure (number a))) (items_at k b at to e h)

-- layer and type, after the kind byte
pub layer-at : (b : List ℕ) → 5 ≤ length b → num 2 (drop 1 b) ≡ part (number_at 2 b 1) (drop 3 b)
layer-at b h = num-at 2 b 1 3 refl (omega arith)

pub type-at : (b : List ℕ) → 5 ≤ length b → num 2 (drop 3 b) ≡ part (number_at 2 b 3) (drop 5 b)
type-at b h = num-at 2 b 3 5 refl h

pub double-at : (b : List ℕ) (at to : ℕ) → at + 8 ≡ to → to ≤ length b → double (drop at b) ≡ part (double_at b at) (drop to b)
unfolding double
double-at b at to e h = on _ _ (num-at 8 b at to e h) refl

-- ---- strings

pub string-at : (b : List ℕ) (at to : ℕ) → string_end b at ≡ to → to ≤ length b → string (drop at b) ≡ part (string_at b at) (drop to b)
unfolding string string_at
string-at b at to e h = on _ _ (num-at 2 b at (at + 2) refl (omega arith)) (items_at (number_at 2 b at) b (at + 2) to e h)

pub string-long : (b : List ℕ) (at : ℕ) → at + 2 ≤ length b → length b < string_end b at → string (drop at b) ≡ ill ill_formed
unfolding string
string-long b at h l =
    on _ _ (num-at 2 b at (at + 2) refl h) (items-short (number_at 2 b at) (drop (at + 2) b) (simp length-drop (omega arith)))

-- ---- a check of one byte

-- what stands after a test
pub when-is : {A : Type 0} (t : Bool) (a : A) (s : List ℕ) → when ill_formed t (pure a) s ≡ cond t (part a s) (ill ill_formed)
when-is true a s = refl
when-is false a s = refl

-- a byte that is at most n
pub code_at : (n : ℕ) (b : List ℕ) (at : ℕ) → at + 1 ≤ length b → Checked (code n) b at (number_at 1 b at) (at + 1) (leb (number_at 1 b at) n)
unfolding code
code_at n b at h = record { is = on _ _ (num-at 1 b at (at + 1) refl h) (when-is (leb (number_at 1 b at) n) (number_at 1 b at) (drop (at + 1) b)) }

-- a byte that is 0 or 1, from its check as a code
pub flag_at : (b : List ℕ) (at to : ℕ) → at + 1 ≡ to → code 1 (drop at b) ≡ part (number_at 1 b at) (drop (at + 1) b) → flag (drop at b) ≡ part (eqb (number_at 1 b at) 1) (drop to b)
unfolding flag
flag_at b at to e c = on _ _ (moved b (at + 1) to e c) refl

pub flag-ill : (b : List ℕ) (at : ℕ) → code 1 (drop at b) ≡ ill ill_formed → flag (drop at b) ≡ ill ill_formed
unfolding flag
flag-ill b at c = off _ _ c

-- ---- the end of a block

module _ {A : Type 0} (b : List ℕ) (x : Part IllFormed ℕ A) {a : A} (to : ℕ) (e : x ≡ part a (drop to b)) where
  pub ends : to ≡ length b → ended x ≡ some a
  ends l = ap ended e ∙ ap (λ (r : List ℕ). ended {F = IllFormed} (part a r)) (drop_of_length-le b {i = to} (omega arith))

  pub ends-not : to < length b → ended x ≡ none
  ends-not l = ap ended e ∙ go (drop to b) (simp length-drop (omega arith))
    where
      go : (r : List ℕ) → 0 < length r → ended {F = IllFormed} (part a r) ≡ none
      go [] h = absurd (omega arith)
      go (c ∷ r) h = refl
