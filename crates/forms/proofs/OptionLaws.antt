-- The options of an element, after its kind byte: the check of their bytes, and what is left without them. Assumes nothing.
use mathlib.Core.Path.{◌≡◌, refl, sym, ap, ◌∙◌}
use mathlib.Core.Bool.{Bool, true, false, ◌&&◌, cond}
use mathlib.Core.Option.{none, some, none-ne-some}
use mathlib.Core.List.{List, [], ◌∷◌}
use Prim.Native.Nat.{ℕ, ◌+◌, ◌≤◌, ◌<◌}
use native.Mathlib.Omega.{arith}
use lib.Dec.{leb, ltb, eqb}
use lib.ListN.{length, drop, length-drop}
use lib.Seq.{drop-drop}
use mir.Val.{to_z}
use mir.Syntax.{w32}
use borrow.Author.Tests.{leb-true, leb-false, eqb-true}
use Rattle.std.specs.Bool.{then_some}
use Rattle.big_endian.specs.Big.{number_at}
use Rattle.big_endian.proofs.PlaceLaws.{move}
use Rattle.parsing.specs.Parse.{Part, ill, part, IllFormed, ill_formed, pure, follow, when, map, ended, ◌>>=◌}
use Rattle.parsing.proofs.ParseLaws.{no_part}
use Rattle.sheet.specs.Form.{Form, num, counted, optional, long}
use Rattle.sheet.specs.Element.{Property, Body, polygon, path, text, node, reference, box, Element, polygon_kind, path_kind, text_kind, node_kind, reference_kind, box_kind, kind_of, flags_raise, plex_raise, kind_limit, raised, plain_kind, property, shape_form, path_form, text_form, reference_form, box_form, body_form, element_form, element_of}
use Rattle.block_places.specs.declared.Options.{Options}
use Rattle.block_places.specs.code.Places.{option_as, flags_of, plex_of, size_if, shift_of, options_at}
use Rattle.forms.specs.code.Checks.{options_in}
use Rattle.forms.proofs.Step.{on, off, num-at}
use Rattle.forms.proofs.Sized.{Sized, sized-pure, sized-bind, sized-num, needs-bind, needs-front}

-- ---- one option

pub sized-optional : {A : Type 0} (k : ℕ) (t : Bool) (p : Form A) → Sized k p → Sized (size_if t k) (optional t p)
unfolding optional
sized-optional k true p g = sized-bind k 0 k p _ (omega arith) g (λ a. sized-pure _)
sized-optional k false p g = sized-pure none

pub sized-long : Sized 4 long
unfolding long
sized-long = sized-bind 4 0 4 (num 4) _ refl (sized-num 4) (λ a. sized-pure _)

pub long-at : (b : List ℕ) (at to : ℕ) → at + 4 ≡ to → to ≤ length b → long (drop at b) ≡ part (to_z w32 (number_at 4 b at)) (drop to b)
unfolding long
long-at b at to e h = on _ _ (num-at 4 b at to e h) refl

-- of k bytes, which p reads as `value` of their number
pub option-at : {A : Type 0} (t : Bool) (p : Form A) (value : ℕ → A) (k : ℕ) (b : List ℕ) (at : ℕ)
    → (at + k ≤ length b → p (drop at b) ≡ part (value (number_at k b at)) (drop (at + k) b)) → at + size_if t k ≤ length b
    → optional t p (drop at b) ≡ part (option_as value (then_some t (number_at k b at))) (drop (at + size_if t k) b)
unfolding optional
option-at true p value k b at g h = on _ _ (g h) refl
option-at false p value k b at g h = ap (λ (r : List ℕ). part none r) (move b at (at + 0) (omega arith))

-- ---- both

-- after the kind byte k
abbrev after_kind : ℕ → Form Element
after_kind k = do
  f ← optional (raised flags_raise k) (num 2)
  p ← optional (raised plex_raise k) long
  x ← when ill_formed (ltb k kind_limit) (body_form (plain_kind k))
  qs ← counted property
  pure (record { flags = f; plex = p; body = x; properties = qs })

after-kind : (b : List ℕ) → 1 ≤ length b → element_form b ≡ after_kind (number_at 1 b 0) (drop 1 b)
unfolding element_form
after-kind b h = on _ _ (num-at 1 b 0 1 refl h) refl

-- a form that fails, whatever is in front of it
fails-then : {A B : Type 0} (p : Form A) (f : A → Form B) (s : List ℕ) → ((a : A) (t : List ℕ) → f a t ≡ ill ill_formed) → (p >>= f) s ≡ ill ill_formed
fails-then {A} p f s h = go (p s)
  where
    go : (x : Part IllFormed ℕ A) → follow x f ≡ ill ill_formed
    go (ill ill_formed) = refl
    go (part a t) = h a t

-- a kind byte that is raised by more
unknown-kind : (k : ℕ) (s : List ℕ) → ltb k kind_limit ≡ false → after_kind k s ≡ ill ill_formed
unknown-kind k s e =
    fails-then (optional (raised flags_raise k) (num 2)) _ s (λ f t. fails-then (optional (raised plex_raise k) long) _ t (λ p u. unknown (ltb k kind_limit) (body_form (plain_kind k)) _ u e))
  where
    unknown : {A : Type 0} (t : Bool) (p : Form Body) (f : Body → Form A) (s : List ℕ) → t ≡ false → (when ill_formed t p >>= f) s ≡ ill ill_formed
    unknown t p f s e = rw e

-- options that are cut short
cut_short : (k : ℕ) (s : List ℕ) → length s < shift_of k → after_kind k s ≡ ill ill_formed
unfolding shift_of
cut_short k s l =
    needs-bind (size_if (raised flags_raise k) 2) (size_if (raised plex_raise k) 4) (shift_of k) (optional (raised flags_raise k) (num 2)) _ refl (sized-optional 2 (raised flags_raise k) (num 2) (sized-num 2))
    (λ f. needs-front (size_if (raised plex_raise k) 4) (optional (raised plex_raise k) long) _ (sized-optional 4 (raised plex_raise k) long sized-long).short) s l

-- the check failed
pub no-options : (b : List ℕ) → options_in b ≡ false → element_of b ≡ none
unfolding element_of element_form options_in
no-options b e = go (leb 1 (length b)) refl (ltb (number_at 1 b 0) kind_limit) refl (leb (1 + shift_of (number_at 1 b 0)) (length b)) refl e
  where
    go : (x : Bool) → leb 1 (length b) ≡ x → (y : Bool) → ltb (number_at 1 b 0) kind_limit ≡ y → (z : Bool) → leb (1 + shift_of (number_at 1 b 0)) (length b) ≡ z → (x && y && z) ≡ false → element_of b ≡ none
    go false p y q z r e = ap ended (off (num 1 b) _ ((sized-num 1).short b (leb-false 1 (length b) p)))
    go true p false q z r e = ap ended (after-kind b (leb-true 1 (length b) p) ∙ unknown-kind (number_at 1 b 0) (drop 1 b) q)
    go true p true q false r e =
        let l = leb-false (1 + shift_of (number_at 1 b 0)) (length b) r in
        let h = leb-true 1 (length b) p in
        ap ended (after-kind b h ∙ cut_short (number_at 1 b 0) (drop 1 b) (omega (arith, length-drop 1 b)))
    go true p true q true r e = let z : ◌≡◌ {A = ℕ} 0 1 = cc in absurd (omega arith)

-- the check passed: what each part of the block is read as
record Fitting (b : List ℕ) : Type 0 where
  known : ltb (number_at 1 b 0) kind_limit ≡ true
  room : 1 + shift_of (number_at 1 b 0) ≤ length b

fitting : (b : List ℕ) → options_in b ≡ true → Fitting b
unfolding options_in
fitting b e = go (leb 1 (length b)) (ltb (number_at 1 b 0) kind_limit) refl (leb (1 + shift_of (number_at 1 b 0)) (length b)) refl e
  where
    go : (x y : Bool) → ltb (number_at 1 b 0) kind_limit ≡ y → (z : Bool) → leb (1 + shift_of (number_at 1 b 0)) (length b) ≡ z → (x && y && z) ≡ true → Fitting b
    go true true q true r e = record { known = q; room = leb-true _ _ r }
    go true true q false r e = let z : ◌≡◌ {A = ℕ} 0 1 = cc in absurd (omega arith)
    go true false q z r e = let z : ◌≡◌ {A = ℕ} 0 1 = cc in absurd (omega arith)
    go false y q z r e = let z : ◌≡◌ {A = ℕ} 0 1 = cc in absurd (omega arith)

-- body and properties, after options o
abbrev pub behind_options : Options → Form Body → Form Element
behind_options o p = p >>= λ x. counted property >>= λ qs. pure (record { flags = flags_of o; plex = plex_of o; body = x; properties = qs })

known : {A : Type 0} (t : Bool) (p : Form Body) (f : Body → Form A) {s u : List ℕ} → t ≡ true → s ≡ u → (when ill_formed t p >>= f) s ≡ (p >>= f) u
known t p f e g = rw (e, g)

opened-as : (b : List ℕ) → options_in b ≡ true → element_form b ≡ behind_options (options_at b) (body_form (plain_kind (number_at 1 b 0))) (drop 1 (drop (shift_of (number_at 1 b 0)) b))
unfolding options_at shift_of
opened-as b e =
    let k = number_at 1 b 0 in
    let w = fitting b e in
    let l = w.room in
    let f = size_if (raised flags_raise k) 2 in
    let p = size_if (raised plex_raise k) 4 in
    after-kind b (omega arith)
    ∙ on _ _ (option-at (raised flags_raise k) (num 2) (λ v. v) 2 b 1 (λ h. num-at 2 b 1 3 refl h) (omega arith))
    (on _ _ (option-at (raised plex_raise k) long (to_z w32) 4 b (1 + f) (λ h. long-at b (1 + f) (1 + f + 4) refl h) (omega arith))
    (known (ltb k kind_limit) (body_form (plain_kind k)) _ w.known (move b (1 + f + p) (f + p + 1) (omega arith) ∙ sym (drop-drop 1 (f + p) b))))

-- what was opened: the options, the block that is left, and its kind
pub record Opened (b : List ℕ) (o : Options) (r : List ℕ) (k : ℕ) : Type 0 where
  pub fits : options_in b ≡ true
  pub options : o ≡ options_at b
  pub rest : r ≡ drop o.shift b
  pub kind : k ≡ plain_kind (number_at 1 b 0)

module _ {b : List ℕ} {o : Options} {r : List ℕ} {k : ℕ} (w : Opened b o r k) where
  pub opened : element_form b ≡ behind_options o (body_form k) (drop 1 r)
  unfolding options_at
  opened = rw (w.kind, w.rest, w.options) (opened-as b w.fits)

  pub shift-within : o.shift ≤ length b
  unfolding options_at
  shift-within = let l = (fitting b w.fits).room in rw w.options (omega arith)

-- for the code: there is a kind byte, and what it is raised for
pub options-within : (b : List ℕ) → options_in b ≡ true → 1 + shift_of (number_at 1 b 0) ≤ length b
options-within b e = (fitting b e).room

-- ---- an element's kind is that of its kind byte

-- the body of each kind
body-kind : (k : ℕ) (s : List ℕ) (x : Body) (t : List ℕ) → body_form k s ≡ part x t → kind_of x ≡ k
unfolding body_form
body-kind k s =
    by polygon_kind (map polygon shape_form) _ (made polygon polygon_kind (λ e. refl) shape_form)
    (by path_kind (map path path_form) _ (made path path_kind (λ e. refl) path_form)
    (by text_kind (map text text_form) _ (made text text_kind (λ e. refl) text_form)
    (by node_kind (map node shape_form) _ (made node node_kind (λ e. refl) shape_form)
    (by reference_kind (map reference reference_form) _ (made reference reference_kind (λ e. refl) reference_form)
    (by box_kind (map box box_form) _ (made box box_kind (λ e. refl) box_form)
    (λ x t e. no_part e))))))
  where
    by : (n : ℕ) (p q : Form Body) → ((x : Body) (t : List ℕ) → p s ≡ part x t → kind_of x ≡ n) → ((x : Body) (t : List ℕ) → q s ≡ part x t → kind_of x ≡ k)
        → (x : Body) (t : List ℕ) → cond (eqb k n) p q s ≡ part x t → kind_of x ≡ k
    by n p q g h x t e = go (eqb k n) refl e
      where
        go : (c : Bool) → eqb k n ≡ c → cond c p q s ≡ part x t → kind_of x ≡ k
        go true f e = g x t e ∙ sym (eqb-true k n f)
        go false f e = h x t e

    made : {A : Type 0} (make : A → Body) (n : ℕ) → ((a : A) → kind_of (make a) ≡ n) → (p : Form A) (x : Body) (t : List ℕ) → map make p s ≡ part x t → kind_of x ≡ n
    made {A} make n h p x t e = go (p s) e
      where
        go : (z : Part IllFormed ℕ A) → follow z (λ a. pure (make a)) ≡ part x t → kind_of x ≡ n
        go (ill c) e = no_part e
        go (part a u) e = let f : make a ≡ x = cc in ap kind_of (sym f) ∙ h a

-- of a block that holds an element
module _ (b : List ℕ) (e : Element) (h : element_of b ≡ some e) where
  fits : options_in b ≡ true
  fits = go (options_in b) refl
    where
      go : (t : Bool) → options_in b ≡ t → t ≡ true
      go true f = refl
      go false f = absurd (none-ne-some e (sym (no-options b f) ∙ h))

  pub kind-within : 1 ≤ length b
  kind-within = let l = options-within b fits in omega arith

  abbrev made : Body → List Property → Element
  made x qs = record { flags = flags_of (options_at b); plex = plex_of (options_at b); body = x; properties = qs }

  body-read : (x : Body) (z : Part IllFormed ℕ (List Property)) → ended (follow z (λ qs. pure (made x qs))) ≡ some e → e.body ≡ x
  body-read x (ill c) d = absurd (none-ne-some e d)
  body-read x (part qs []) d = let f : made x qs ≡ e = cc in ap (λ (y : Element). y.body) (sym f)
  body-read x (part qs (c ∷ t)) d = absurd (none-ne-some e d)

  pub kind-read : kind_of e.body ≡ plain_kind (number_at 1 b 0)
  unfolding element_of
  kind-read = go (body_form (plain_kind (number_at 1 b 0)) (drop 1 (drop (shift_of (number_at 1 b 0)) b))) refl (ap ended (sym (opened-as b fits)) ∙ h)
    where
      go : (z : Part IllFormed ℕ Body) → body_form (plain_kind (number_at 1 b 0)) (drop 1 (drop (shift_of (number_at 1 b 0)) b)) ≡ z
          → ended (follow z (λ x. counted property >>= λ qs. pure (made x qs))) ≡ some e → kind_of e.body ≡ plain_kind (number_at 1 b 0)
      go (ill c) g d = absurd (none-ne-some e d)
      go (part x t) g d = ap kind_of (body-read x (counted property t) d) ∙ body-kind (plain_kind (number_at 1 b 0)) (drop 1 (drop (shift_of (number_at 1 b 0)) b)) x t g
