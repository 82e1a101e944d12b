-- A file draws a sheet's library exactly where it passes `draws_library` of specs/Told. Assumes nothing.
use mathlib.Core.Path.{◌≡◌, refl, sym, ap, ◌∙◌, subst}
use mathlib.Core.Bool.{Bool, true, false, ◌&&◌, ◌||◌, cond}
use mathlib.Core.Option.{Option, none, some}
use mathlib.Core.List.{List, [], ◌∷◌, ◌++◌, append-nil}
use Prim.Native.Nat.{ℕ, zero, suc, ◌-◌, ◌≤◌, ◌<◌}
use native.Mathlib.Decide.{dec_le}
use native.Mathlib.Omega.{arith}
use borrow.Author.Tests.{eq-eqb, eqb-true}
use lib.Dec.{T, eqb}
use lib.ListN.{length, take, drop, length-append, take-append-drop}
use lib.Seq.{take-append_seam, drop-append_seam}
use lib.Ieee.{Float}
use lib.Ieee.Bits.{is_true as on}
use lib.Ieee.Fits.{and_i, and_l, and_r}
use Rattle.sheet.specs.Blocks.{block_of}
use Rattle.sheet.specs.Library.{LibraryHead, library_head_of, cell_sheets}
use Rattle.stream.specs.Library.{FileHead, file_head_bytes, file_end_bytes}
use Rattle.cell.specs.Draws.{Each, done, more, Draws}
use Rattle.library.specs.Library.{file_head_of}
use Rattle.library.specs.Draws.{concat, DrawsLibrary}
use Rattle.cases.specs.Case.{same_bytes}
use Rattle.cases.proofs.Open.{opened}
use Rattle.guards.specs.Told.{all_bytes, draws}
use Rattle.guards.proofs.ToldLaws as Alike
use Rattle.guards.proofs.AlikeLaws as Same
use Rattle.guards.proofs.DecidedLaws.{all-bytes, bytes-all, passes, suffices}
use Rattle.library_guards.specs.Told.{some_below, after, before_end, Test, in_parts, tests, within, behind, in_file, with_head, draws_library}

-- ---- tests

or_l : (a b : Bool) → T a → T (a || b)
or_l true b h = tt
or_l false b h = absurd h

or_r : (a b : Bool) → T b → T (a || b)
or_r true b h = tt
or_r false b h = h

module _ (t : ℕ → Bool) where
  below : (n k : ℕ) → k < n → T (t k) → T (some_below n t)
  below zero k l h = absurd (none_below l)
    where
      none_below : k < 0 → ⊥
      none_below i = omega arith
  below (suc n) k l h = elim (dec_le n k) [
    | yes i ↦ or_r (some_below n t) (t n) (subst (λ (m : ℕ). T (t m)) (last i) h)
    | no i ↦ or_l (some_below n t) (t n) (below n k (omega arith) h)
  ]
    where
      last : n ≤ k → k ≡ n
      last i = omega arith

  found : {R : Type 0} (n : ℕ) → ((k : ℕ) → T (t k) → R) → T (some_below n t) → R
  found zero f h = absurd h
  found {R} (suc n) f h = by (some_below n t) (λ i. found n f i) h
    where
      by : (a : Bool) → (T a → R) → T (a || t n) → R
      by true g i = g tt
      by false g i = f n i

after-own : (s t : List ℕ) → after s (s ++ t) ≡ some t
after-own [] t = refl
after-own (a ∷ s) t = rw (eq-eqb a a refl) (after-own s t)

after_is : (s t u : List ℕ) → after s t ≡ some u → t ≡ s ++ u
after_is [] t u e = cc
after_is (a ∷ s) [] u e = let z : ◌≡◌ {A = ℕ} 0 1 = cc in absurd (omega arith)
after_is (a ∷ s) (b ∷ t) u e = go (after_is s t u) (eqb a b) refl e
  where
    go : (after s t ≡ some u → t ≡ s ++ u) → (c : Bool) → eqb a b ≡ c → cond c (after s t) none ≡ some u → b ∷ t ≡ a ∷ (s ++ u)
    go f true h i = let y = eqb-true a b h in let z = f i in cc
    go f false h i = let z : ◌≡◌ {A = ℕ} 0 1 = cc in absurd (omega arith)

end-length : length file_end_bytes ≡ 4
unfolding opened
end-length = refl

before-own : (s : List ℕ) → before_end (s ++ file_end_bytes) ≡ some s
before-own s = go (length (s ++ file_end_bytes) - 4) (omega (arith, length-append s file_end_bytes, end-length))
  where
    go : (n : ℕ) → n ≡ length s → cond (same_bytes (drop n (s ++ file_end_bytes)) file_end_bytes) (some (take n (s ++ file_end_bytes))) none ≡ some s
    go n e = rw (e, drop-append_seam s file_end_bytes, take-append_seam s file_end_bytes, on (same_bytes file_end_bytes file_end_bytes) (Alike.bytes {s = file_end_bytes} refl))

before-is : (t s : List ℕ) → before_end t ≡ some s → t ≡ s ++ file_end_bytes
before-is t s e = go (same_bytes (drop n t) file_end_bytes) (λ h. Same.bytes (drop n t) file_end_bytes h) e
  where
    n : ℕ
    n = length t - 4

    go : (c : Bool) → (T c → drop n t ≡ file_end_bytes) → cond c (some (take n t)) none ≡ some s → t ≡ s ++ file_end_bytes
    go true f i = let y = f tt in let z = take-append-drop n t in cc
    go false f i = let z : ◌≡◌ {A = ℕ} 0 1 = cc in absurd (omega arith)

-- ---- the structures

front : (t u : Test) (ts : List Test) (b r : List ℕ) → T (t b) → T (in_parts (u ∷ ts) r) → T (in_parts (t ∷ u ∷ ts) (b ++ r))
front t u ts b r h g =
    below (λ k. in_parts (u ∷ ts) (drop k (b ++ r)) && t (take k (b ++ r))) (suc (length (b ++ r))) (length b) (omega (arith, length-append b r))
    (and_i (in_parts (u ∷ ts) (drop (length b) (b ++ r))) (t (take (length b) (b ++ r))) (rw drop-append_seam g) (rw take-append_seam h))

module _ (n : ℕ) (d : Float) where
  parts-told : {ss ps : List (List ℕ)} → Each (Draws n d) ss ps → T (in_parts (tests n d ss) (concat ps))
  parts-told done = tt
  parts-told (more {a = s} {b} h done) = rw append-nil (passes n d s b h)
  parts-told (more {a = s} {b} {s = ss} h (more {a = u} {b = c} {s = us} {t = ps} g gs)) =
      front (draws n d s) (draws n d u) (tests n d us) b (c ++ concat ps) (passes n d s b h) (parts-told (more {a = u} {b = c} {s = us} {t = ps} g gs))

  record Parts (ss : List (List ℕ)) (b : List ℕ) : Type 0 where
    parts : List (List ℕ)
    whole : b ≡ concat parts
    each : Each (Draws n d) ss parts

  told-parts : (ss : List (List ℕ)) (b : List ℕ) → T (in_parts (tests n d ss) b) → Parts ss b
  told-parts [] [] h = record { parts = []; whole = refl; each = done }
  told-parts [] (c ∷ b) h = absurd h
  told-parts (s ∷ []) b h = record { parts = b ∷ []; whole = sym (append-nil b); each = more (suffices n d s b h) done }
  told-parts (s ∷ u ∷ ss) b h =
      found (λ k. in_parts (tests n d (u ∷ ss)) (drop k b) && draws n d s (take k b)) (suc (length b))
      (λ k i. at k (and_r (in_parts (tests n d (u ∷ ss)) (drop k b)) (draws n d s (take k b)) i) (told-parts (u ∷ ss) (drop k b) (and_l (in_parts (tests n d (u ∷ ss)) (drop k b)) (draws n d s (take k b)) i))) h
    where
      at : (k : ℕ) → T (draws n d s (take k b)) → Parts (u ∷ ss) (drop k b) → Parts (s ∷ u ∷ ss) b
      at k i p = record {
        parts = take k b ∷ p.parts;
        whole = sym (take-append-drop k b) ∙ ap (λ (r : List ℕ). take k b ++ r) p.whole;
        each = more (suffices n d s (take k b) i) p.each;
      }

  -- ---- the whole

  module _ (sheet file : List ℕ) where
    abbrev ts : List Test
    ts = tests n d (cell_sheets sheet)

    pub library-passes : DrawsLibrary n d sheet file → T (draws_library n d sheet file)
    library-passes h =
        and_i (all_bytes file) (with_head d ts file (library_head_of (block_of sheet 0))) (bytes-all file h.bytewise)
        (rw (h.held, h.encoded) (subst (λ (b : List ℕ). T (behind ts (after (file_head_bytes h.front) b))) (sym h.whole)
        (rw (after-own (file_head_bytes h.front) (concat h.parts ++ file_end_bytes), before-own (concat h.parts)) (parts-told h.each))))

    pub library-suffices : T (draws_library n d sheet file) → DrawsLibrary n d sheet file
    library-suffices t = by-head (library_head_of (block_of sheet 0)) refl (and_r (all_bytes file) (with_head d ts file (library_head_of (block_of sheet 0))) t)
      where
        by-middle : (h : LibraryHead) → library_head_of (block_of sheet 0) ≡ some h → (f : FileHead) → file_head_of d h ≡ some f
            → (b : List ℕ) → after (file_head_bytes f) file ≡ some b → (m : Option (List ℕ)) → before_end b ≡ m → T (within ts m) → DrawsLibrary n d sheet file
        by-middle h e f u b a none g i = absurd i
        by-middle h e f u b a (some m) g i =
            let p = told-parts (cell_sheets sheet) m i in
            record {
              head = h;
              held = e;
              front = f;
              encoded = u;
              parts = p.parts;
              whole = after_is (file_head_bytes f) file b a ∙ ap (λ (r : List ℕ). file_head_bytes f ++ r) (before-is b m g ∙ ap (λ (r : List ℕ). r ++ file_end_bytes) p.whole);
              bytewise = all-bytes file (and_l (all_bytes file) (with_head d ts file (library_head_of (block_of sheet 0))) t);
              each = p.each;
            }

        by-rest : (h : LibraryHead) → library_head_of (block_of sheet 0) ≡ some h → (f : FileHead) → file_head_of d h ≡ some f
            → (b : Option (List ℕ)) → after (file_head_bytes f) file ≡ b → T (behind ts b) → DrawsLibrary n d sheet file
        by-rest h e f u none a i = absurd i
        by-rest h e f u (some b) a i = by-middle h e f u b a (before_end b) refl i

        by_front : (h : LibraryHead) → library_head_of (block_of sheet 0) ≡ some h → (f : Option FileHead) → file_head_of d h ≡ f → T (in_file ts file f) → DrawsLibrary n d sheet file
        by_front h e none u i = absurd i
        by_front h e (some f) u i = by-rest h e f u (after (file_head_bytes f) file) refl i

        by-head : (x : Option LibraryHead) → library_head_of (block_of sheet 0) ≡ x → T (with_head d ts file x) → DrawsLibrary n d sheet file
        by-head none e i = absurd i
        by-head (some h) e i = by_front h e (file_head_of d h) refl i
