-- What the sign of a deviation says, and that the report is the Rust's but for it: the statements of specs/Side. Assumes nothing.
use mathlib.Core.Path.{◌≡◌, refl, sym, ap, ◌∙◌, subst}
use mathlib.Core.Logic.{inl, inr}
use mathlib.Core.Bool.{Bool, true, false, not, ◌&&◌, cond}
use mathlib.Core.List.{List, [], ◌∷◌, ◌++◌, map}
use Prim.Native.Nat.{ℕ, ◌*◌, ◌<◌}
use native.Mathlib.Omega.{arith}
use lib.Dec.{T, ltb→lt}
use lib.IntN.{ℤ, pos, ◌*ℤ◌}
use lib.Signed.{clash_ℤ}
use lib.Ieee.{Float, nan, inf, fin, binary64, fits, up, down, mul, div, lt, of_int}
use lib.Ieee.Scale.{finite}
use Rattle.binary64.specs.Value.{scaled, abs, zero64}
use Rattle.binary64.specs.Step.{one_step}
use Rattle.binary64.proofs.Compare.{less→le}
use Rattle.binary64.proofs.AbsLaws.{abs-sub}
use Rattle.binary64.proofs.Side.{Side, times-side}
use Rattle.conversion.specs.declared.Deviation.{Deviation}
use Rattle.conversion.specs.declared.Entry.{Entry}
use Rattle.conversion.specs.Convert.{Spot, in_range, difference, counts, deviations}
use Rattle.conversion.specs.Entry.{first_entry, takes, takes_all, entry_of, greatest_from}
use Rattle.conversion.specs.Side.{Above, Below, TellsSide, CountedTellsSide, EntryTellsSide, error_of, rust_deviations, rust_takes, rust_takes_all, rust_entry_of, rust_greatest, SameMagnitude, unsigned, unsigned_entry, SignAside}
use Rattle.conversion.proofs.DeviationLaws.{counts-above}
use Rattle.conversion.proofs.FoldLaws.{larger, smaller}
use Rattle.conversion.proofs.WholeLaws.{small}

-- ---- the side

-- a double is not on both sides of 0, nor a whole number on both of another
two-sides : (e : Float) → T (lt zero64 e) → T (lt e zero64) → ⊥
unfolding lt
two-sides nan h k = h
two-sides (inf true) h k = h
two-sides (inf false) h k = k
two-sides (fin true m e) h k = h
two-sides (fin false m e) h k = clash _ _ (ltb→lt (0 * up (pos 0) * down e) (m * up e * down (pos 0)) h) (ltb→lt (m * up e * down (pos 0)) (0 * up (pos 0) * down e) k)
  where
    clash : (a b : ℕ) → a < b → b < a → ⊥
    clash a b h k = omega arith

tells : (d p : Float) (q : ℤ) (e : Float) → Side e (Above d p q) (Below d p q) → TellsSide d p q e
tells d p q e (inl h) = record {
  above = λ z. h.1;
  is-above = λ z. h.0;
  below = λ z. absurd (two-sides e h.0 z);
  is_below = λ z. clash_ℤ h.1 (less→le (q *ℤ scaled d) (scaled p) z);
}
tells d p q e (inr h) = record {
  above = λ z. absurd (two-sides e z h.0);
  is-above = λ z. clash_ℤ h.1 (less→le (scaled p) (q *ℤ scaled d) z);
  below = λ z. h.1;
  is_below = λ z. h.0;
}

pub counted-tells-side : CountedTellsSide
unfolding difference
counted-tells-side d p q D f P g r c = tells d p q (difference d p q) (times-side q (small q r) d p D f P g (counts-above d p q c))

-- ---- deviations and entries

-- e is the deviation of p and q, and counts
pub record Told (d p : Float) (q : ℤ) (e : Float) : Type 0 where
  pub error : e ≡ difference d p q
  pub fitting : T (fits binary64 p)
  pub physical : T (finite p)
  pub ranged : T (in_range q)
  pub counted : T (counts d p q)

abbrev pub AllTold : Float → List Deviation → Type 0
AllTold d [] = T true
AllTold d (v ∷ vs) = Told d v.physical v.database v.error × AllTold d vs

pub told-append : (d : Float) (a b : List Deviation) → AllTold d a → AllTold d b → AllTold d (a ++ b)
told-append d [] b h k = k
told-append d (v ∷ a) b h k = (h.0, told-append d a b h.1 k)

pub deviations-told : (d : Float) (at : Spot) (p : Float) (q : ℤ) → T (fits binary64 p) → T (finite p) → T (in_range q) → AllTold d (deviations d at p q)
unfolding deviations
deviations-told d at p q P f r = go (counts d p q) refl
  where
    go : (t : Bool) → counts d p q ≡ t → AllTold d (cond t (record { field = at.field; axis = at.axis; place = at.place; physical = p; database = q; error = difference d p q } ∷ []) [])
    go true h = (record { error = refl; fitting = P; physical = f; ranged = r; counted = subst T (sym h) tt }, tt)
    go false h = tt

takes_told : (d : Float) (e : Entry) (v : Deviation) → Told d e.physical e.database e.error → Told d v.physical v.database v.error
    → Told d (takes e v).physical (takes e v).database (takes e v).error
takes_told d e v h k = go (lt (abs e.error) (abs v.error)) refl
  where
    go : (t : Bool) → lt (abs e.error) (abs v.error) ≡ t → Told d (takes e v).physical (takes e v).database (takes e v).error
    go true l = subst (λ (x : Entry). Told d x.physical x.database x.error) (larger e v v.database refl l) k
    go false l = subst (λ (x : Entry). Told d x.physical x.database x.error) (smaller e v l) h

taken-told : (d : Float) (e : Entry) (vs : List Deviation) → Told d e.physical e.database e.error → AllTold d vs → Told d (takes_all e vs).physical (takes_all e vs).database (takes_all e vs).error
taken-told d e [] h k = h
taken-told d e (v ∷ vs) h k = taken-told d (takes e v) vs (takes_told d e v h k.0) k.1

-- so an entry of deviations tells the side
pub entry-tells : (d : Float) → T (fits binary64 d) → T (finite d) → (i kind : ℕ) (v : Deviation) (vs : List Deviation) → AllTold d (v ∷ vs) → EntryTellsSide d (takes_all (first_entry i kind v) vs)
unfolding first_entry
entry-tells d D f i kind v vs h = its (takes_all (first_entry i kind v) vs) (taken-told d (first_entry i kind v) vs h.0 h.1)
  where
    its : (e : Entry) → Told d e.physical e.database e.error → EntryTellsSide d e
    its e k = record {
      physical = k.physical;
      database = k.ranged;
      error = k.error;
      counted = k.counted;
      side = subst (TellsSide d e.physical e.database) (sym k.error) (counted-tells-side d e.physical e.database D f k.fitting k.physical k.ranged k.counted);
    }

-- ---- the Rust's report but for the sign

pub same-magnitude : SameMagnitude
unfolding difference error_of
same-magnitude d p q = abs-sub binary64 (mul binary64 (of_int binary64 q) d) p

deviation-unsigned : (d : Float) (at : Spot) (p : Float) (q : ℤ) → map unsigned (deviations d at p q) ≡ rust_deviations d at p q
unfolding deviations rust_deviations counts
deviation-unsigned d at p q = go (lt zero64 (abs (difference d p q)) && far) ∙ ap (λ (x : Float). cond (lt zero64 x && far) (one x) []) (same-magnitude d p q)
  where
    far : Bool
    far = not (one_step (div binary64 p d) (of_int binary64 q))

    one : Float → List Deviation
    one x = record { field = at.field; axis = at.axis; place = at.place; physical = p; database = q; error = x } ∷ []

    go : (t : Bool) → map unsigned (cond t (one (difference d p q)) []) ≡ cond t (one (abs (difference d p q))) []
    go true = refl
    go false = refl

takes-unsigned : (e : Entry) (v : Deviation) → unsigned_entry (takes e v) ≡ rust_takes (unsigned_entry e) (unsigned v)
unfolding rust_takes
takes-unsigned e v = go (lt (abs e.error) (abs v.error)) refl
  where
    go : (t : Bool) → lt (abs e.error) (abs v.error) ≡ t → unsigned_entry (takes e v) ≡ rust_takes (unsigned_entry e) (unsigned v)
    go true h = ap unsigned_entry (sym (larger e v v.database refl h)) ∙ rw h
    go false h = ap unsigned_entry (sym (smaller e v h)) ∙ rw h

all-unsigned : (e : Entry) (vs : List Deviation) → unsigned_entry (takes_all e vs) ≡ rust_takes_all (unsigned_entry e) (map unsigned vs)
all-unsigned e [] = refl
all-unsigned e (v ∷ vs) = all-unsigned (takes e v) vs ∙ ap (λ (x : Entry). rust_takes_all x (map unsigned vs)) (takes-unsigned e v)

entry-unsigned : (i kind : ℕ) (vs : List Deviation) → map unsigned_entry (entry_of i kind vs) ≡ rust_entry_of i kind (map unsigned vs)
unfolding entry_of rust_entry_of first_entry
entry-unsigned i kind [] = refl
entry-unsigned i kind (v ∷ vs) = ap (λ (x : Entry). x ∷ []) (all-unsigned (first_entry i kind v) vs)

greatest-unsigned : (x : Float) (es : List Entry) → greatest_from x es ≡ rust_greatest x (map unsigned_entry es)
unfolding greatest_from rust_greatest
greatest-unsigned x [] = refl
greatest-unsigned x (e ∷ es) = greatest-unsigned (cond (lt x (abs e.error)) (abs e.error) x) es

pub sign-aside : SignAside
sign-aside = record { deviation = deviation-unsigned; entry = entry-unsigned; greatest = greatest-unsigned }
