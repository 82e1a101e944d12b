-- Deviations, which of them stands for an element, and the greatest error are as known by hand, computed; and no clause of what is claimed of the sign can be left out. Assumes nothing.
use mathlib.Core.Path.{◌≡◌, refl, sym, ap, ap₂, ◌∙◌, subst}
use mathlib.Core.Bool.{true≢false}
use mathlib.Core.List.{List, [], ◌∷◌, ◌++◌, map}
use Prim.Native.Nat.{ℕ, suc}
use lib.Dec.{T, eqb}
use lib.ListN.{take}
use lib.IntN.{ℤ, pos, ◌*ℤ◌}
use lib.Signed.{◌<ℤ◌}
use lib.Ieee.{Float, binary64, fits, of_bits, to_bits, sub, mul, lt, of_int}
use lib.Ieee.Positive.{positive, positive-finite}
use lib.Ieee.Scale.{finite}
use Rattle.parsing.specs.All.{All}
use Rattle.binary64.specs.Value.{abs, scaled, zero64}
use Rattle.binary64.proofs.AbsLaws.{abs-abs}
use Rattle.conversion.specs.declared.Deviation.{Deviation}
use Rattle.conversion.specs.declared.Entry.{Entry}
use Rattle.conversion.specs.declared.GdsRoundingPolicy.TheVariants.{Floor, Ceil}
use Rattle.conversion.specs.Made.{Made, refused, made, pure}
use Rattle.conversion.specs.Convert.{Spot, in_range, database_value, difference, counts, deviations, convert_physical, array_endpoint}
use Rattle.conversion.specs.Entry.{entry_of, entry_bytes, greatest_from}
use Rattle.conversion.specs.Side.{TellsSide, CountedTellsSide, EntryTellsSide, FloorNeverAbove, CeilingNeverBelow, error_of, rust_deviations, rust_entry_of, rust_greatest, SameMagnitude, unsigned, unsigned_entry, SignAside}
use Rattle.conversion.proofs.DeviationLaws.{counts-above}
use Rattle.stream.specs.Structure.{Structure}
use Rattle.stream.specs.Library.{FileHead}
use Rattle.cell.specs.Cell as C
use Rattle.cell.specs.Cell.{cell_structure}
use Rattle.cell.specs.Sides.{EntriesTellSides}
use Rattle.library.specs.Library as L
use Rattle.library.specs.Library.{WrittenCell, library_file}
use Rattle.library.specs.Sides.{LibraryTellsSides}
use Rattle.library.proofs.AloneLaws.{middle}
use Rattle.cases.specs.Doubles.{up, minus, half, one, three, infinity, i32_max_and_half}
use Rattle.cases.specs.Sides.{quarter, two_and_quarter, two_and_three_quarters, Row, rows, Corner, corners, Choice, choices, Greatest, greatests}
use Rattle.cases.proofs.Open.{opened}

abbrev double : ℕ → Float
double b = of_bits binary64 b

abbrev somewhere : Spot
somewhere = record { field = 0; axis = 0; place = 0 }

-- the errors of deviations, by their bits
abbrev errors_in : List Deviation → List ℕ
errors_in vs = map (λ v. to_bits binary64 v.error) vs

-- ---- single deviations

abbrev said : Row → Made ℤ → List Row
said r (refused x) = []
said r (made q vs) = record { policy = r.policy; unit = r.unit; physical = r.physical; database = q; errors = errors_in vs } ∷ []

abbrev found : List Row → List (List Row)
found [] = []
found (r ∷ rs) = said r (convert_physical r.policy (double r.unit) somewhere (double r.physical)) ∷ found rs

abbrev each : {A : Type 0} → List A → List (List A)
each [] = []
each (x ∷ xs) = (x ∷ []) ∷ each xs

pub sides-pass : found rows ≡ each rows
unfolding opened rows
sides-pass = refl

abbrev corner_said : Corner → Made ℤ → List Corner
corner_said c (refused x) = []
corner_said c (made q vs) = record { unit = c.unit; origin = c.origin; step = c.step; count = c.count; physical = c.physical; database = q; errors = errors_in vs } ∷ []

abbrev corners_found : List Corner → List (List Corner)
corners_found [] = []
corners_found (c ∷ cs) = corner_said c (array_endpoint (double c.unit) somewhere c.origin c.step c.count (double c.physical)) ∷ corners_found cs

pub corners-pass : corners_found corners ≡ each corners
unfolding opened corners
corners-pass = refl

-- ---- which stands for an element

-- deviations with these errors, each at its own place
abbrev deviations_from : ℕ → List ℕ → List Deviation
deviations_from k [] = []
deviations_from k (e ∷ es) = record { field = 0; axis = 0; place = k; physical = zero64; database = pos 0; error = double e } ∷ deviations_from (suc k) es

abbrev chosen : List ℕ → List Entry → List Choice
chosen es [] = []
chosen es (e ∷ fs) = record { errors = es; place = e.place; error = to_bits binary64 e.error } ∷ chosen es fs

abbrev choices_found : List Choice → List (List Choice)
choices_found [] = []
choices_found (c ∷ cs) = chosen c.errors (entry_of 0 4 (deviations_from 0 c.errors)) ∷ choices_found cs

pub choices-pass : choices_found choices ≡ each choices
unfolding opened choices
choices-pass = refl

-- ---- the greatest error

abbrev entries_with : List ℕ → List Entry
entries_with [] = []
entries_with (e ∷ es) = record { index = 0; kind = 4; field = 0; axis = 0; place = 0; count = 1; physical = zero64; database = pos 0; error = double e } ∷ entries_with es

abbrev greatests_found : List Greatest → List Greatest
greatests_found [] = []
greatests_found (g ∷ gs) = record { errors = g.errors; greatest = to_bits binary64 (greatest_from zero64 (entries_with g.errors)) } ∷ greatests_found gs

pub greatests-pass : greatests_found greatests ≡ greatests
unfolding opened greatests
greatests-pass = refl

-- ---- no clause of `TellsSide` can be left out: each of these four breaks one alone

-- on the grid, and said to be above; below; above the physical value, and not said to be; below it, and not
pub none_above : TellsSide (double one) (double three) (pos 3) (double quarter) → ⊥
unfolding opened
none_above t = (t.above tt).lt

pub none_below : TellsSide (double one) (double three) (pos 3) (double (minus quarter)) → ⊥
unfolding opened
none_below t = (t.below tt).lt

pub unsaid-above : TellsSide (double one) (double two_and_three_quarters) (pos 3) zero64 → ⊥
unfolding opened
unsaid-above t = t.is-above (record { lt = tt })

pub unsaid-below : TellsSide (double one) (double two_and_quarter) (pos 2) zero64 → ⊥
unfolding opened
unsaid-below t = t.is_below (record { lt = tt })

-- Nor of `EntryTellsSide`: p infinite, and q beyond 32 bits, each with the error that they have; an entry on the right side with another error than its own; and one on the grid, whose error is none.
abbrev deviating : ℕ → ℤ → ℕ → Entry
deviating p q e = record { index = 0; kind = 4; field = 0; axis = 0; place = 0; count = 1; physical = double p; database = q; error = double e }

pub no-physical : EntryTellsSide (double one) (deviating (minus infinity) (pos 3) infinity) → ⊥
unfolding opened
no-physical t = t.physical

-- 2^31 for 2147483647.5
pub no-database : EntryTellsSide (double one) (deviating i32_max_and_half (pos 2147483648) half) → ⊥
unfolding opened
no-database t = t.database

pub other-error : EntryTellsSide (double one) (deviating two_and_three_quarters (pos 3) half) → ⊥
unfolding opened
other-error t = true≢false (ap (λ (x : Float). eqb (to_bits binary64 x) half) t.error)

pub no-error : EntryTellsSide (double one) (deviating three (pos 3) 0) → ⊥
unfolding opened
no-error t = t.counted

-- ---- what the claims give of any entry, written out

-- q × d − p by a product and a difference, not 0, above 0 exactly where q × d is greater than p, below 0 exactly where it is less
pub record Written (d : Float) (e : Entry) : Type 0 where
  pub some : T (lt zero64 (abs e.error))
  pub error : to_bits binary64 e.error ≡ to_bits binary64 (sub binary64 (mul binary64 (of_int binary64 e.database) d) e.physical)
  pub above : T (lt zero64 e.error) → scaled e.physical <ℤ (e.database *ℤ scaled d)
  pub greater : scaled e.physical <ℤ (e.database *ℤ scaled d) → T (lt zero64 e.error)
  pub below : T (lt e.error zero64) → (e.database *ℤ scaled d) <ℤ scaled e.physical
  pub less : (e.database *ℤ scaled d) <ℤ scaled e.physical → T (lt e.error zero64)

entry-written : (d : Float) (e : Entry) → EntryTellsSide d e → Written d e
unfolding difference
entry-written d e t = record { some = subst (λ (x : Float). T (lt zero64 (abs x))) (sym t.error) (counts-above d e.physical e.database t.counted); error = ap (to_bits binary64) t.error; above = t.side.above; greater = t.side.is-above; below = t.side.below; less = t.side.is_below }

pub entry-of-cell : EntriesTellSides → (policy : ℕ) (d : Float) (sheet : List ℕ) (s : Structure) (es : List Entry) (e : Entry) (fs : List Entry) → T (fits binary64 d)
    → cell_structure policy d sheet ≡ C.written s (es ++ e ∷ fs) → Written d e
entry-of-cell claim policy d sheet s es e fs F h = entry-written d e (middle es e fs (claim policy d sheet s (es ++ e ∷ fs) F h))

pub entry-of-library : LibraryTellsSides → (policy : ℕ) (d : Float) (sheet : List ℕ) (front : FileHead) (before : List WrittenCell) (w : WrittenCell) (after : List WrittenCell) (es : List Entry) (e : Entry) (fs : List Entry)
    → T (fits binary64 d) → library_file policy d sheet ≡ L.written (record { head = front; cells = before ++ w ∷ after }) → w.entries ≡ es ++ e ∷ fs → Written d e
entry-of-library claim policy d sheet front before w after es e fs F h k =
    entry-written d e (middle es e fs (subst (All (EntryTellsSide d)) k (middle before w after (claim policy d sheet (record { head = front; cells = before ++ w ∷ after }) F h))))

-- of a conversion under floor and under ceiling
pub floor-error : FloorNeverAbove → CountedTellsSide → (d p : Float) (q : ℤ) → T (fits binary64 d) → T (positive d) → T (fits binary64 p) → T (finite p) → T (in_range q)
    → database_value Floor d p ≡ pure q → T (counts d p q) → T (lt zero64 (difference d p q)) → q ≡ pos 0
floor-error claim tells d p q D b P f r e c a = claim d p q D b P e c ((tells d p q D (positive-finite d b) P f r c).above a)

pub ceiling-error : CeilingNeverBelow → CountedTellsSide → (d p : Float) (q : ℤ) → T (fits binary64 d) → T (positive d) → T (fits binary64 p) → T (finite p) → T (in_range q)
    → database_value Ceil d p ≡ pure q → T (counts d p q) → T (lt (difference d p q) zero64) → ⊥
ceiling-error claim tells d p q D b P f r e c a = claim d p q D b P e c ((tells d p q D (positive-finite d b) P f r c).below a)

-- the bits of the magnitude are those of |p − q × d|
pub magnitude-bits : SameMagnitude → (d p : Float) (q : ℤ) → to_bits binary64 (abs (difference d p q)) ≡ to_bits binary64 (abs (sub binary64 p (mul binary64 (of_int binary64 q) d)))
unfolding error_of
magnitude-bits claim d p q = ap (to_bits binary64) (claim d p q)

-- Without its sign an entry is the Rust's in each field, and so is the greatest error.
module _ (claim : SignAside) (i kind : ℕ) (vs : List Deviation) where
  aside : {A : Type 0} (g : Entry → A) → ((e : Entry) → g (unsigned_entry e) ≡ g e) → map g (entry_of i kind vs) ≡ map g (rust_entry_of i kind (map unsigned vs))
  aside {A} g h = sym (each_same (entry_of i kind vs)) ∙ ap (map g) (claim.entry i kind vs)
    where
      each_same : (es : List Entry) → map g (map unsigned_entry es) ≡ map g es
      each_same [] = refl
      each_same (e ∷ es) = ap₂ (λ (x : A) (xs : List A). x ∷ xs) (h e) (each_same es)

  -- all but the error by its first 25 bytes; the error by its magnitude's bits
  pub same-front : map (λ e. take 25 (entry_bytes e)) (entry_of i kind vs) ≡ map (λ e. take 25 (entry_bytes e)) (rust_entry_of i kind (map unsigned vs))
  unfolding entry_bytes
  same-front = aside (λ e. take 25 (entry_bytes e)) (λ e. refl)

  pub same_size : map (λ e. to_bits binary64 (abs e.error)) (entry_of i kind vs) ≡ map (λ e. to_bits binary64 (abs e.error)) (rust_entry_of i kind (map unsigned vs))
  same_size = aside (λ e. to_bits binary64 (abs e.error)) (λ e. ap (to_bits binary64) (abs-abs e.error))

pub same-greatest : SignAside → (x : Float) (es : List Entry) → to_bits binary64 (greatest_from x es) ≡ to_bits binary64 (rust_greatest x (map unsigned_entry es))
same-greatest claim x es = ap (to_bits binary64) (claim.greatest x es)

-- and so are a conversion's deviations
pub same-deviations : SignAside → (d : Float) (at : Spot) (p : Float) (q : ℤ) → errors_in (map unsigned (deviations d at p q)) ≡ errors_in (rust_deviations d at p q)
same-deviations claim d at p q = ap errors_in (claim.deviation d at p q)

-- the Rust's rules, by hand: 2.25 as 2 and 2.75 as 3, both 0.25; 3 as 3, and a step above 3
abbrev rust_errors : ℕ → ℕ → List ℕ
rust_errors p q = errors_in (rust_deviations (double one) somewhere (double p) (pos q))

pub rust-deviations : rust_errors two_and_quarter 2 ++ rust_errors two_and_three_quarters 3 ++ rust_errors three 3 ++ rust_errors (up 1 three) 3 ≡ quarter ∷ quarter ∷ []
unfolding opened
rust-deviations = refl

-- 0.25 and then 0.5, which replaces; 0.5 and then 0.25; and equal ones, where the first stays
abbrev rust_chosen : List ℕ → List ℕ
rust_chosen es = map (λ e. e.place) (rust_entry_of 0 4 (deviations_from 0 es))

pub rust-choices : rust_chosen (quarter ∷ half ∷ []) ++ rust_chosen (half ∷ quarter ∷ []) ++ rust_chosen (half ∷ half ∷ []) ≡ 1 ∷ 0 ∷ 0 ∷ []
unfolding opened
rust-choices = refl

pub rust-greatest : to_bits binary64 (rust_greatest zero64 (entries_with (quarter ∷ half ∷ quarter ∷ []))) ≡ half
unfolding opened
rust-greatest = refl
