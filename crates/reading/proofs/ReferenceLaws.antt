-- References that were read are canonical: a 1 × 1 AREF becomes an SREF, and an array of integers in the unit 1 is converted to itself. Assumes nothing.
use mathlib.Core.Path.{◌≡◌, refl, sym, ap, ap₂, ◌∙◌, subst}
use mathlib.Core.Bool.{Bool, true, false, ◌&&◌, ◌||◌, cond}
use mathlib.Core.Option.{Option, none, some}
use mathlib.Core.List.{List, [], ◌∷◌}
use Prim.Native.Nat.{ℕ, ◌^◌, ◌≤◌, ◌<◌}
use native.Mathlib.Nat.{le_trans}
use native.Mathlib.Omega.{arith}
use lib.Dec.{T, eqb, leb, ltb→lt, lt→ltb, lit<, lit≤}
use lib.IntN.{ℤ, pos, negsuc}
use lib.Ieee as Ieee
use lib.Ieee.Bits.{is_true as on}
use lib.Ieee.Fits.{and_i}
use Rattle.binary64.specs.Value.{zero64, one64}
use Rattle.refusal.specs.declared.Refusal.TheVariants as R
use Rattle.parsing.specs.All.{All, done, more, absent, present}
use Rattle.units.specs.Point.{Point}
use Rattle.units.specs.Integer.{integer_point}
use Rattle.conversion.specs.declared.GdsRoundingPolicy.TheVariants.{Nearest}
use Rattle.conversion.specs.Made.{pure, ◌>>=◌, ◌>>◌}
use Rattle.conversion.specs.Convert.{in_range}
use Rattle.conversion.proofs.MadeLaws.{need-on, then-pure}
use Rattle.conversion.proofs.WholeLaws.{point-one, InRange, Few, EndInRange, array-exact}
use Rattle.sheet.specs.Element as S
use Rattle.sheet.proofs.Fine.{FineReference, FineBody}
use Rattle.sheet.proofs.Fine as F
use Rattle.stream.specs.Record.{SREF, AREF, SNAME}
use Rattle.stream.specs.Records.{string_record, colrow_record, corners_of, endpoint_of, sref_records, aref_records}
use Rattle.stream.specs.Strings.{unpadded, trimmed}
use Rattle.stream.specs.Structure.{Strans, Sref, Aref}
use Rattle.stream.specs.Structure as D
use Rattle.stream.specs.Drawn.{aref_drawn, only_instance, reference_drawn}
use Rattle.stream.proofs.Fit.{Word, Long, FitPoint}
use Rattle.stream.proofs.StringLaws.{padded-unpadded}
use Rattle.stream.proofs.ReadLaws.{word_back}
use Rattle.stream.proofs.Admitted.{body_rest, AdmittedPoint}
use Rattle.cell.specs.Limits.{within, max_col_row}
use Rattle.cell.specs.Names.{is_name}
use Rattle.cell.specs.Write.{single, in_unit, is_some, write_transform, write_sref, write_aref, write_reference, write_body}
use Rattle.cell.proofs.ElementLaws.{within-hi, word_below}
use Rattle.reading.specs.Limits.{points_limit, record_limit, step_limit, sheet_limits}
use Rattle.reading.specs.Cell.{Placing, sref_read, array_read, aref_read}
use Rattle.reading.proofs.Kept.{Named, Several, KeptSref, KeptAref}
use Rattle.reading.proofs.RealLaws.{one-fits, zero-fits, Passes, Turned, turned}
use Rattle.reading.proofs.Canon.{CanonBody}
use Rattle.reading.proofs.BodyLaws.{need-none, xy-passes, point-fine, string-fine}

-- ---- what references have in common

name-passes : (kind : ℕ) (s : List ℕ) → Named s → Passes kind 0 (string_record SNAME s)
unfolding record_limit
name-passes kind s h = need-none _ R.Name (on _ h.name)

both : (c r : ℕ) → Several c → Several r → within 1 c max_col_row && within 1 r max_col_row ≡ true
both c r h k = on _ (and_i (within 1 c max_col_row) (within 1 r max_col_row) h k)

-- the checks before the transform, and the transform
reference-front : (e : S.Reference) (u : Option Strans) → T (is_name e.name) → Several e.columns → Several e.rows
    → leb e.columns 1 || is_some e.column_spacing ≡ true → leb e.rows 1 || is_some e.row_spacing ≡ true → write_transform e.degrees e.magnification e.reflection ≡ pure u
    → write_reference Nearest one64 e ≡ cond (single e) (write_sref Nearest one64 e u >>= λ w. pure (D.sref w)) (write_aref Nearest one64 e u >>= λ w. pure (D.aref w))
unfolding write_reference
reference-front e u n c r sc sr t =
    need-on _ R.Name _ (on _ n) ∙ need-on _ R.ColumnsOrRows _ (both e.columns e.rows c r) ∙ need-on _ R.Spacing _ sc ∙ need-on _ R.Spacing _ sr ∙ then-pure _ t refl

-- ---- an SREF

module _ (e : Sref (Option Strans)) (h : KeptSref e) where
  u : Turned e.transform
  u = turned e.transform h.transform

  abbrev sref-put : Sref (Option Strans)
  sref-put = record { name = e.name; transform = u.put; origin = e.origin }

  sref-writes : write_reference Nearest one64 (sref_read e) ≡ pure (D.sref sref-put)
  unfolding write_sref
  sref-writes =
      reference-front (sref_read e) u.put h.name.name tt tt refl refl u.writes
      ∙ then-pure _ (then-pure _ (point-one Nearest _ 0 e.origin) (ap (λ (s : List ℕ). pure (record { name = s; transform = u.put; origin = e.origin })) (padded-unpadded e.name h.name.even.even))) refl

  sref-again : sref_read sref-put ≡ sref_read e
  sref-again = ap (λ (p : Placing). record { name = unpadded e.name; columns = 1; rows = 1; reflection = p.reflection; magnification = p.magnification; degrees = p.degrees; sine = zero64; cosine = one64; origin = integer_point e.origin; column_spacing = none; row_spacing = none }) u.again

  sref-admitted : All (Passes SREF 0) (body_rest (D.sref sref-put))
  unfolding sref_records points_limit
  sref-admitted = more (name-passes SREF e.name h.name) (u.admitted SREF _ (more (xy-passes SREF (e.origin ∷ []) (more h.origin done) refl) done))

  sref-fine : FineReference (sref_read e)
  sref-fine = record {
    name = string-fine e.name h.name.even;
    columns = lit< tt;
    rows = lit< tt;
    magnification = u.magnification;
    degrees = u.degrees;
    sine = zero-fits;
    cosine = one-fits;
    origin = point-fine e.origin h.origin;
    column_spacing = absent;
    row_spacing = absent;
  }

  pub sref-canon : CanonBody (D.sref e)
  unfolding write_body
  sref-canon = record {
    put = D.sref sref-put;
    writes = sref-writes;
    drawn = ap (λ (t : _). D.sref (record { name = trimmed e.name; transform = t; origin = e.origin })) u.drawn;
    again = ap S.reference sref-again;
    admitted = sref-admitted;
    steps = tt;
    fine = F.reference sref-fine;
  }

-- ---- signed 32-bit numbers

long-range : (z : ℤ) → Long z → T (in_range z)
long-range (pos n) h = lt→ltb n (2 ^ 31) h.sfits
long-range (negsuc n) h = lt→ltb n (2 ^ 31) h.sfits

range-long : (z : ℤ) → T (in_range z) → Long z
range-long (pos n) h = record { sfits = ltb→lt n (2 ^ 31) h }
range-long (negsuc n) h = record { sfits = ltb→lt n (2 ^ 31) h }

point-range : (p : Point ℤ) → FitPoint p → InRange p
point-range p h = record { x = long-range p.x h.x; y = long-range p.y h.y }

range-point : (p : Point ℤ) → InRange p → FitPoint p
range-point p h = record { x = range-long p.x h.x; y = range-long p.y h.y }

end-range : (o a : Point ℤ) (n : ℕ) → FitPoint (endpoint_of o a n) → EndInRange o a n
end-range o a n h = record { x = long-range _ h.x; y = long-range _ h.y }

-- ---- an array that is not 1 × 1

colrow-passes : (kind c r : ℕ) → Several c → Several r → Passes kind 0 (colrow_record c r)
unfolding record_limit
colrow-passes kind c r h k =
    need-none _ R.ColumnsOrRows (ap₂ (λ (m n : ℕ). within 1 m max_col_row && within 1 n max_col_row) (word_back c (word c h)) (word_back r (word r k)) ∙ both c r h k)
  where
    word : (n : ℕ) → Several n → Word n
    word n t = word_below max_col_row n (lit< tt) (within-hi 1 n max_col_row t)

step-admitted : (p : Point ℤ) → InRange p → AdmittedPoint sheet_limits p
unfolding step_limit
step-admitted p h = record { x = need-none _ R.ArrayCorners (on _ h.x); y = need-none _ R.ArrayCorners (on _ h.y) }

or-true : (b : Bool) → b || true ≡ true
or-true true = refl
or-true false = refl

unit-turns : (in_unit zero64 && in_unit one64) ≡ true
unfolding in_unit Ieee.le Ieee.lt Ieee.eq
unit-turns = refl

module _ (e : Aref (Option Strans)) (h : KeptAref e) where
  v : Turned e.transform
  v = turned e.transform h.transform

  abbrev aref-put : Aref (Option Strans)
  aref-put = record { name = e.name; transform = v.put; columns = e.columns; rows = e.rows; origin = e.origin; column_step = e.column_step; row_step = e.row_step }

  -- 1 × 1
  abbrev alone : Bool
  alone = eqb e.columns 1 && eqb e.rows 1

  few : (n : ℕ) → Several n → Few n
  few n t = le_trans (within-hi 1 n max_col_row t) (lit≤ tt)

  aref-writes : write_aref Nearest one64 (array_read e) v.put ≡ pure aref-put
  unfolding write_aref
  aref-writes =
      need-on _ R.SineOrCosine _ unit-turns
      ∙ then-pure _
      (array-exact e.columns e.rows e.origin e.column_step e.row_step (point-range e.origin h.origin) h.column_step h.row_step (few e.columns h.columns) (few e.rows h.rows)
      (end-range e.origin e.column_step e.columns h.column_end) (end-range e.origin e.row_step e.rows h.row_end))
      (ap (λ (s : List ℕ). pure (record { name = s; transform = v.put; columns = e.columns; rows = e.rows; origin = e.origin; column_step = e.column_step; row_step = e.row_step }))
      (padded-unpadded e.name h.name.even.even))

  array-writes : alone ≡ false → write_reference Nearest one64 (array_read e) ≡ pure (D.aref aref-put)
  array-writes q =
      reference-front (array_read e) v.put h.name.name h.columns h.rows (or-true (leb e.columns 1)) (or-true (leb e.rows 1)) v.writes
      ∙ ap (λ (b : Bool). cond b (write_sref Nearest one64 (array_read e) v.put >>= λ w. pure (D.sref w)) (write_aref Nearest one64 (array_read e) v.put >>= λ w. pure (D.aref w))) q
      ∙ then-pure _ aref-writes refl

  array_again : array_read aref-put ≡ array_read e
  array_again = ap (λ (p : Placing). record { name = unpadded e.name; columns = e.columns; rows = e.rows; reflection = p.reflection; magnification = p.magnification; degrees = p.degrees; sine = zero64; cosine = one64; origin = integer_point e.origin; column_spacing = some (integer_point e.column_step); row_spacing = some (integer_point e.row_step) }) v.again

  aref-admitted : All (Passes AREF 0) (body_rest (D.aref aref-put))
  unfolding aref_records points_limit
  aref-admitted =
      more (name-passes AREF e.name h.name)
      (v.admitted AREF _ (more (colrow-passes AREF e.columns e.rows h.columns h.rows)
      (more (xy-passes AREF (corners_of aref-put) (more h.origin (more h.column_end (more h.row_end done))) refl) done)))

  array-fine : FineReference (array_read e)
  array-fine = record {
    name = string-fine e.name h.name.even;
    columns = omega (arith, within-hi 1 e.columns max_col_row h.columns);
    rows = omega (arith, within-hi 1 e.rows max_col_row h.rows);
    magnification = v.magnification;
    degrees = v.degrees;
    sine = zero-fits;
    cosine = one-fits;
    origin = point-fine e.origin h.origin;
    column_spacing = present (point-fine e.column_step (range-point e.column_step h.column_step));
    row_spacing = present (point-fine e.row_step (range-point e.row_step h.row_step));
  }

  -- ---- every AREF

  -- by whether it is 1 × 1: how it is read, and drawn
  read_as : (b : Bool) → alone ≡ b → aref_read e ≡ cond b (sref_read (only_instance e)) (array_read e)
  unfolding aref_read
  read_as b q = ap (λ (t : Bool). cond t (sref_read (only_instance e)) (array_read e)) q

  put_as : alone ≡ false → aref_read aref-put ≡ array_read aref-put
  unfolding aref_read
  put_as q = ap (λ (t : Bool). cond t (sref_read (only_instance aref-put)) (array_read aref-put)) q

  drawn-as : (w : Aref (Option Strans)) (b : Bool) → eqb w.columns 1 && eqb w.rows 1 ≡ b → reference_drawn (aref_drawn w) ≡ cond b (D.sref (only_instance (aref_drawn w))) (D.aref (aref_drawn w))
  unfolding reference_drawn
  drawn-as w b q = ap (λ (t : Bool). cond t (D.sref (only_instance (aref_drawn w))) (D.aref (aref_drawn w))) q

  pub aref-canon : CanonBody (D.aref e)
  unfolding write_body
  aref-canon = go alone refl
    where
      -- its only instance is an SREF that was read
      only : CanonBody (D.sref (only_instance e))
      only = sref-canon (only_instance e) (record { name = h.name; transform = h.transform; origin = h.origin })

      go : (b : Bool) → alone ≡ b → CanonBody (D.aref e)
      go true q =
          let i = read_as true q in
          record {
            put = only.put;
            writes = ap (write_reference Nearest one64) i ∙ only.writes;
            drawn = only.drawn ∙ sym (drawn-as e true q);
            again = only.again ∙ ap S.reference (sym i);
            admitted = only.admitted;
            steps = only.steps;
            fine = subst (λ (x : S.Reference). FineBody (S.reference x)) (sym i) only.fine;
          }
      go false q =
          let i = read_as false q in
          record {
            put = D.aref aref-put;
            writes = ap (write_reference Nearest one64) i ∙ array-writes q;
            drawn =
                drawn-as aref-put false q
                ∙ ap (λ (t : _). D.aref (record { name = trimmed e.name; transform = t; columns = e.columns; rows = e.rows; origin = e.origin; column_step = e.column_step; row_step = e.row_step })) v.drawn
                ∙ sym (drawn-as e false q);
            again = ap S.reference (put_as q ∙ array_again ∙ sym i);
            admitted = aref-admitted;
            steps = (step-admitted e.column_step h.column_step, step-admitted e.row_step h.row_step);
            fine = subst (λ (x : S.Reference). FineBody (S.reference x)) (sym i) (F.reference array-fine);
          }
