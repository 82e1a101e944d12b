-- `pattern` meets its contract, by the laws of `PatternLaws`. Assumes nothing.
use mathlib.Core.Path.{◌≡◌, sym, ap, ◌∙◌, subst}
use Prim.Native.Nat.{ℕ, ◌+◌, ◌-◌, ◌*◌, ◌%◌, ◌^◌, ◌≤◌, ◌<◌}
use native.Mathlib.Nat.{le_of_lt, le_trans, le-add_left}
use native.Mathlib.Omega.{arith}
use lib.Count.{count_leading_zeros}
use lib.Ieee.Nearest.{closest}
use Rattle.mul_add.specs.code.Places.{word, unit_place, excess, normal_from, infinite_from, hidden}
use Rattle.mul_add.specs.code.Pattern.{Pattern}
use Rattle.mul_add.proofs.LeadLaws.{Lead, lead, lead-exact}
use Rattle.mul_add.proofs.PatternLaws.{pattern-zero, pattern-finite, pattern-infinite}
use Rattle.mul_add.proofs.pack.pattern.Goals as goal

-- ---- the leading zeros, and what they say
module _ (m p : ℕ) (l : Lead m (count_leading_zeros 64 m)) where
  abbrev z : ℕ
  z = count_leading_zeros 64 m

  abbrev e : ℕ
  e = p + word - z

  fine : z ≤ p + word
  fine = le_trans (le_of_lt l.under) (le-add_left 64 p)

  -- what `half_even` was asked, with a shift by d
  finite : (d q : ℕ) → e < infinite_from → e + d ≡ unit_place + (e - normal_from) → q ≡ closest (m * 2 ^ z % 2 ^ 64) (2 ^ d) → Pattern m p ((e - normal_from) * hidden + q)
  finite d q h k r =
      subst (λ (q : ℕ). Pattern m p ((e - normal_from) * hidden + q)) (sym (r ∙ ap (λ (n : ℕ). closest n (2 ^ d)) (lead-exact l)))
      (pattern-finite m p z l.lo l.hi fine d h k)

  normal : (q : ℕ) → normal_from ≤ e → e < infinite_from → q ≡ closest (m * 2 ^ z % 2 ^ 64) (2 ^ excess) → Pattern m p ((e - normal_from) * hidden + q)
  normal q n h r = finite excess q h (go e n) r
    where
      go : (e : ℕ) → normal_from ≤ e → e + excess ≡ unit_place + (e - normal_from)
      go e h = omega arith

pub returns-then-m-eq0 : goal.returns-then-m-eq0
returns-then-m-eq0 c = pattern-zero c.args.m c.args.power c.if-m-eq0.true

pub returns-then-e-lt-NORMAL_FROM : goal.returns-then-e-lt-NORMAL_FROM
returns-then-e-lt-NORMAL_FROM c =
    let m = c.args.m in
    let p = c.args.power in
    let l = lead m c.if-m-eq0.false c.ranges.m.fits in
    let k = e m p l in
    subst (λ (r : ℕ). Pattern m p r) (none k c.half_even.result c.if-e-lt-NORMAL_FROM.true)
    (finite m p l (unit_place - k) c.half_even.result (less k c.if-e-lt-NORMAL_FROM.true) (go k c.if-e-lt-NORMAL_FROM.true) c.half_even.ensures)
  where
    less : (e : ℕ) → e < normal_from → e < infinite_from
    less e h = omega arith

    go : (e : ℕ) → e < normal_from → e + (unit_place - e) ≡ unit_place + (e - normal_from)
    go e h = omega arith

    none : (e q : ℕ) → e < normal_from → (e - normal_from) * hidden + q ≡ q
    none e q h = omega arith

pub returns-then-e-lt-INFINITE_FROM : goal.returns-then-e-lt-INFINITE_FROM
returns-then-e-lt-INFINITE_FROM c = normal c.args.m c.args.power (lead c.args.m c.if-m-eq0.false c.ranges.m.fits) _ c.if-e-lt-NORMAL_FROM.false c.if-e-lt-INFINITE_FROM.true c.half_even-then-e-lt-INFINITE_FROM.ensures

pub returns-else-e-lt-INFINITE_FROM : goal.returns-else-e-lt-INFINITE_FROM
returns-else-e-lt-INFINITE_FROM c =
    let m = c.args.m in
    let p = c.args.power in
    let l = lead m c.if-m-eq0.false c.ranges.m.fits in
    pattern-infinite m p (z m p l) l.lo l.hi (fine m p l) c.if-e-lt-INFINITE_FROM.false
