-- `gds_format::normalized_pattern` meets its contract, by the laws of `Pattern`. Assumes nothing.
use mathlib.Core.Path.{◌≡◌, sym, ap, ap₂, ◌∙◌, subst}
use mathlib.Core.Bool.{Bool, true, false, cond}
use Prim.Native.Nat.{ℕ, ◌+◌, ◌*◌, ◌^◌, ◌<◌}
use native.Mathlib.Nat.{add_assoc, zero-add}
use native.Mathlib.Omega.{arith}
use Rattle.binary64.specs.Value.{size_of, negative}
use Rattle.gds_format.specs.Real8.{pattern}
use Rattle.gds_format.proofs.Pattern.{Between, parts-between, pattern-is, bits_are, bits_small, fraction-is, room}
use Rattle.gds_format.proofs.normalized_pattern.Goals as goal

module _ (c : goal.After-unpack-parts) where
  abbrev n : ℕ
  n = size_of c.args.x

  abbrev m : ℕ
  m = c.unpack-parts.result.digits

  abbrev j : ℕ
  j = c.unpack-parts.result.power

  split : Between n m j
  split = parts-between c.args.x c.unpack-parts.result.negative m j c.unpack-parts.ensures c.requires.min_magnitude_bound c.requires.x_bound

few : (c : goal.After-exponent_bits) → c.exponent_bits.result < 128
few c =
    subst (λ (k : ℕ). k < 128) (sym (c.exponent_bits.ensures ∙ bits_are (n c.before) (m c.before) (j c.before) (split c.before))) (bits_small (n c.before) (m c.before) (j c.before) (split c.before))

module _ (c : goal.After-fraction) where
  abbrev u : goal.After-unpack-parts
  u = c.before.before

  abbrev sum : ℕ
  sum = c.exponent_bits.result * 2 ^ 56 + c.fraction.result

  sum_room : sum < 2 ^ 63
  sum_room = go c.exponent_bits.result c.fraction.result (few c.before) (subst (λ (v : ℕ). v < 2 ^ 56) (sym (c.fraction.ensures ∙ fraction-is (n u) (m u) (j u) (split u))) (room (n u) (m u) (j u) (split u)))
    where
      go : (k v : ℕ) → k < 128 → v < 2 ^ 56 → k * 2 ^ 56 + v < 2 ^ 63
      go k v h l = omega arith

  is : (s : Bool) → u.unpack-parts.result.negative ≡ s → cond s (2 ^ 63) 0 + sum ≡ pattern (negative u.before.args.x) (n u)
  is s e =
      sym (add_assoc (cond s (2 ^ 63) 0) (c.exponent_bits.result * 2 ^ 56) c.fraction.result)
      ∙ ap₂ (λ (k v : ℕ). cond s (2 ^ 63) 0 + k * 2 ^ 56 + v) c.exponent_bits.ensures c.fraction.ensures
      ∙ sym (pattern-is (n u) (m u) (j u) (split u) s)
      ∙ ap (λ (b : Bool). pattern b (n u)) (sym (u.unpack-parts.ensures.sign ∙ e))

pub exponent_bits-requires : goal.exponent_bits-requires
exponent_bits-requires c = record { least_power_le_power = (split c).least; power_lt_end_power = (split c).most }

pub overflow_mul-pattern : goal.overflow_mul-pattern
overflow_mul-pattern c = record { fits = omega (arith, few c) }

pub overflow_add-pattern : goal.overflow_add-pattern
overflow_add-pattern c = record { fits = go (sum c) (sum_room c) }
  where
    go : (z : ℕ) → z < 2 ^ 63 → z < 2 ^ 64
    go z h = omega arith

pub overflow_add-result : goal.overflow_add-result
overflow_add-result c = record { fits = go (sum c.before) (sum_room c.before) }
  where
    go : (z : ℕ) → z < 2 ^ 63 → 2 ^ 63 + z < 2 ^ 64
    go z h = omega arith

pub returns-then-parts : goal.returns-then-parts
returns-then-parts c = is c.before true c.if-parts.true

pub returns-else-parts : goal.returns-else-parts
returns-else-parts c = sym (zero-add (sum c.before)) ∙ is c.before false c.if-parts.false
