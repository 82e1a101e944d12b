-- What an element's tail takes in the output, by the block alone. Assumes nothing.
use mathlib.Core.Path.{◌≡◌, sym, ap, ap₂, ◌∙◌}
use mathlib.Core.List.{List}
use Prim.Native.Nat.{ℕ, zero, suc, ◌+◌, ◌*◌, ◌%◌, ◌≤◌}
use native.Mathlib.Omega.{arith}
use lib.ListN.{length, length-append}
use Rattle.big_endian.specs.Big.{number_at}
use Rattle.conversion.specs.declared.Deviation.{Deviation}
use Rattle.conversion.specs.Made.{made}
use Rattle.conversion.proofs.MadeLaws.{Yields, made_yields, steps, then-steps}
use Rattle.stream.specs.Structure as D
use Rattle.stream.specs.Record.{ENDEL}
use Rattle.stream.specs.Records.{empty_record}
use Rattle.cell.specs.Write.{write_properties}
use Rattle.records.proofs.RecordLaws.{length-record}
use Rattle.block_places.specs.code.Place.{values_from, place_from, property_at, property_end, properties_from}
use Rattle.properties.specs.code.Tail.{said, property_bytes, tail_bytes, tail_length}
use Rattle.properties.proofs.TailLaws.{length-property, tail-cons, tail-nil, place_up}

-- a property that lies in the block, by where it is to end
property-in : (n : ℕ) (b : List ℕ) (at : ℕ) → place_from property_end n b (property_end b at) ≤ length b → property_end b at ≤ length b
property-in n b at h = let u = place_up n b (property_end b at) in omega arith

tail-yields : (n : ℕ) (b : List ℕ) (at : ℕ) (qs : List D.Property) → place_from property_end n b at ≤ length b
    → Yields (write_properties (properties_from n b at)) qs → length (tail_bytes qs) ≡ tail_length n b at
unfolding write_properties values_from place_from tail_length
tail-yields zero b at qs h y = ap (λ (ws : List D.Property). length (tail_bytes ws)) (sym (made_yields y)) ∙ ap length tail-nil ∙ length-record (empty_record ENDEL)
tail-yields (suc n) b at qs h y =
    let k = steps (then-steps y).then in
    ap (λ (ws : List D.Property). length (tail_bytes ws)) (sym (made_yields k.then))
    ∙ ap length (tail-cons (said (property_at b at)) k.value)
    ∙ length-append (property_bytes (said (property_at b at))) (tail_bytes k.value)
    ∙ ap₂ (λ (x y : ℕ). x + y) (length-property b at (property-in n b at h)) (tail-yields n b (property_end b at) k.value h k.first)

-- what the definition gives has the length that the block tells
pub tail-length : (n : ℕ) (b : List ℕ) (at : ℕ) (qs : List D.Property) (vs : List Deviation) → place_from property_end n b at ≤ length b
    → write_properties (properties_from n b at) ≡ made qs vs → length (tail_bytes qs) ≡ tail_length n b at
tail-length n b at qs vs h e = tail-yields n b at qs h (record { log = vs; is = e })

-- each property takes at most three times its part of the block
tail_within : (n : ℕ) (b : List ℕ) (at : ℕ) → tail_length n b at + 3 * at ≤ 4 + 3 * place_from property_end n b at
unfolding tail_length place_from
tail_within zero b at = omega arith
tail_within (suc n) b at = go at (number_at 2 b (at + 2)) (tail_length n b (property_end b at)) (place_from property_end n b (property_end b at)) (tail_within n b (property_end b at))
  where
    go : (at m t p : ℕ) → t + 3 * (at + 2 + 2 + m) ≤ 4 + 3 * p → 10 + (m + m % 2) + t + 3 * at ≤ 4 + 3 * p
    go at m t p h = omega arith

pub tail-short : (n : ℕ) (b : List ℕ) (at : ℕ) → place_from property_end n b at ≤ length b → tail_length n b at ≤ 4 + 3 * length b
tail-short n b at h = let k = tail_within n b at in omega arith
