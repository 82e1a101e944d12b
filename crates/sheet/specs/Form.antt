-- The parts of a block, read from its front (document 01, "Input", second paragraph). A part that is short or has an unknown code is ill-formed. Assumes nothing.
use Rattle.std.specs.Prelude.{Bool, true, false, ◌&&◌, cond, List, ℕ, ◌^◌, leb, ltb, eqb, ℤ, Float}
use Rattle.std.proofs.Math.Option.{Option, none, some}
use Rattle.std.specs.Float.{binary64}
use Rattle.std.specs.Float.Ieee.{of_bits}
use Rattle.std.proofs.Common.{to_z}
use Rattle.std.specs.Int.{w32}
use Rattle.big_endian.specs.Big.{number}
use Rattle.parsing.specs.Parse.{Parse, IllFormed, ill_formed, pure, fail, when, map, present, items, times, ◌>>=◌}
use Rattle.units.specs.declared.Unit.{Unit}
use Rattle.units.specs.declared.Unit.TheVariants as U
use Rattle.units.specs.Point.{Point}

-- reading bytes, where there is one cause to stop: refusal 5
abbrev pub Form : Type 0 → Type 0
Form A = Parse IllFormed ℕ A

-- the next n bytes
abbrev pub bytes : ℕ → Form (List ℕ)
bytes = items ill_formed

-- the next number, of k bytes
unfoldable pub num : ℕ → Form ℕ
num k = map number (bytes k)

-- a byte that is at most n
unfoldable pub code : ℕ → Form ℕ
code n = num 1 >>= λ b. when ill_formed (leb b n) (pure b)

-- a byte that is 0 or 1
unfoldable pub flag : Form Bool
flag = map (λ b. eqb b 1) (code 1)

unfoldable pub double : Form Float
double = map (of_bits binary64) (num 8)

-- "A string is a 2-byte length and its bytes."
unfoldable pub string : Form (List ℕ)
string = num 2 >>= bytes

-- a 2-byte count and as many parts
unfoldable pub counted : {A : Type 0} → Form A → Form (List A)
counted p = num 2 >>= λ n. times n p

-- a part that is there where a test holds
unfoldable pub optional : {A : Type 0} → Bool → Form A → Form (Option A)
optional true p = map some p
optional false p = pure none

-- a signed number of 4 bytes
unfoldable pub long : Form ℤ
long = map (to_z w32) (num 4)

-- ---- coordinates

-- the kind of a coordinate: "0 integer, 1 double, 2 absent"
abbrev pub integer_kind : ℕ
integer_kind = 0

abbrev pub double_kind : ℕ
double_kind = 1

abbrev pub absent_kind : ℕ
absent_kind = 2

-- the upper four of an integer's value bytes are zeros
abbrev pub integer_limit : ℕ
integer_limit = 2 ^ 32

-- By its kind k, its 8 value bytes as a number v and its unit's as u. An integer is "four zeros, then a signed 32-bit value"; "absent means 16 zero bytes follow".
unfoldable pub coordinate_of : ℕ → ℕ → ℕ → Form (Option Unit)
coordinate_of k v u =
    cond (eqb k integer_kind) (when ill_formed (ltb v integer_limit) (pure (some (U.Integer (to_z w32 v) (of_bits binary64 u)))))
    (cond (eqb k double_kind) (pure (some (U.Float (of_bits binary64 v) (of_bits binary64 u))))
    (cond (eqb k absent_kind) (when ill_formed (eqb v 0 && eqb u 0) (pure none))
    (fail ill_formed)))

-- "17 bytes, a kind, 8 value bytes, then the unit as a double"
unfoldable pub coordinate : Form (Option Unit)
coordinate = do
  k ← num 1
  v ← num 8
  u ← num 8
  coordinate_of k v u

-- "A point is x then y"; neither may be absent.
unfoldable pub point : Form (Point Unit)
point = do
  x ← coordinate >>= present ill_formed
  y ← coordinate >>= present ill_formed
  pure (record { x = x; y = y })

-- "Only path lengths and whole spacings may be absent": both coordinates or neither.
unfoldable pub spacing_of : Option Unit → Option Unit → Form (Option (Point Unit))
spacing_of none none = pure none
spacing_of none (some y) = fail ill_formed
spacing_of (some x) none = fail ill_formed
spacing_of (some x) (some y) = pure (some (record { x = x; y = y }))

unfoldable pub spacing : Form (Option (Point Unit))
spacing = do
  x ← coordinate
  y ← coordinate
  spacing_of x y
