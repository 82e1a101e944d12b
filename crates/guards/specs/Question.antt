-- Does a structure draw a sheet's cell (document 01, "What a structure draws")? One row of test data: policy, database unit, the sheet's bytes, and the bytes that are read. Assumes nothing.
use Rattle.std.specs.Prelude.{List, ℕ, Float}
use Rattle.std.specs.Float.{binary64}
use Rattle.std.specs.Float.Ieee.{of_bits}
use Rattle.cases.specs.Case.{unpacked}

pub record Question : Type 0 where
  pub policy : ℕ
  pub unit : Float
  pub sheet : List ℕ
  pub bytes : List ℕ

-- bytes, written as their count and one number
abbrev pub x : ℕ → ℕ → List ℕ
x = unpacked

-- a double by its bits
abbrev pub bits : ℕ → Float
bits = of_bits binary64
