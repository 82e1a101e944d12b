-- Doubles: their values as whole numbers, rounding to whole numbers, one step, `mul_add`.
pub mod Value
pub mod Step
pub mod Fma
pub mod code
