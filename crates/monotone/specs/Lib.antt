-- Conversion keeps the order of physical values.
pub mod Order
