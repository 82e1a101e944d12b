-- Bytes as text.
pub mod Hex
