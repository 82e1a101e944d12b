-- The bytes of an answer.
pub mod Bytes
