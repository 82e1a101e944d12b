-- The bytes of stored answers.
pub mod Answer
