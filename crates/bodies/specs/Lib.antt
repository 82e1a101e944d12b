-- The body's bytes, and their length by the block alone.
pub mod code
