-- What measuring and writing one element answer, and its length by the block alone.
pub mod code
