-- What measuring and writing the head and the blocks in turn answer and promise.
pub mod code
