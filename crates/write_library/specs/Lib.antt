-- What measuring and writing a library promise.
pub mod Writer
pub mod code
