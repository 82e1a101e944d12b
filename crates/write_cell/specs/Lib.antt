-- What measuring and writing a cell promise.
pub mod Writer
pub mod code
