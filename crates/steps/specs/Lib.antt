-- What measuring and writing promise of a step of the definitions.
pub mod code
