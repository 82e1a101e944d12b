-- The range of two bounds, its answer, and what `convert_bounds` promises.
pub mod Range
pub mod Answer
pub mod Bounds
