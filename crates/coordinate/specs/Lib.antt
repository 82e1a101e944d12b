-- What the code answers for a value and a point of the grid.
pub mod code
