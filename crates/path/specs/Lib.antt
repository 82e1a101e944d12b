-- A path's lengths on the grid, its bytes and their length.
pub mod code
