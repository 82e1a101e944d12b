-- The bytes and the checks of a polygon and of a node.
pub mod code
