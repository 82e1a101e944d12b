-- What the answer of a caller's checks stands for.
pub mod code
