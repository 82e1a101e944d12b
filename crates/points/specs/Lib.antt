-- What the code answers for points in turn, and which points pass unchanged.
pub mod code
