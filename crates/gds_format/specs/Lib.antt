-- Eight-byte reals.
pub mod Real8
pub mod Decode
pub mod Faithful
pub mod code
