-- What the code of a reference answers, and the bytes of its records.
pub mod code
