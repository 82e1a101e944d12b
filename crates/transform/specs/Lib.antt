-- What the code of a transform answers, and the bytes of its records.
pub mod code
