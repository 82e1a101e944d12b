-- What the code of a box answers, and the bytes of its records with their length.
pub mod code
