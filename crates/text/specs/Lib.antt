-- What the code of a text answers, and the bytes of its records with their length.
pub mod code
