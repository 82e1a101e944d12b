-- What the code of an array's conversions answers.
pub mod code
