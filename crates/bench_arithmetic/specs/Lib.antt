-- What is measured.
pub mod Word
