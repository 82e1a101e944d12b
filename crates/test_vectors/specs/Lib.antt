-- Stored cases.
pub mod Case
