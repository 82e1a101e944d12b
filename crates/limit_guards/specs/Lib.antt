-- The limits of text types and properties: test data.
pub mod Limits
