-- The bytes and the length of an element's properties and its ENDEL.
pub mod code
