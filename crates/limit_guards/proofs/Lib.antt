-- The guards of the limits of text types and properties.
pub mod LimitsLaws
