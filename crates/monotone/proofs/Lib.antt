-- Conversion keeps order, proved.
pub mod OrderLaws
