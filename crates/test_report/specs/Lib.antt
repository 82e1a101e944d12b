-- A double of a stored case, and how many cases differ.
pub mod Cases
