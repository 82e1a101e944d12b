-- A second telling of demand 3, and test data.
pub mod Told
pub mod Question
pub mod Sample
pub mod Values
pub mod Edits
pub mod Edges
pub mod Worth
pub mod Faults
pub mod Orders
pub mod Boxes
