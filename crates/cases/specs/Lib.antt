-- Cells, libraries and streams with the answers that are known of them, and what it is for the definitions to give these.
pub mod Case
pub mod Cells
pub mod LibraryCase
pub mod Libraries
pub mod Streams
pub mod Limits
pub mod Neighbours
pub mod Read
pub mod Edges
pub mod Doubles
pub mod Bounds
pub mod Survey
pub mod Sides
