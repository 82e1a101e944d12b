-- Writing a cell: checks, conversions, refusals and their order, what the written structure draws, and what its report tells.
pub mod Limits
pub mod Stamps
pub mod Names
pub mod Call
pub mod Write
pub mod Boxes
pub mod Cell
pub mod Answer
pub mod Order
pub mod Agree
pub mod Draws
pub mod Demand3
pub mod Edges
pub mod Sides
