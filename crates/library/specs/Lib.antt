-- Writing a library: its cells in turn, the file, the answer in numbers, the order of the refusals, what the file draws, and what its report tells.
pub mod Library
pub mod Answer
pub mod Order
pub mod Agree
pub mod Draws
pub mod Alone
pub mod Sides
