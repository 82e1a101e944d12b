-- The cell sheet: its pairs and blocks, the form of the head and of each element, and the cell that it holds.
pub mod Form
pub mod Element
pub mod Blocks
pub mod Cell
pub mod Encode
pub mod code
pub mod Library
