-- A second telling of what a library file draws, and test data.
pub mod Told
pub mod Heads
pub mod Numbers
pub mod Orders
pub mod Files
