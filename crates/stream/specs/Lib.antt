-- The stream: records and their bytes, what the records of a structure say, what that draws, and reading by the manual's grammar.
pub mod Record
pub mod Strings
pub mod Structure
pub mod Drawn
pub mod Records
pub mod Read
pub mod Library
