-- What the program computes of each case, and when a case agrees.
pub mod Whole
pub mod Case
