-- What serves the contracts of inner functions and the proofs: nothing here need be believed.
pub mod Places
pub mod Jam
pub mod Normal
pub mod Pattern
