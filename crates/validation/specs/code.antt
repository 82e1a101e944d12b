-- What serves the contracts of inner functions and the proofs: nothing here need be believed.
pub mod Check
