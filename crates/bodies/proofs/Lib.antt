-- Laws that other crates' proofs cite.
pub mod BodyLaws
pub mod LengthLaws
