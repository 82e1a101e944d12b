-- Laws that this crate's proofs and other crates' cite: the steps before the points, and the bytes and their length.
pub mod FrontLaws
pub mod LengthLaws
pub mod PathLaws
