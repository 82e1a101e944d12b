-- Laws that this crate's proofs and other crates' cite: steps of a form at a place, forms of a fixed size, parts in a row, one law for each way out of a check, and what a well-formed block holds.
pub mod Step
pub mod Sized
pub mod Walk
pub mod CoordinateLaws
pub mod PropertyLaws
pub mod HeadLaws
pub mod OptionLaws
pub mod ElementLaws
pub mod HeldLaws
