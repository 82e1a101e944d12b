-- Laws that this crate's proofs and other crates' cite.
pub mod CheckLaws
pub mod NameLaws
pub mod StampLaws
