-- Laws that other crates' proofs cite.
pub mod BlockLaws
pub mod LengthLaws
pub mod OptionLaws
pub mod PartLaws
pub mod PutLaws
