-- Laws that this crate's proofs and other crates' cite: points in turn, points that pass unchanged, and what an answer says of its step.
pub mod ChunkLaws
pub mod WalkLaws
pub mod IntegerLaws
pub mod PassingLaws
pub mod EndsLaws
