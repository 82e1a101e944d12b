-- Laws that other crates' proofs cite.
pub mod StepLaws
pub mod ReadyLaws
