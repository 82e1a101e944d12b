-- Laws that other crates' proofs cite.
mod TransformLaws
pub mod StransLaws
