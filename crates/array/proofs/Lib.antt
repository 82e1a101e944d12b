-- The laws that the proofs of an array's conversions rest on.
pub mod CoordinateLaws
pub mod CornerLaws
