-- Laws of the range of two bounds, and of its answer.
pub mod SpansLaws
pub mod BoundsLaws
