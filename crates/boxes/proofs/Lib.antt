-- Laws of a box: its points in turn, its checks, its records and their length.
pub mod PointsLaws
pub mod BoxLaws
