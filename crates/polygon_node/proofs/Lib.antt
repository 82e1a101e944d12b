-- Laws that this crate's proofs and other crates' cite: the checks, the bytes and their length, and a polygon's ends.
pub mod CheckLaws
pub mod ShapeLaws
pub mod PolygonLaws
