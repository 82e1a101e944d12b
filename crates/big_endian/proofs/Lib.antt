-- Laws that other crates' proofs cite.
pub mod BigLaws
pub mod BytesLaws
pub mod PlaceLaws
pub mod BufferLaws
pub mod RowLaws
pub mod ApartLaws
