-- The bytes of an answer, as they are put.
pub mod BytesLaws
