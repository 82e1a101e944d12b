-- The laws that the proofs of a reference rest on.
pub mod CheckLaws
pub mod ValueLaws
pub mod RecordLaws
