-- Bytes that are the same, a case within the bytes, and the cases in turn.
pub mod SameLaws
pub mod CaseLaws
