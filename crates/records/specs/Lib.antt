-- The bytes of one record, as its writers put them.
pub mod code
