-- Blocks by places: where the parts stand, and what stands at a place.
pub mod code
