-- Laws that this crate's proofs and other crates' cite: coordinates and strings at a place, and the places of an element by its kind.
pub mod UnitLaws
pub mod StringLaws
pub mod PlacesLaws
