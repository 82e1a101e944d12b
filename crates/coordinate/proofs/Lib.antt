-- Laws that this crate's proofs and other crates' cite: values and points as steps.
pub mod ValueLaws
pub mod TurnLaws
