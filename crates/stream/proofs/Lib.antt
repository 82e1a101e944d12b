-- Laws of the stream: bytes and records, records and the grammar, and both together.
pub mod Fit
pub mod StringLaws
pub mod RecordLaws
pub mod RunLaws
pub mod PlaceLaws
pub mod AppendLaws
pub mod StepLaws
pub mod Admitted
pub mod ReadLaws
pub mod GoodLaws
pub mod BytesLaws
pub mod BackLaws
pub mod BesideLaws
pub mod FaultLaws
pub mod LenientLaws
