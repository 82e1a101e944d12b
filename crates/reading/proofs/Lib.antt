-- Laws of reading: what was read keeps to the sheet's limits, and its sheet, written with d = 1 and nearest, draws the same and reads the same.
pub mod Kept
pub mod ItemLaws
pub mod KeptLaws
pub mod RealLaws
pub mod Canon
pub mod BodyLaws
pub mod ReferenceLaws
pub mod BoxLaws
pub mod ElementLaws
pub mod TripLaws
