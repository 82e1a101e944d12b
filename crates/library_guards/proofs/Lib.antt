-- The guards of a library file.
pub mod ToldLaws
pub mod HeadsLaws
pub mod NumbersLaws
pub mod OrdersLaws
pub mod LimitsLaws
pub mod FilesLaws
pub mod WrittenLaws
pub mod Whole
