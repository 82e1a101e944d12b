-- Laws of a library's result, of its answer, of the order of its refusals, of what its file draws, and of its entries' sides.
pub mod ResultLaws
pub mod AnswerLaws
pub mod CellsLaws
pub mod FileLaws
pub mod OrderLaws
pub mod MeasureLaws
pub mod DrawsLaws
pub mod AloneLaws
pub mod SideLaws
