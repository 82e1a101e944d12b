-- Laws of the definitions: demand 3, the order of refusals, measuring and writing, boxes that close, the entries' sides.
pub mod Taken
pub mod PartLaws
pub mod ElementLaws
pub mod ResultLaws
pub mod CallLaws
pub mod DrawsLaws
pub mod WalkLaws
pub mod OrderLaws
pub mod MeasureLaws
pub mod AnswerLaws
pub mod BoxLaws
pub mod StepLaws
pub mod CauseLaws
pub mod SideLaws
