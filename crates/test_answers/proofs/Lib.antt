-- The bytes of an answer.
pub mod AnswerLaws
