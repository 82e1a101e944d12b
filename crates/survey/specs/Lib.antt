-- The places of a row and their counts, the survey's answer, and what `survey_pitch` promises.
pub mod Places
pub mod Answer
pub mod Survey
