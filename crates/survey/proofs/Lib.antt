-- Laws of the pitch survey: one place more, the sum, places that are never disturbed, and each way out of the code.
pub mod PlaceLaws
pub mod CleanLaws
pub mod SurveyLaws
