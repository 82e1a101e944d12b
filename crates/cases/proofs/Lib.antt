-- The computed tests.
pub mod Open
pub mod Rows
pub mod CellsPass
pub mod LibrariesPass
pub mod StreamsPass
pub mod LimitsPass
pub mod NeighboursPass
pub mod ReadPass
pub mod EdgesPass
pub mod BoundsPass
pub mod SurveyPass
pub mod SidesPass
