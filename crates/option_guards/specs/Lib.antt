-- Flags and plex numbers: test data.
pub mod Options
