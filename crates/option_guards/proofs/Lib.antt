-- The guards of flags and plex numbers.
pub mod OptionsLaws
