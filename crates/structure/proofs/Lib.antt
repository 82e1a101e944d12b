-- Text in hexadecimal.
pub mod HexLaws
