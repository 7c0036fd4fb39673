pub mod HexText
pub mod HexReading
pub mod HexLaws
pub mod Values
pub mod Single
pub mod Sessions
pub mod Formats
