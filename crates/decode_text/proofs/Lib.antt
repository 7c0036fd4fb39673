pub mod HexLemmas
pub mod HexLaws
pub mod HexReading
pub mod TellLemmas
pub mod FormatLemmas
pub mod SessionLemmas
pub mod MessageLemmas
