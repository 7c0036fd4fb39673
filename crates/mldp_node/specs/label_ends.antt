pub mod Ends
pub mod Maps
