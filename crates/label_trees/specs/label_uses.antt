pub mod Uses
pub mod Held
