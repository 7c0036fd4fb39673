pub mod Bindings
pub mod Labels
pub mod Marks
pub mod Numbers
pub mod Places
pub mod Resting
pub mod States
