pub mod Network
pub mod Acts
pub mod Rule
pub mod Calm
pub mod Rounds
