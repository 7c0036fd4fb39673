pub mod Network
pub mod Acts
pub mod Rule
