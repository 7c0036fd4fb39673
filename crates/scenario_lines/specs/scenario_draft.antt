pub mod Drafted
pub mod Settings
pub mod Adding
pub mod Naming
pub mod Declaring
