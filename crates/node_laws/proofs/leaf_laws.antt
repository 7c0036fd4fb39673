pub mod Spelled
pub mod Rooted
pub mod Wanted
