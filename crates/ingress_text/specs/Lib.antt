pub mod Rooted
pub mod Root
pub mod Drafted
pub mod Grammar
pub mod Telling
