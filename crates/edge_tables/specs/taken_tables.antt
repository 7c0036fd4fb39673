pub mod Tables
pub mod Running
pub mod Routes
pub mod Slots
