pub mod Codes
pub mod Plan
pub mod Changes
pub mod Index
pub mod Ends
