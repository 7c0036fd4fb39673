pub mod Delays
pub mod Patterns
pub mod Order
pub mod Roots
pub mod Leaves
pub mod Waiting
