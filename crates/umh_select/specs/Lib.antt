pub mod Order
pub mod Routes
pub mod Edges
