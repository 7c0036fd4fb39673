pub mod Fronts
pub mod Came
pub mod Lines
pub mod Deliveries
pub mod Moves
pub mod Runs
pub mod Example
