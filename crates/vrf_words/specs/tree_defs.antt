pub mod Keys
pub mod Flows
pub mod Trees
