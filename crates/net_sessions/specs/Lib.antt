pub mod session_ways
pub mod session_transit
