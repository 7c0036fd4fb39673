pub mod Keys
pub mod Upstreams
