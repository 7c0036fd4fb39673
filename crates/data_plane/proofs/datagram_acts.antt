pub mod Along
pub mod Numbers
pub mod Stores
pub mod Sending
pub mod Counts
pub mod Told
pub mod Pooled
