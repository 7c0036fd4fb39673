pub mod Tables
pub mod Slots
pub mod taken_tables
pub mod rib_sync
