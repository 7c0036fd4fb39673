pub mod Grammar
pub mod Faults
pub mod event_lines
