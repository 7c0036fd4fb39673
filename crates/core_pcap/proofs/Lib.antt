pub mod Readers
pub mod FieldReaders
pub mod PartReaders
pub mod Files
pub mod Appends
