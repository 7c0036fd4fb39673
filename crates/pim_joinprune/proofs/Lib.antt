pub mod Readers
pub mod FieldReaders
pub mod PartReaders
pub mod Sizes
pub mod Whole
pub mod WritingLemmas
pub mod Calls
pub mod Loop
