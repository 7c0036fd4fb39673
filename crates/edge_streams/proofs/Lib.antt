pub mod FedAs
pub mod SessionMaps
pub mod SpelledLemmas
pub mod Prefixes
pub mod Writable
pub mod DrainLemmas
pub mod Calls
pub mod FedLemmas
