pub mod FormatLemmas
pub mod FieldLemmas
pub mod KeyLemmas
pub mod RouteLemmas
pub mod CallLemmas
pub mod WritingLemmas
