pub mod PlaceLemmas
pub mod WordsLemmas
pub mod ListFacts
pub mod AddrLemmas
pub mod LineLemmas
pub mod MeetLemmas
