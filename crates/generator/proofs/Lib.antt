pub mod TextLemmas
pub mod RepeatLemmas
