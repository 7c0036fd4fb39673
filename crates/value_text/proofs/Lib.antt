pub mod DottedLemmas
