pub mod FrontLemmas
pub mod ReadLemmas
