pub mod EndLemmas
pub mod FreeLemmas
pub mod LabelLemmas
pub mod MarksLemmas
pub mod NamedLemmas
pub mod NumbersLemmas
pub mod PlaceLemmas
pub mod RestingLemmas
