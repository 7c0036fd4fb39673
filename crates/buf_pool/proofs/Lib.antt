pub mod BlockShare
pub mod BlockForm
pub mod BlockShows
pub mod BlockSteps
pub mod CallerLemmas
pub mod KeyLemmas
pub mod TableLemmas
