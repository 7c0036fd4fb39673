pub mod Walks
pub mod Cuts
pub mod Feeds
pub mod Loops
pub mod Fronts
pub mod Headers
pub mod Feedings
pub mod PartsLemmas
