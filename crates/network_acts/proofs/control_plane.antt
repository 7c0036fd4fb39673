mod ListLemmas
pub mod PlaceLemmas
mod HandingLemmas
mod HandingLoop
mod RestLemmas
mod SteadyLemmas
mod MidLemmas
pub mod OwnLemmas
pub mod FollowLemmas
pub mod CustomerLemmas
mod HandLemmas
pub mod NetworkLemmas
mod StartLemmas
mod DataLemmas
mod MoveLemmas
pub mod MoveActs
pub mod BeginLemmas
pub mod EndLemmas
pub mod NoticeLemmas
pub mod RaiseLemmas
mod QueryLemmas
pub mod DatagramLemmas
pub mod TotalLemmas
