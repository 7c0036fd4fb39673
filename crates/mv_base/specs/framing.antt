pub mod Walk
pub mod Units
pub mod Cut
pub mod Feed
pub mod Feeding
pub mod Parts
