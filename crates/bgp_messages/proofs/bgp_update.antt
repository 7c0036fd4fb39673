pub mod Bodies
pub mod HeaderTests
pub mod Headers
pub mod Messages
pub mod Feeding
pub mod Appending
pub mod ReadsBack
