pub use Rattle.network_acts.specs.network_laws as network_laws
pub use Rattle.once_laws.specs.delivery_laws as delivery_laws
pub mod Doing
pub mod Meeting
pub mod Parts
pub mod Places
pub mod Customers
pub mod Datagrams
pub mod WorldView
pub mod Behind
pub mod Telling
pub mod Lending
