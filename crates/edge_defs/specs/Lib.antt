pub use Rattle.choice_defs.specs as choice_defs
pub use Rattle.bgp_messages.specs as bgp_messages
pub use Rattle.selective_defs.specs as selective_defs
pub use Rattle.pim_defs.specs as pim_defs
pub use Rattle.label_defs.specs as label_defs
pub use Rattle.bgp_messages.specs.bgp_values as bgp_values
pub mod Keys
pub mod Place
pub mod Edge
pub mod Originated
pub mod Imported
pub mod Upstream
pub mod Flows
pub mod Tunnels
pub mod Held
pub mod Messages
pub mod Steps
pub mod Datagrams
pub mod Due
pub mod Example
