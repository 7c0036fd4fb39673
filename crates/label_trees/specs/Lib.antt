pub use Rattle.tunnel_bindings.specs as tunnel_bindings
pub use Rattle.label_forwarding.specs as label_forwarding
pub mod Trees
pub mod Loss
pub mod label_uses
