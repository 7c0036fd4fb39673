pub use Rattle.label_forwarding.specs as label_forwarding
pub use Rattle.audit_defs.specs as audit_defs
pub use Rattle.audit_defs.specs.mv_base as mv_base
pub use Rattle.audit_defs.specs.scenario_defs as scenario_defs
pub use Rattle.audit_defs.specs.mvpn_model as mvpn_model
pub mod Placed
pub mod Marking
pub mod Joined
pub mod Fates
pub mod Vpns
pub mod Receivers
pub mod Case
pub mod Sents
