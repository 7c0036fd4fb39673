pub use Rattle.scenario_defs.proofs as scenario_defs
pub use Rattle.mvpn_model.proofs as mvpn_model
pub mod Lists
pub mod Fitting
pub mod Begins
