pub use Rattle.mv_base.proofs as mv_base
