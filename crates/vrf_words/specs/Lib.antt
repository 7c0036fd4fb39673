pub use Rattle.umh_select.specs as umh_select
pub use Rattle.edge_words.specs as edge_words
pub mod tree_defs
pub mod tree_laws
