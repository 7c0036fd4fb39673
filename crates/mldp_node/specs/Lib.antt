pub use Rattle.label_trees.specs as label_trees
pub mod Parts
pub mod Standing
pub mod NodeData
pub mod label_ends
