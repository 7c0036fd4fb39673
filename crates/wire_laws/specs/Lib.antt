pub use Rattle.edge_routes.specs as edge_routes
pub mod Edges
pub mod CoreNodes
pub mod AnyNodes
pub mod Ends
pub mod Ways
