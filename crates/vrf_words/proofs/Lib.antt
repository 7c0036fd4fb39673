pub use Rattle.edge_words.proofs as edge_words
