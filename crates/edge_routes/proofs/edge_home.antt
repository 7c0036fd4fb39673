pub mod HomeLemmas
