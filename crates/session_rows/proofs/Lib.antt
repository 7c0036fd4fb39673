pub mod RoleLemmas
