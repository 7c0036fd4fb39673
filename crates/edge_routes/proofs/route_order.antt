pub mod OrderLemmas
pub mod ValueLemmas
pub mod FrontLemmas
pub mod KeptLemmas
