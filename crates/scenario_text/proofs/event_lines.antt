mod TableLemmas
pub mod RuleFacts
pub mod NetworkFacts
pub mod CustomerFacts
pub mod EventFacts
