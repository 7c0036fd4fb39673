pub mod WordFacts
pub mod OneMore
pub mod OtherRules
pub mod MoreRules
pub mod MoreNames
pub mod KeptRules
