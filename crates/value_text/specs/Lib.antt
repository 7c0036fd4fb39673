pub mod ValueText
pub mod MessageText
pub mod JoinPruneText
