pub mod TextLemmas
pub mod OwnReports
pub mod KnownLemmas
pub mod FirstEventLemmas
pub mod LineLemmas
pub mod OutputLemmas
pub mod KeptLemmas
pub mod EventLemmas
pub mod OutcomeLemmas
pub mod EndLemmas
mod TellLemmas
pub mod AuditLemmas
pub mod RunsLemmas
pub mod CountLemmas
pub mod SweepLemmas
pub mod HopsLemmas
mod ProbeLemmas
