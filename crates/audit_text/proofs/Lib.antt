pub mod CutLemmas
pub mod ReadLemmas
pub mod SaysLemmas
pub mod MarkLemmas
pub mod ReportTexts
