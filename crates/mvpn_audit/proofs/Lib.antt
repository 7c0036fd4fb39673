mod ExitLemmas
mod FindingLemmas
mod NamedLemmas
mod ReadLemmas
mod VerdictLemmas
