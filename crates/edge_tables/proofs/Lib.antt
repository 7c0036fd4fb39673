pub mod WrittenLemmas
pub mod WayLemmas
pub mod SlotLemmas
pub mod PutLemmas
pub mod ActivityLemmas
