pub mod NumberLemmas
pub mod CutLemmas
pub mod DottedLemmas
pub mod AddrTextLemmas
pub mod Fields
pub mod SortedMaps
pub mod AddressLemmas
pub mod AlikeLemmas
