pub mod DecodingLemmas
