mod CountLemmas
pub mod LineFacts
