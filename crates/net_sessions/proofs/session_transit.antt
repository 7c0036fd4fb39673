pub mod DirectionOrder
pub mod Directions
pub mod KeptLemmas
pub mod Totals
