pub mod Repriced
pub mod RowsFound
pub mod CoresFound
