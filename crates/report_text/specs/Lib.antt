pub mod Parts
pub mod report_lines
