pub mod Numbering
pub mod Overwriting
