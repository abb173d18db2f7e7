pub mod Refusals
pub mod Verdict
pub mod Widths
