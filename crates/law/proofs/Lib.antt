pub mod Sorting
pub mod Stepping
pub mod Following
pub mod Keeping
pub mod Repeating
pub mod Fitting
pub mod Proved
