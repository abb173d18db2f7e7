pub mod Counters
pub mod Events
pub mod Setups
pub mod Counting
pub mod Fronts
pub mod Happening
pub mod Masking
