pub mod Orders
pub mod Splits
pub mod Stays
