pub mod Stores
pub mod Versions
