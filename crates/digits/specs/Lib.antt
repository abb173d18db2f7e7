pub mod Hex
pub mod Held
