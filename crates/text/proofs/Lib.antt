pub mod Cutting
pub mod Rejoining
