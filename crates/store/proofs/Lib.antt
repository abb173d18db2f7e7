pub mod Granting
pub mod Finding
