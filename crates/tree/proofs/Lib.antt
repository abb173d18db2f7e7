pub mod Keeping
pub mod Joining
pub mod Makings
pub mod Readings
pub mod Heights
