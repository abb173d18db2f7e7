pub mod Clocks
pub mod Places
pub mod Orders
pub mod Sames
pub mod Words
