pub mod Codes
pub mod Turns
pub mod Packing
pub mod Events
pub mod Names
pub mod Statuses
pub mod Octals
pub mod Sames
