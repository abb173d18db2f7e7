pub mod Counting
pub mod Packing
pub mod Sames
pub mod Limits
pub mod Words
pub mod Made
