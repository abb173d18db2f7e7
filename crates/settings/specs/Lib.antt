pub mod Overwriting
pub mod Masks
pub mod Packing
pub mod Sames
pub mod Fields
pub mod Words
pub mod Made
