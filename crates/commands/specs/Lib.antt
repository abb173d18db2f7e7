pub mod Codes
pub mod Frames
pub mod Names
