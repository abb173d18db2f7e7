pub mod Flaws
pub mod Cut
pub mod Seen
