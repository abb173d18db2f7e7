pub mod Places
pub mod Deciding
