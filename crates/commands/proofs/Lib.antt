pub mod Exits
pub mod RoundTrip
pub mod Places
