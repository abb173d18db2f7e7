pub mod Caches
pub mod Lines
pub mod Quotas
