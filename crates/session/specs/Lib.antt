pub mod Saying
pub mod Room
pub mod Serving
pub mod Whole
pub mod Records
