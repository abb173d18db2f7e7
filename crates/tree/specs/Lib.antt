pub mod Trees
pub mod Reading
pub mod Making
