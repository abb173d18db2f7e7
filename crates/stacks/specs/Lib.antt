pub mod Copies
pub mod Stacks
