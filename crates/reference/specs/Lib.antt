pub mod Beliefs
