pub mod Accounts
pub mod Shown
pub mod Asking
pub mod Changing
