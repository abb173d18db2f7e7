mod Sizes
mod Turns
mod Closed
mod Keeping
mod Inputs
